use Rattle.std.proofs.Common.{◌≡◌, ◌≤◌, ℕ, List, Ok, IfSome}
use Rattle.bridge_capture.specs.Grammar.{CapturedFrame}
use Rattle.bridge_config.specs.Model.{Plan}
use Rattle.bridge_relay.specs.Ports.{StartsNoEarlier}
use Rattle.bridge_semantics.specs.Events.{Event}
use Rattle.bridge_capture.specs.Devices.{AreUnfailing}
use Rattle.bridge_relay.specs.RelayState.{count_waiting_copies, RelayStandsFor}
use Rattle.bridge_core.specs.CaptureWriters.{AreWritten, SendsDueFrames, writer_ports}
use Rattle.bridge_core.proofs.capture_writer.send_due_frames.Given as goal

abbrev pub invariant-loop-start : goal.invariant-loop-start
invariant-loop-start g l =
    let contents = g.W.ByteSink.contents in
    let ports = writer_ports l.fn.lines in
    record {
      until : l.until ≡ l.fn.until;
      departs : (p : Plan g.row.A.Denot) (es : List Event) (olds : List g.row.W.Denot) (left : ℕ → List CapturedFrame) → RelayStandsFor p l.fn.relay es left → AreWritten contents ports olds l.fn.sinks left → SendsDueFrames contents p es l.fn.relay.earliest l.fn.until l.relay ports olds l.sinks (Ok tt);
      early : IfSome l.fn.until (λ t. l.relay.earliest ≤ t);
      same : (l.relay.plan ≡ l.fn.relay.plan) × (l.relay.arrived ≡ l.fn.relay.arrived);
      waits : StartsNoEarlier (g.G.Agenda.held l.relay.ports.agenda) l.fn.relay.earliest;
      onward : l.fn.relay.earliest ≤ l.relay.earliest;
      holds : AreUnfailing g.W.ByteSink.never_fails l.fn.sinks → AreUnfailing g.W.ByteSink.never_fails l.sinks;
      numbers : writer_ports l.lines ≡ ports;
    }

abbrev pub decreases-loop-start : goal.decreases-loop-start
decreases-loop-start g l = count_waiting_copies l.relay
