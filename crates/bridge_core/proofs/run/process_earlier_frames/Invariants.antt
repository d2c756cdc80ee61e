use Rattle.std.proofs.Common.{◌≡◌, ℕ, ◌≤◌, List, Option, Some, length}
use Rattle.std.specs.Prelude.{IfSome}
use Rattle.bridge_config.specs.Model as config
use Rattle.bridge_semantics.specs.Merge.{Input}
use Rattle.bridge_capture.specs.Devices.{AreUnfailing}
use Rattle.bridge_relay.specs.Ports.{StartsNoEarlier}
use Rattle.bridge_capture.specs.CaptureReaders.{port_numbers, total_frames_left}
use Rattle.bridge_core.specs.CaptureWriters.{writer_ports as written_numbers}
use Rattle.bridge_core.specs.Running.{AreHeads, IsUnderWay, CanTakeFrames}
use Rattle.bridge_core.proofs.run.process_earlier_frames.Given as goal

abbrev pub invariant-loop-place : goal.invariant-loop-place
invariant-loop-place g l = record {
  may : CanTakeFrames l.relay l.lanes;
  lines : written_numbers l.lines ≡ port_numbers l.lanes;
  sources : length l.sources ≡ length l.lanes;
  sinks : length l.sinks ≡ length l.lines;
  until : l.until ≡ l.fn.until;
  early : IfSome l.until (λ t. l.relay.earliest ≤ t);
  plan : l.relay.plan ≡ l.fn.relay.plan;
  numbers : port_numbers l.lanes ≡ port_numbers l.fn.lanes;
  written : written_numbers l.lines ≡ written_numbers l.fn.lines;
  lasts : AreUnfailing g.R.ByteSource.never_fails l.fn.sources → AreUnfailing g.R.ByteSource.never_fails l.sources;
  waits : StartsNoEarlier (g.G.Agenda.held l.relay.ports.agenda) l.relay.earliest;
  heads : AreHeads (g.G.Agenda.held l.heads) l.lanes;
  holds : AreUnfailing g.W.ByteSink.never_fails l.fn.sinks → AreUnfailing g.W.ByteSink.never_fails l.sinks;
  goes : (p : config.Plan g.row.A.Denot) (texts : ℕ → List ℕ) (commanded : List Input) (next : Option Input) (olds : List g.row.W.Denot) → IfSome next (λ y. l.fn.until ≡ Some y.at)
      → IsUnderWay g.R.ByteSource.remaining g.W.ByteSink.contents p texts commanded next olds l.fn.relay l.fn.lanes l.fn.sources l.fn.sinks
      → IsUnderWay g.R.ByteSource.remaining g.W.ByteSink.contents p texts commanded next olds l.relay l.lanes l.sources l.sinks;
}

abbrev pub decreases-loop-place : goal.decreases-loop-place
decreases-loop-place g l = total_frames_left l.lanes
