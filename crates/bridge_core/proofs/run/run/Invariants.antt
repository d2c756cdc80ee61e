use Rattle.std.proofs.Common.{◌≡◌, ℕ, ◌≤◌, List, [], ◌∷◌, length, take, drop}
use Rattle.bridge_config.specs.declared.command.Command.{Command}
use Rattle.bridge_config.specs.Model as config
use Rattle.bridge_capture.specs.Devices.{AreUnfailing}
use Rattle.bridge_relay.specs.Ports.{StartsNoEarlier}
use Rattle.bridge_capture.specs.CaptureReaders.{port_numbers}
use Rattle.bridge_core.specs.CaptureWriters.{writer_ports as written_numbers}
use Rattle.bridge_semantics.specs.Merge.{commands_of}
use Rattle.bridge_core.specs.Running.{AreHeads, first_command, IsUnderWay, CanTakeFrames}
use Rattle.bridge_core.proofs.run.run.Given as goal

abbrev pub invariant-loop-command : goal.invariant-loop-command
invariant-loop-command g l = record {
  may : CanTakeFrames l.relay l.lanes;
  lines : written_numbers l.lines ≡ port_numbers l.lanes;
  sources : length l.sources ≡ length l.lanes;
  sinks : length l.sinks ≡ length l.lines;
  early : (c : Command) → (rest : List Command) → drop l.command-index l.fn.commands ≡ c ∷ rest → l.relay.earliest ≤ c.at;
  plan : l.relay.plan ≡ l.fn.relay.plan;
  numbers : port_numbers l.lanes ≡ port_numbers l.fn.lanes;
  written : written_numbers l.lines ≡ written_numbers l.fn.lines;
  lasts : AreUnfailing g.R.ByteSource.never_fails l.fn.sources → AreUnfailing g.R.ByteSource.never_fails l.sources;
  waits : StartsNoEarlier (g.G.Agenda.held l.relay.ports.agenda) l.relay.earliest;
  heads : AreHeads (g.G.Agenda.held l.heads) l.lanes;
  holds : AreUnfailing g.W.ByteSink.never_fails l.fn.sinks → AreUnfailing g.W.ByteSink.never_fails l.sinks;
  goes : (p : config.Plan g.row.A.Denot) (texts : ℕ → List ℕ) (olds : List g.row.W.Denot)
      → IsUnderWay g.R.ByteSource.remaining g.W.ByteSink.contents p texts [] (first_command l.fn.commands) olds l.fn.relay l.fn.lanes l.fn.sources l.fn.sinks
      → IsUnderWay g.R.ByteSource.remaining g.W.ByteSink.contents p texts (commands_of (take l.command-index l.fn.commands)) (first_command (drop l.command-index l.fn.commands)) olds l.relay l.lanes l.sources l.sinks;
}
