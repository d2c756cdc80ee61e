use Rattle.app_commands.specs.Flushed.{AllKept}
use Rattle.app_commands.proofs.Devices.{sunk}
use Rattle.app_commands.proofs.transfer.buffered_sinks.Given as goal

abbrev pub invariant-loop-writer : goal.invariant-loop-writer
invariant-loop-writer g l = AllKept g.W.Write.contents (sunk g.W.Write.contents) l.yielded l.sinks.items
