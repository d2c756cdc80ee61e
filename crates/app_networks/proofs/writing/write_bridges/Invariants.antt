use Rattle.app_networks.specs.OutputFiles.{AreWrittenBy, IsBridgeWritten}
use Rattle.app_networks.proofs.Written.{file_contents}
use Rattle.app_networks.proofs.writing.write_bridges.Given as goal

abbrev pub invariant-loop-opened : goal.invariant-loop-opened
invariant-loop-opened g l = AreWrittenBy (IsBridgeWritten (file_contents g.F.Write.contents)) l.yielded l.settled l.done.items
