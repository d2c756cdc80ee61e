use Rattle.app_files.specs.declared.output.Output.{Output}
use Rattle.app_networks.specs.OutputFiles.{AreWrittenBy, IsTapWritten}
use Rattle.app_networks.proofs.Written.{file_contents}
use Rattle.app_networks.proofs.writing.write_captures.Given as goal

abbrev pub invariant-loop-output : goal.invariant-loop-output
invariant-loop-output g l = AreWrittenBy (IsTapWritten (file_contents g.F.Write.contents)) l.yielded l.taps l.done.items
