use Rattle.app_files.specs.Taken.{BeginWith}
use Rattle.app_files.proofs.command_files.CommandFiles.note_files.Given as goal

abbrev pub invariant-loop-file : goal.invariant-loop-file
invariant-loop-file g l = BeginWith l.fn.self.in_use.items l.self.in_use.items
