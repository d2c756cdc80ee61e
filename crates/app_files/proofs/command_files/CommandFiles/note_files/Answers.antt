use Rattle.std.proofs.Common.{sym, subst}
use Rattle.app_files.specs.Taken.{BeginWith}
use Rattle.app_files.proofs.Taken.{begin_known}
use Rattle.app_files.proofs.command_files.CommandFiles.note_files.Goals as goal

pub loop-file-preserved : goal.loop-file-preserved
loop-file-preserved g c =
    subst (BeginWith c.args.self.now.in_use.items) (sym c.in_ok-add_file.ensures.added) (begin_known c.args.self.now.in_use.items c.loop-file.self.in_use.items c.open_file_id.result c.loop-file.invariant)
