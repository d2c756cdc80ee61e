use Rattle.app_commands.proofs.RunEnded.{lack_fails, where_named}
use Rattle.app_commands.proofs.run_files.run_folder.Goals as goal

pub returns-in-Ok-clause-named : goal.returns-in-Ok-clause-named
returns-in-Ok-clause-named g c = where_named _ c.send_named.result c.in-Ok.ensures.named

pub returns-in-Err-clause-err : goal.returns-in-Err-clause-err
returns-in-Err-clause-err g c = lack_fails c.args.accepted.now c.args.job.now.input.now c.args.job.now.output.now c.file_failure.result (c.file_failure.ensures.folders c.args.job.now.input.now c.args.job.now.output.now c.in-Err.ensures.unnamed)
