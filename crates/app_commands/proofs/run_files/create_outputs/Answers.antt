use Rattle.std.proofs.Common.{inl}
use Rattle.app_commands.proofs.run_files.create_outputs.Goals as goal

pub returns-in-Err-clause-only : goal.returns-in-Err-clause-only
returns-in-Err-clause-only g c = inl (c.file_failure.ensures.captures _ c.args.folder.now c.args.ports.now c.in-Err.ensures.fails)
