use Rattle.std.proofs.Common.{[], inl, option_map, string_bytes}
use Rattle.app_failure.specs.declared.fault.Failure.TheVariants as fault
use Rattle.app_commands.proofs.CommandRan.{ran}
use Rattle.app_commands.proofs.ShownEnded.{reading_told}
use Rattle.app_commands.proofs.run.run_bridge.Goals as goal

pub returns-in-Ok-run_output-clause-ok : goal.returns-in-Ok-run_output-clause-ok
returns-in-Ok-run_output-clause-ok g c =
    ran c.args.job.now.input.now c.args.job.now.output.now c.args.flags.is_strict c.args.flags.is_explained c.in-Ok.run' c.in-Ok-run_output.output
    c.in-Ok.ensures.ok c.in-Ok.ensures.named c.in-Ok.ensures.warned c.in-Ok.ensures.left c.in-Ok.ensures.none c.in-Ok.ensures.notes c.in-Ok.ensures.lost c.in-Ok-run_output.ensures

pub returns-in-Err-run_output-clause-fails : goal.returns-in-Err-run_output-clause-fails
returns-in-Err-run_output-clause-fails g c =
    let j = c.args.job.now in
    reading_told _ j.plan.now (option_map string_bytes j.commands.now) j.input.now j.output.now (option_map string_bytes j.tables.now.delays) (option_map string_bytes j.tables.now.frames) (option_map (λ s. string_bytes s.file) j.picture.now) fault.NoMemory (inl ([], tt))
