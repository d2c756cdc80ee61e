use Rattle.std.proofs.Common.{None, option_map, string_bytes}
use Rattle.app_commands.proofs.ReadTexts.{accepted_plan, reading_of}
use Rattle.app_commands.proofs.ShownEnded.{all_told_of, reading_told}
use Rattle.app_commands.proofs.strict.run_job.Goals as goal

pub returns-in-Err-clause-err : goal.returns-in-Err-clause-err
returns-in-Err-clause-err g c =
    let j = c.args.job.now in
    reading_told _ j.plan.now (option_map string_bytes j.commands.now) j.input.now j.output.now (option_map string_bytes j.tables.now.delays) (option_map string_bytes j.tables.now.frames) (option_map (λ s. string_bytes s.file) j.picture.now) c.in-Err.fault (reading_of _ (λ _. None) j.plan.now (option_map string_bytes j.commands.now) c.in-Err.fault c.in-Err.ensures.err)

pub returns-clause-err : goal.returns-clause-err
returns-clause-err g c =
    let j = c.args.job.now in
    all_told_of c.in-Ok.read.0 j.plan.now (option_map string_bytes j.commands.now) j.input.now j.output.now (option_map string_bytes j.tables.now.delays) (option_map string_bytes j.tables.now.frames) (option_map (λ s. string_bytes s.file) j.picture.now) c.run_accepted_captures-told.result (accepted_plan (λ _. None) j.plan.now c.in-Ok.read.0 c.in-Ok.ensures.accepted) c.run_accepted_captures-told.ensures.err
