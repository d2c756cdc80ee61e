use Rattle.std.proofs.Common.{option_map, string_bytes}
use Rattle.app_commands.proofs.ShownEnded.{all_tabled, asked_tabled, sent_tabled}
use Rattle.app_commands.proofs.job.run_with_outputs.Goals as goal

pub returns-in-Err-clause-err : goal.returns-in-Err-clause-err
returns-in-Err-clause-err g c =
    let j = c.args.job.now in
    asked_tabled c.args.accepted.now j.input.now j.output.now (option_map string_bytes j.tables.now.delays) (option_map string_bytes j.tables.now.frames) (option_map (λ s. string_bytes s.file) j.picture.now) c.in-Err.fault c.in-Err.ensures

pub returns-in-Err-run_folder-clause-err : goal.returns-in-Err-run_folder-clause-err
returns-in-Err-run_folder-clause-err g c =
    let j = c.args.job.now in
    sent_tabled c.args.accepted.now j.input.now j.output.now (option_map string_bytes j.tables.now.delays) (option_map string_bytes j.tables.now.frames) (option_map (λ s. string_bytes s.file) j.picture.now) c.in-Err-run_folder.fault
    c.in-Err-run_folder.ensures.err

pub returns-clause-err : goal.returns-clause-err
returns-clause-err g c =
    let j = c.args.job.now in
    all_tabled c.args.accepted.now j.input.now j.output.now (option_map string_bytes j.tables.now.delays) (option_map string_bytes j.tables.now.frames) (option_map (λ s. string_bytes s.file) j.picture.now) c.write_outputs-told.result c.write_outputs-told.ensures.err
