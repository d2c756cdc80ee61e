use Rattle.std.proofs.Common.{option_map, string_bytes}
use Rattle.app_commands.proofs.ShownEnded.{all_behind}
use Rattle.app_commands.proofs.job.write_outputs.Goals as goal

pub returns-clause-err : goal.returns-clause-err
returns-clause-err g c =
    let j = c.args.job.now in
    all_behind (option_map string_bytes j.tables.now.delays) (option_map string_bytes j.tables.now.frames) (option_map (λ s. string_bytes s.file) j.picture.now) c.write_run_picture.result c.write_run_picture.ensures.err
