use Rattle.std.proofs.Common.{option_map, string_bytes}
use Rattle.app_networks.specs.Folders.{EndsRun}
use Rattle.app_networks.proofs.Ended.{goes_out}
use Rattle.app_networks.proofs.RunFiles.{inputs_end, outputs_end}
use Rattle.app_networks.proofs.job.open_run.Goals as goal

pub returns-in_err-incoming-clause-err : goal.returns-in_err-incoming-clause-err
returns-in_err-incoming-clause-err g c =
    let n = c.args.network.now in
    let bridges = c.args.file.now.bridges in
    let input = c.args.job.now.input.now in
    let output = c.args.job.now.output.now in
    let picture = option_map string_bytes c.args.job.now.picture.now in
    goes_out (EndsRun n bridges input output picture) c.from_residual.result _ c.from_residual.ensures.1
    (inputs_end n bridges c.bridges-bridges.result.now input output picture _ c.bridges-bridges.ensures.bridges c.in_err-incoming.ensures.ends)

pub returns-in-Err-open_outputs-clause-err : goal.returns-in-Err-open_outputs-clause-err
returns-in-Err-open_outputs-clause-err g c =
    let n = c.args.network.now in
    let bridges = c.args.file.now.bridges in
    outputs_end n bridges c.bridges-bridges.result.now c.plans-plans.result.now c.args.job.now.input.now c.args.job.now.output.now (option_map string_bytes c.args.job.now.picture.now) c.in-Err-open_outputs.fault
    c.plans-plans.ensures.plans c.bridges-bridges.ensures.bridges c.in-Err-open_outputs.ensures
