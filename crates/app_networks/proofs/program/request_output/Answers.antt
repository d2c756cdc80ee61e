use Rattle.app_networks.proofs.Asked.{failed}
use Rattle.app_networks.proofs.program.request_output.Goals as goal

pub returns : goal.returns
returns g c = failed c.args.request.now c.in-Err.fault c.report_failure.result c.in-Err.ensures.fails c.report_failure.ensures
