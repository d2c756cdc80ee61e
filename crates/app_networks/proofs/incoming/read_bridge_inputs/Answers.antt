use Rattle.std.proofs.Common.{List, subst}
use Rattle.bridge_config.specs.Model.{Plan}
use Rattle.net_run.specs.Rounds.{AreBridgeInputs}
use Rattle.app_networks.specs.Folders.{EndsReading}
use Rattle.app_networks.proofs.Came.{are_incoming}
use Rattle.app_networks.proofs.Ended.{goes_out, reading_for}
use Rattle.app_networks.proofs.incoming.read_bridge_inputs.Goals as goal

pub returns-in_err-all-clause-ends : goal.returns-in_err-all-clause-ends
returns-in_err-all-clause-ends g c =
    let bridges = c.args.bridges.now in
    let n = c.args.network.now in
    let input = c.args.input.now in
    goes_out (EndsReading n.links n.plans bridges input) c.from_residual.result c.in_err-all.field-0.0 c.from_residual.ensures.1
    (reading_for c.links.result.now n.links c.plans.result.now n.plans bridges input c.in_err-all.field-0.0 c.links.ensures c.plans.ensures.plans c.in_err-all.ensures.ends)

pub returns-clause-came : goal.returns-clause-came
returns-clause-came g c = subst (λ (ps : List (Plan _)). AreBridgeInputs ps c.in_ok-all.all.items) c.plans.ensures.plans (are_incoming c.plans.result.now c.in_ok-all.all.items c.in_ok-all.ensures.came)
