use Rattle.std.proofs.Common.{rules, ◌≡◌, arith}
use Rattle.bridge_groups.specs.CostCurves as spec
use Rattle.bridge_groups.proofs.FrameCosts.{octet_cost_few}
use Rattle.bridge_groups.proofs.frame_costs.octet_cost.Goals as goal

pub returns-clause-exact : goal.returns-clause-exact
returns-clause-exact c = search rules

pub returns-clause-few : goal.returns-clause-few
returns-clause-few c =
    let exact : c.max-2.result ≡ spec.octet_cost c.args.fit c.args.speed c.args.sdu = search rules in
    let few = octet_cost_few c.args.fit c.args.speed c.args.sdu in
    omega (arith, exact, few)
