use Rattle.std.proofs.Common.{◌+◌, arith}
use Rattle.bridge_config.specs.Rules.{find_port}
use Rattle.net_model.specs.LoopSteps.{steps_of_port}
use Rattle.net_model.proofs.Stepping.{next_below}
use Rattle.net_model.proofs.group_steps.push_bridge_steps.Goals as goal

pub loop-i-preserved : goal.loop-i-preserved
loop-i-preserved g c =
    let less = c.loop-i-test.true in (
      omega (arith, less),
      next_below (λ i. steps_of_port c.args.links.now c.args.group.now c.args.bridge c.args.plan.now (i + 1) (find_port c.args.plan.now.ports (i + 1))) c.loop-i.i c.args.steps.now.items c.loop-i.steps.items c.push_port_steps.new.steps.items c.loop-i.invariant.1 c.in_ok-push_port_steps.ensures,
    )
