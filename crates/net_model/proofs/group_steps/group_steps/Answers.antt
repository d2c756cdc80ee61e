use Rattle.std.proofs.Common.{◌≡◌, ◌∙◌, ◌++◌, get_or, subst}
use Rattle.net_model.specs.LoopSteps.{steps_of_bridge}
use Rattle.net_model.proofs.Stepping.{steps_next}
use Rattle.net_model.proofs.group_steps.group_steps.Goals as goal

pub loop-place-preserved : goal.loop-place-preserved
loop-place-preserved g c =
    let same : c.plan.result.now ≡ get_or c.args.plans.now c.loop-place.place c.index-plans-place.result = c.plan.ensures.plan ∙ c.index-plans-place.is in
    steps_next c.args.links.now c.args.group.now c.args.plans.now c.loop-place.place c.index-plans-place.result c.loop-place.steps.items c.push_bridge_steps.new.steps.items _ c.loop-place-test.true c.loop-place.invariant
    (subst (λ p. c.push_bridge_steps.new.steps.items ≡ c.loop-place.steps.items ++ steps_of_bridge c.args.links.now c.args.group.now c.loop-place.place p) same c.in_ok-push_bridge_steps.ensures)
