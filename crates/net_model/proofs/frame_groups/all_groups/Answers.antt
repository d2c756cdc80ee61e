use Rattle.std.proofs.Common.{◌≡◌, ◌∙◌, [], get_or, ap₂, sym}
use Rattle.std.proofs.lemmas.List.Sums.{fold_more}
use Rattle.net_model.specs.FrameGroups.{with_plan}
use Rattle.net_model.proofs.frame_groups.all_groups.Goals as goal

pub loop-accepted-preserved : goal.loop-accepted-preserved
loop-accepted-preserved g c =
    let same : c.plan.result.now ≡ get_or c.args.plans.now c.loop-accepted.accepted-index c.accepted-item.result = c.plan.ensures.plan ∙ c.accepted-item.is in
    c.in_ok-add_plan_groups.ensures ∙ (ap₂ with_plan c.loop-accepted.invariant same ∙ sym (fold_more with_plan [] c.args.plans.now c.loop-accepted.accepted-index c.accepted-item.result c.loop-accepted-test.true))
