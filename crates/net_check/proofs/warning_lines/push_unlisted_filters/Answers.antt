use Rattle.std.proofs.Common.{◌≡◌, ◌∙◌, ◌++◌, get_or, subst, string_bytes}
use Rattle.net_check.specs.Telling.{unlisted_of_plan}
use Rattle.net_check.proofs.Told.{left_next}
use Rattle.net_check.proofs.warning_lines.push_unlisted_filters.Goals as goal

pub loop-b-preserved : goal.loop-b-preserved
loop-b-preserved g c =
    let same : c.plan.result.now ≡ get_or c.args.plans.now c.loop-b.b c.index-plans-b.result = c.plan.ensures.plan ∙ c.index-plans-b.is in
    left_next c.args.file.now c.args.plans.now c.loop-b.b c.index-plans-b.result _ _ _ c.loop-b-test.true c.loop-b.invariant
    (subst (λ p. string_bytes c.push_unlisted_of_plan.new.text ≡ string_bytes c.loop-b.text ++ unlisted_of_plan c.args.file.now c.loop-b.b p) same c.in-Ok.ensures)
