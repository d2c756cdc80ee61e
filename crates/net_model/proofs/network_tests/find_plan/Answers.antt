use Rattle.std.proofs.Common.{Some, arith, sym, ap, subst, ◌∙◌}
use Rattle.std.proofs.lemmas.Option.{slice_get-get_or}
use Rattle.bridge_config.specs.Model.{Plan}
use Rattle.bridge_config.specs.Rules.{IsPlan}
use Rattle.net_model.proofs.network_tests.find_plan.Goals as goal

pub returns-then-place-plans-clause-plan : goal.returns-then-place-plans-clause-plan
returns-then-place-plans-clause-plan g c =
    ap (λ (p : Plan g.row.A.Denot). Some p) (c.plan.ensures.plan ∙ c.index-plans-place.is) ∙ sym (slice_get-get_or c.args.plans.now c.args.place c.index-plans-place.result c.if-place-plans.true)

pub returns-then-place-plans-clause-rules : goal.returns-then-place-plans-clause-rules
returns-then-place-plans-clause-rules g c = subst IsPlan (sym c.plan.ensures.plan) c.plan.ensures.rules

pub bounds-plans-place : goal.bounds-plans-place
bounds-plans-place g c = c.if-place-plans.true

pub plan-requires : goal.plan-requires
plan-requires g c κs h = h

pub offset_bounds-plans-place : goal.offset_bounds-plans-place
offset_bounds-plans-place g c = let m = c.if-place-plans.true in omega arith
