use Rattle.std.proofs.Common.{◌≡◌, nat_eq, sym, subst, Some}
use Rattle.std.specs.Prelude.{IsTrue}
use Rattle.std.specs.Map.{lookup}
use Rattle.bridge_filter.specs.Plans.{is_listed}
use Rattle.bridge_filter.specs.StandsFor.{PoliceState}
use Rattle.bridge_filter.specs.Steps.{HasMeter}
use Rattle.bridge_filter.proofs.Shown.{not_kept, plan_shown}
use Rattle.bridge_filter.proofs.police.Police.filter_state.Goals as goal

pub unreachable-requires : goal.unreachable-requires
unreachable-requires g c = not_kept c.args.filter c.self.inside.filters.entries c.in-None.ensures.value (subst (λ (z : PoliceState _). IsTrue (is_listed c.args.filter z.filters)) (sym c.self.view_is) c.requires)

pub returns-clause-plan : goal.returns-clause-plan
returns-clause-plan g c =
    let f = c.in-Some.kept.now in
    subst (λ (z : PoliceState _). lookup (nat_eq c.args.filter) z.filters ≡ Some f.plan) c.self.view_is (plan_shown c.args.filter c.self.inside.filters.entries f c.in-Some.ensures.value)

pub returns-clause-meter : goal.returns-clause-meter
returns-clause-meter g c =
    let f = c.in-Some.kept.now in
    subst (λ (z : PoliceState _). HasMeter f.plan.meter z.meters) c.self.view_is (c.self.invariant.instances c.args.filter f (sym c.in-Some.ensures.value)).meter
