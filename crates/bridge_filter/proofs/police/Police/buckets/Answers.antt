use Rattle.std.proofs.Common.{◌≡◌, Option, Some, None, sym, subst}
use Rattle.bridge_meter.specs.declared.Buckets.{Buckets}
use Rattle.bridge_filter.specs.declared.FilterPlan.{FilterPlan}
use Rattle.bridge_filter.specs.Verdicts.{filter_steps, meter_share}
use Rattle.bridge_filter.specs.Counts.{filter_buckets}
use Rattle.bridge_filter.specs.StandsFor.{PoliceState, StandsFor}
use Rattle.bridge_filter.proofs.Shown.{same_plan, buckets_shown, no_buckets_shown}
use Rattle.bridge_filter.proofs.police.Police.buckets.Goals as goal

pub returns-in-Some-clause-buckets : goal.returns-in-Some-clause-buckets
returns-in-Some-clause-buckets g c = λ p es f stands found.
    let plan = c.filter_state.result.plan in
    let st = subst (λ (z : PoliceState _). StandsFor p z es) (sym c.self.view_is) stands in
    let held = c.meter_buckets.ensures.after p.meters (λ n. meter_share n (filter_steps p es)) st.meters in
    let P : FilterPlan → Type 0 = λ x. ◌≡◌ {A = Option Buckets} (Some c.meter_buckets.result) (filter_buckets p x.meter (filter_steps p es)) in
    subst P (same_plan c.args.filter c.args.self.now.filters p.filters plan f stands.filters c.filter_state.ensures.plan found) (buckets_shown p (filter_steps p es) plan c.in-Some.meter c.meter_buckets.result c.in-Some.is held)

pub returns-in-None-clause-buckets : goal.returns-in-None-clause-buckets
returns-in-None-clause-buckets g c = λ p es f stands found.
    let plan = c.filter_state.result.plan in
    let P : FilterPlan → Type 0 = λ x. ◌≡◌ {A = Option Buckets} None (filter_buckets p x.meter (filter_steps p es)) in
    subst P (same_plan c.args.filter c.args.self.now.filters p.filters plan f stands.filters c.filter_state.ensures.plan found) (no_buckets_shown p (filter_steps p es) plan c.in-None.is)
