use Rattle.std.proofs.Common.{◌≡◌, false, sym, subst}
use Rattle.bridge_filter.specs.declared.FilterPlan.{FilterPlan}
use Rattle.bridge_filter.specs.declared.Flags.{Flags}
use Rattle.bridge_filter.specs.Verdicts.{filter_steps, gate_share, meter_share}
use Rattle.bridge_filter.specs.Counts.{filter_flags}
use Rattle.bridge_filter.specs.StandsFor.{PoliceState, StandsFor}
use Rattle.bridge_filter.proofs.Shown.{same_plan, red_shown, no_red_shown, flags_shown}
use Rattle.bridge_filter.proofs.police.Police.flags.Goals as goal

pub returns-in-Some-clause-flags : goal.returns-in-Some-clause-flags
returns-in-Some-clause-flags g c = λ p es f stands found.
    let n = c.args.filter in
    let kept = c.filter_state-kept.result in
    let ss = filter_steps p es in
    let st = subst (λ (z : PoliceState _). StandsFor p z es) (sym c.self.view_is) stands in
    let held = c.meter_buckets.ensures.after p.meters (λ k. meter_share k ss) st.meters in
    let red = red_shown p ss kept.plan c.in-Some.meter c.meter_buckets.result c.in-Some.is held in
    let rx = c.gate_flags-rx.ensures.rx p.gates (λ k. gate_share k ss) st.gates in
    let octets = c.gate_flags-rx.ensures.octets p.gates (λ k. gate_share k ss) st.gates in
    let blocked = (stands.kept n kept c.filter_state-kept.ensures.kept).blocked in
    let flags : Flags = record { blocked = kept.blocked; rx = c.gate_flags-rx.result.0; octets = c.gate_flags-rx.result.1; red = c.meter_buckets.result.all_red } in
    let P : FilterPlan → Type 0 = λ x. flags ≡ filter_flags p n x ss in
    subst P (same_plan n c.args.self.now.filters p.filters kept.plan f stands.filters c.filter_state-kept.ensures.plan found) (flags_shown p n kept.plan ss kept.blocked c.gate_flags-rx.result.0 c.gate_flags-rx.result.1 c.meter_buckets.result.all_red blocked rx octets red)

pub returns-in-None-clause-flags : goal.returns-in-None-clause-flags
returns-in-None-clause-flags g c = λ p es f stands found.
    let n = c.args.filter in
    let kept = c.filter_state-kept.result in
    let ss = filter_steps p es in
    let st = subst (λ (z : PoliceState _). StandsFor p z es) (sym c.self.view_is) stands in
    let red = no_red_shown p ss kept.plan c.in-None.is in
    let rx = c.gate_flags-rx.ensures.rx p.gates (λ k. gate_share k ss) st.gates in
    let octets = c.gate_flags-rx.ensures.octets p.gates (λ k. gate_share k ss) st.gates in
    let blocked = (stands.kept n kept c.filter_state-kept.ensures.kept).blocked in
    let flags : Flags = record { blocked = kept.blocked; rx = c.gate_flags-rx.result.0; octets = c.gate_flags-rx.result.1; red = false } in
    let P : FilterPlan → Type 0 = λ x. flags ≡ filter_flags p n x ss in
    subst P (same_plan n c.args.self.now.filters p.filters kept.plan f stands.filters c.filter_state-kept.ensures.plan found) (flags_shown p n kept.plan ss kept.blocked c.gate_flags-rx.result.0 c.gate_flags-rx.result.1 false blocked rx octets red)
