use Rattle.std.proofs.Common.{◌≡◌, ℕ, Bool, false, List, refl, ap, ◌∙◌, sym}
use Rattle.std.specs.Prelude.{nat_eq, ◌&&◌, Option, Some, None, IsTrue}
use Rattle.std.specs.Option.{option_map, is_some}
use Rattle.std.specs.Map.{lookup}
use Rattle.std.proofs.lemmas.Option.{same_Some}
use Rattle.bridge_meter.specs.declared.Buckets.{Buckets}
use Rattle.bridge_meter.specs.Colours as meter
use Rattle.bridge_meter.proofs.Stands.{held_red}
use Rattle.bridge_gate.specs.Gates as gates
use Rattle.bridge_filter.specs.declared.FilterPlan.{FilterPlan}
use Rattle.bridge_filter.specs.declared.Flags.{Flags}
use Rattle.bridge_filter.specs.declared.filter_state.FilterState.{FilterState}
use Rattle.bridge_filter.specs.Verdicts.{PolicePlans, FilterStep, gate_share, meter_share, is_blocked}
use Rattle.bridge_filter.specs.Counts.{filter_flags, is_meter_red, filter_buckets}
use Rattle.bridge_filter.specs.Plans.{is_listed}
use Rattle.bridge_filter.specs.Steps.{filter_plans}
use Rattle.bridge_filter.proofs.Flows.{is_there-lookup}
use Rattle.bridge_filter.proofs.Judging.{lookup-plans_in}

-- A listed filter has a state.
pub not_kept : (n : ℕ) (fs : List (ℕ × FilterState)) → None ≡ lookup (nat_eq n) fs → IsTrue (is_listed n (filter_plans fs)) → ⊥
not_kept n fs h there =
    let e : is_listed n (filter_plans fs) ≡ false = is_there-lookup n (filter_plans fs) ∙ ap is_some (lookup-plans_in n fs ∙ ap (option_map (λ (f : FilterState). f.plan)) (sym h)) in
    cc

-- The plan in a filter's state is the plan in the list.
pub plan_shown : (n : ℕ) (fs : List (ℕ × FilterState)) (f : FilterState) → Some f ≡ lookup (nat_eq n) fs → lookup (nat_eq n) (filter_plans fs) ≡ Some f.plan
plan_shown n fs f h = lookup-plans_in n fs ∙ ap (option_map (λ (x : FilterState). x.plan)) (sym h)

pub same_plan : (n : ℕ) (fs gs : List (ℕ × FilterPlan)) (f g : FilterPlan) → fs ≡ gs → lookup (nat_eq n) fs ≡ Some f → lookup (nat_eq n) gs ≡ Some g → f ≡ g
same_plan n fs gs f g e h k = same_Some f g (sym h ∙ (ap (λ (z : List (ℕ × FilterPlan)). lookup (nat_eq n) z) e ∙ k))

pub buckets_shown : (p : PolicePlans) (ss : List FilterStep) (f : FilterPlan) (m : ℕ) (b : Buckets) → f.meter ≡ Some m → b ≡ meter.history_buckets (p.meters m) (meter.meter_history (p.meters m) (meter_share m ss)) → Some b ≡ filter_buckets p f.meter ss
buckets_shown p ss f m b h e = ap Some e ∙ ap (λ (o : Option ℕ). filter_buckets p o ss) (sym h)

pub red_shown : (p : PolicePlans) (ss : List FilterStep) (f : FilterPlan) (m : ℕ) (b : Buckets) → f.meter ≡ Some m → b ≡ meter.history_buckets (p.meters m) (meter.meter_history (p.meters m) (meter_share m ss)) → b.all_red ≡ is_meter_red p f.meter ss
red_shown p ss f m b h e =
    let x = meter.meter_history (p.meters m) (meter_share m ss) in
    ap (λ (z : Buckets). z.all_red) e ∙ (held_red (meter.meter_limits (p.meters m)) x.all_red x.judged ∙ ap (λ (o : Option ℕ). is_meter_red p o ss) (sym h))

pub no_red_shown : (p : PolicePlans) (ss : List FilterStep) (f : FilterPlan) → f.meter ≡ None → false ≡ is_meter_red p f.meter ss
no_red_shown p ss f h = ap (λ (o : Option ℕ). is_meter_red p o ss) (sym h)

pub no_buckets_shown : (p : PolicePlans) (ss : List FilterStep) (f : FilterPlan) → f.meter ≡ None → None ≡ filter_buckets p f.meter ss
no_buckets_shown p ss f h = ap (λ (o : Option ℕ). filter_buckets p o ss) (sym h)

-- Flags of a filter, from the flags of its gate and meter.
pub flags_shown : (p : PolicePlans) (n : ℕ) (f : FilterPlan) (ss : List FilterStep) (blocked rx octets red : Bool) → blocked ≡ f.block_oversize && is_blocked n ss → rx ≡ (p.gates f.gate).shut_on_rx && gates.is_shut_by_rx (gates.gate_steps (p.gates f.gate) (gate_share f.gate ss)) → octets ≡ (p.gates f.gate).shut_on_octets && gates.is_shut_by_octets (gates.gate_steps (p.gates f.gate) (gate_share f.gate ss)) → red ≡ is_meter_red p f.meter ss → (let z : Flags = record { blocked = blocked; rx = rx; octets = octets; red = red } in z) ≡ filter_flags p n f ss
flags_shown p n f ss blocked rx octets red a b c d = rw (a, b, c, d) refl
