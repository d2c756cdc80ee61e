use Rattle.std.proofs.Common.{◌≡◌, ℕ, Bool, true, false, List, [], ◌∷◌, ◌++◌, ◌+◌, ◌≤◌, ◌<◌, arith, refl, ap, ◌∙◌, sym, subst, length, zero, suc}
use Rattle.std.specs.Prelude.{nat_eq, if◌then◌else◌, ◌&&◌, ◌||◌, Option, Some, None, IfSome, count_by, slice_get}
use Rattle.bridge_meter.specs.StandsFor as meter
use Rattle.bridge_gate.specs.StandsFor as gate
use Rattle.bridge_filter.specs.Plans.{KeepsNumbers}
use Rattle.bridge_filter.specs.declared.FilterPlan.{FilterPlan}
use Rattle.bridge_filter.specs.declared.Verdict.{Verdict}
use Rattle.bridge_filter.specs.declared.Verdict.TheVariants as verdict
use Rattle.bridge_filter.specs.declared.Counters.{Counters}
use Rattle.bridge_filter.specs.declared.filter_state.FilterState.{FilterState}
use Rattle.bridge_filter.specs.Verdicts.{PolicePlans, FilterStep, Judged, FilterInput, frame_verdict, answer_verdict, gate_answer, gate_share, meter_share, is_above_max, is_blocked, is_oversize, has_reached_gate, has_passed_gate}
use Rattle.bridge_filter.specs.Counts.{filter_verdicts, verdict_counters, is_refused_by_gate, is_dropped_by_meter}
use Rattle.bridge_filter.specs.StandsFor.{HasVerdictState, HaveVerdictStates}
use Rattle.bridge_filter.specs.Steps.{refusal, StandForShares, counters_with_verdict, state_with_verdict, count_if, AreBounded, HasMeter, HasInstances, HaveInstances, filter_plans}
use Rattle.std.specs.Map.{lookup, set_value, keys_of}
use Rattle.indexmap.specs.Layout.{set_value_at}
use Rattle.bridge_filter.specs.Routes.{IsOptionalIndex}
use Rattle.std.specs.Option.{option_map}
use Rattle.std.proofs.lemmas.List.{append-nil, length-map}
use Rattle.std.proofs.lemmas.List.Sums.{sum_by-append}
use Rattle.std.proofs.lemmas.Option.{same_Some, slice_get-map, slice_get_within, some_pair_parts}
use Rattle.bridge_limits.proofs.Cases.{by_bool}
use Rattle.bridge_limits.proofs.Lists.{one_longer}
use Rattle.bridge_limits.proofs.Orders.{same_eq}
use Rattle.bridge_filter.proofs.Numbered.{Changes, each_after, place_within}
use Rattle.bridge_filter.proofs.Shares.{gate_share-refused, meter_share-refused, gates_stand_same, meters_stand_same}

refused_by : (a b : Bool) (v z : Verdict) → (if a then Some verdict.Blocked else (if b then Some verdict.Oversize else None)) ≡ Some v → v ≡ (if a then verdict.Blocked else (if b then verdict.Oversize else z))
refused_by true b v z h = sym (same_Some _ _ h)
refused_by false true v z h = sym (same_Some _ _ h)
refused_by false false v z h = absurd (cc)

admitted_by : (a b : Bool) (z : Verdict) → (if a then Some verdict.Blocked else (if b then Some verdict.Oversize else None)) ≡ None → z ≡ (if a then verdict.Blocked else (if b then verdict.Oversize else z))
admitted_by true b z h = absurd (cc)
admitted_by false true z h = absurd (cc)
admitted_by false false z h = refl

-- A refusal before the gate is the verdict.
pub refusal_is_verdict : (p : PolicePlans) (ss : List FilterStep) (c : FilterInput) (n : ℕ) (f : FilterState) (v : Verdict) → HasVerdictState n f ss → refusal f c.sdu ≡ Some v → v ≡ frame_verdict p ss c n f.plan
refusal_is_verdict p ss c n f v k h =
    refused_by (f.plan.block_oversize && is_blocked n ss) (is_above_max f.plan.max_sdu c.sdu) v (answer_verdict p ss c f.plan (gate_answer p ss c f.plan.gate))
    (subst (λ (b : Bool). (if b then Some verdict.Blocked else (if is_above_max f.plan.max_sdu c.sdu then Some verdict.Oversize else None)) ≡ Some v) k.blocked h)

-- Without such a refusal, gate and meter give the verdict.
pub admitted_verdict : (p : PolicePlans) (ss : List FilterStep) (c : FilterInput) (n : ℕ) (f : FilterState) → HasVerdictState n f ss → refusal f c.sdu ≡ None → answer_verdict p ss c f.plan (gate_answer p ss c f.plan.gate) ≡ frame_verdict p ss c n f.plan
admitted_verdict p ss c n f k h =
    admitted_by (f.plan.block_oversize && is_blocked n ss) (is_above_max f.plan.max_sdu c.sdu) (answer_verdict p ss c f.plan (gate_answer p ss c f.plan.gate))
    (subst (λ (b : Bool). (if b then Some verdict.Blocked else (if is_above_max f.plan.max_sdu c.sdu then Some verdict.Oversize else None)) ≡ None) k.blocked h)

refused_early : (a b : Bool) (v : Verdict) → (if a then Some verdict.Blocked else (if b then Some verdict.Oversize else None)) ≡ Some v → (has_reached_gate v ≡ false) × (has_passed_gate v ≡ false)
refused_early true b v h = let e = sym (same_Some _ _ h) in rw e (refl, refl)
refused_early false true v h = let e = sym (same_Some _ _ h) in rw e (refl, refl)
refused_early false false v h = absurd (cc)

-- A frame refused before the gate is an event of no gate and no meter.
pub refused_shares : {A : Type 0} (p : PolicePlans) (gates : List (ℕ × gate.GateState A)) (meters : List (ℕ × meter.MeterState)) (ss : List FilterStep) (c : FilterInput) (n : ℕ) (f : FilterState) (v : Verdict) → refusal f c.sdu ≡ Some v → StandForShares p gates meters ss → StandForShares p gates meters (Judged c n f.plan v ∷ ss)
refused_shares p gates meters ss c n f v h are =
    let early = refused_early f.blocked (is_above_max f.plan.max_sdu c.sdu) v h in
    record {
      gates_stand = gates_stand_same p.gates gates (λ k. gate_share k ss) (λ k. gate_share k (Judged c n f.plan v ∷ ss)) (λ k. gate_share-refused k n c f.plan v ss early.0) are.gates_stand;
      meters_stand = meters_stand_same p.meters meters (λ k. meter_share k ss) (λ k. meter_share k (Judged c n f.plan v ∷ ss)) (λ k. meter_share-refused k n c f.plan v ss early.1) are.meters_stand;
    }

-- Counts one more verdict.

count_by-more : (p : Verdict → Bool) (vs : List Verdict) (v : Verdict) → count_by p (vs ++ v ∷ []) ≡ count_by p vs + count_if (p v)
count_by-more p vs v = sum_by-append (λ (x : Verdict). count_if (p x)) vs (v ∷ []) ∙ omega arith

-- Adding one verdict to the counters gives the counters of the extended list.
pub counters_of-more : (vs : List Verdict) (v : Verdict) → verdict_counters (vs ++ v ∷ []) ≡ counters_with_verdict (verdict_counters vs) v
counters_of-more vs v = rw (one_longer vs v, count_by-more has_reached_gate vs v, count_by-more is_oversize vs v, count_by-more has_passed_gate vs v, count_by-more is_refused_by_gate vs v, count_by-more is_dropped_by_meter vs v) refl

blocked_more : (enabled over was : Bool) → (enabled && was) || (enabled && over) ≡ enabled && (over || was)
blocked_more true true true = refl
blocked_more true true false = refl
blocked_more true false true = refl
blocked_more true false false = refl
blocked_more false over was = refl

-- State of a filter after one of its frames.
pub kept_own : (n : ℕ) (f : FilterState) (c : FilterInput) (plan : FilterPlan) (v : Verdict) (ss : List FilterStep) → HasVerdictState n f ss → HasVerdictState n (state_with_verdict f v) (Judged c n plan v ∷ ss)
kept_own n f c plan v ss k = record {
  counters = rw (same_eq n, k.counters) (sym (counters_of-more (filter_verdicts n ss) v));
  blocked = rw (same_eq n, k.blocked) (blocked_more f.plan.block_oversize (is_oversize v) (is_blocked n ss));
}

-- State of a filter after a frame of another filter.
pub kept_other : (n m : ℕ) (f : FilterState) (c : FilterInput) (plan : FilterPlan) (v : Verdict) (ss : List FilterStep) → nat_eq m n ≡ false → HasVerdictState n f ss → HasVerdictState n f (Judged c m plan v ∷ ss)
kept_other n m f c plan v ss differ k = record {
  counters = rw (differ, append-nil (filter_verdicts n ss)) k.counters;
  blocked = rw differ k.blocked;
}

pub kept_after : (old new : List (ℕ × FilterState)) (n : ℕ) (f : FilterState) (c : FilterInput) (plan : FilterPlan) (v : Verdict) (ss : List FilterStep) → Changes old new n f (state_with_verdict f v) → HaveVerdictStates old ss → HaveVerdictStates new (Judged c n plan v ∷ ss)
kept_after old new n f c plan v ss change kept =
    each_after old new n f (state_with_verdict f v) (λ k z. HasVerdictState k z ss) (λ k z. HasVerdictState k z (Judged c n plan v ∷ ss)) change kept (kept_own n f c plan v ss) (λ k z differ. kept_other k n z c plan v ss differ)

-- Counters stay in range.

at_most_more : (b : Bool) (x m : ℕ) → x ≤ m → x + count_if b ≤ m + 1
at_most_more true x m h = omega arith
at_most_more false x m h = omega arith

at_most_counted : (c : Counters) (v : Verdict) (m : ℕ) → AreBounded c m → AreBounded (counters_with_verdict c v) (m + 1)
at_most_counted c v m h = record {
  matching = at_most_more true c.matching m h.matching;
  sdu_passed = at_most_more (has_reached_gate v) c.sdu_passed m h.sdu_passed;
  sdu_refused = at_most_more (is_oversize v) c.sdu_refused m h.sdu_refused;
  gate_passed = at_most_more (has_passed_gate v) c.gate_passed m h.gate_passed;
  gate_refused = at_most_more (is_refused_by_gate v) c.gate_refused m h.gate_refused;
  red = at_most_more (is_dropped_by_meter v) c.red m h.red;
}

pub at_most_later : (c : Counters) (m n : ℕ) → m ≤ n → AreBounded c m → AreBounded c n
at_most_later c m n le h =
    let a = h.matching in
    let b = h.sdu_passed in
    let d = h.sdu_refused in
    let e = h.gate_passed in
    let f = h.gate_refused in
    let g = h.red in
    record { matching = omega arith; sdu_passed = omega arith; sdu_refused = omega arith; gate_passed = omega arith; gate_refused = omega arith; red = omega arith }

pub has_meter_later : {X Y : Type 0} (o : Option ℕ) (xs : List (ℕ × X)) (ys : List (ℕ × Y)) → KeepsNumbers xs ys → HasMeter o xs → HasMeter o ys
has_meter_later None xs ys same h = h
has_meter_later (Some n) xs ys same h = same n h

pub instances_later : {A : Type 0} (f : FilterState) (gates more_gates : List (ℕ × gate.GateState A)) (meters more_meters : List (ℕ × meter.MeterState)) (calls later : ℕ) → KeepsNumbers gates more_gates → KeepsNumbers meters more_meters → calls ≤ later → HasInstances f gates meters calls → HasInstances f more_gates more_meters later
instances_later f gates more_gates meters more_meters calls later g m le h = record {
  gate = g f.plan.gate h.gate;
  meter = has_meter_later f.plan.meter meters more_meters m h.meter;
  few = at_most_later f.counters calls later le h.few;
}

pub instances_after : {A : Type 0} (old new : List (ℕ × FilterState)) (n : ℕ) (f : FilterState) (v : Verdict) (gates more_gates : List (ℕ × gate.GateState A)) (meters more_meters : List (ℕ × meter.MeterState)) (calls : ℕ) → Changes old new n f (state_with_verdict f v) → KeepsNumbers gates more_gates → KeepsNumbers meters more_meters → HaveInstances old gates meters calls → HaveInstances new more_gates more_meters (calls + 1)
instances_after old new n f v gates more_gates meters more_meters calls change g m have =
    each_after old new n f (state_with_verdict f v) (λ k z. HasInstances z gates meters calls) (λ k z. HasInstances z more_gates more_meters (calls + 1)) change have
    (λ h. record {
      gate = g f.plan.gate h.gate;
      meter = has_meter_later f.plan.meter meters more_meters m h.meter;
      few = at_most_counted f.counters v calls h.few;
    })
    (λ k z differ h. instances_later z gates more_gates meters more_meters calls (calls + 1) g m (omega arith) h)

-- Plans of the filters, from their states.

pub lookup-plans_in : (n : ℕ) (fs : List (ℕ × FilterState)) → lookup (nat_eq n) (filter_plans fs) ≡ option_map (λ (f : FilterState). f.plan) (lookup (nat_eq n) fs)
lookup-plans_in n [] = refl
lookup-plans_in n (f ∷ fs) = by_bool (nat_eq n f.0) (λ e. rw e refl) (λ e. rw e (lookup-plans_in n fs))

-- A filter's state has the plan that the plan list gives.
pub plan_found : (n : ℕ) (fs : List (ℕ × FilterState)) (f : FilterState) (plan : FilterPlan) → lookup (nat_eq n) fs ≡ Some f → lookup (nat_eq n) (filter_plans fs) ≡ Some plan → f.plan ≡ plan
plan_found n fs f plan h k = same_Some f.plan plan (ap (option_map (λ (x : FilterState). x.plan)) (sym h) ∙ (sym (lookup-plans_in n fs) ∙ k))

-- Replacing the state of a filter by a state with the same plan leaves all plans unchanged.
pub plans_in-set_value : (n : ℕ) (fs : List (ℕ × FilterState)) (f g : FilterState) → lookup (nat_eq n) fs ≡ Some f → g.plan ≡ f.plan → filter_plans (set_value (nat_eq n) fs g) ≡ filter_plans fs
plans_in-set_value n [] f g h k = refl
plans_in-set_value n (x ∷ fs) f g h k = by_bool (nat_eq n x.0)
    (λ e.
    let it : x.1 ≡ f = same_Some x.1 f (rw e at h) in
    rw (e, k, ← it) refl)
    (λ e. let there : lookup (nat_eq n) fs ≡ Some f = rw e at h in rw e (ap (λ (z : List (ℕ × FilterPlan)). (x.0, x.1.plan) ∷ z) (plans_in-set_value n fs f g there k)))

-- Number and plan of a filter's state.

abbrev plan_of : ℕ × FilterState → ℕ × FilterPlan
plan_of x = (x.0, x.1.plan)

pub plan_at : (fs : List (ℕ × FilterState)) (i k : ℕ) (f : FilterState) → slice_get fs i ≡ Some (k, f) → slice_get (filter_plans fs) i ≡ Some (k, f.plan)
plan_at fs i k f at = slice_get-map plan_of fs i ∙ ap (option_map plan_of) at

pub filter_is : (fs : List (ℕ × FilterState)) (i k n : ℕ) (f : FilterState) (plan : FilterPlan) → slice_get fs i ≡ Some (k, f) → slice_get (filter_plans fs) i ≡ Some (n, plan) → (k ≡ n) × (f.plan ≡ plan)
filter_is fs i k n f plan at is = some_pair_parts k n f.plan plan (sym (plan_at fs i k f at) ∙ is)

pub filter_within : (fs : List (ℕ × FilterState)) (i n : ℕ) (plan : FilterPlan) → slice_get (filter_plans fs) i ≡ Some (n, plan) → i < length fs
filter_within fs i n plan is = subst (λ (m : ℕ). i < m) (length-map fs plan_of) (slice_get_within (filter_plans fs) i (n, plan) is)

-- Replacing the state at an index by a state with the same plan leaves all plans unchanged.
pub plans_in-set_value_at : (fs : List (ℕ × FilterState)) (i k : ℕ) (f g : FilterState) → slice_get fs i ≡ Some (k, f) → g.plan ≡ f.plan → filter_plans (set_value_at fs i g) ≡ filter_plans fs
plans_in-set_value_at [] i k f g at e = refl
plans_in-set_value_at (x ∷ fs) zero k f g at e =
    let it : x ≡ (k, f) = same_Some x (k, f) at in
    let own : f.plan ≡ x.1.plan = ap (λ (y : ℕ × FilterState). y.1.plan) (sym it) in
    ap (λ (p : FilterPlan). (x.0, p) ∷ filter_plans fs) (e ∙ own)
plans_in-set_value_at (x ∷ fs) (suc i) k f g at e = ap (λ (z : List (ℕ × FilterPlan)). (x.0, x.1.plan) ∷ z) (plans_in-set_value_at fs i k f g at e)

-- An optional index gives the number of an existing meter.
pub meter_placed : (meters : List ℕ) (o : Option ℕ) (i : ℕ) → IsOptionalIndex meters o (Some i) → (n : ℕ) × (o ≡ Some n) × (slice_get meters i ≡ Some n)
meter_placed meters None i h = absurd h
meter_placed meters (Some n) i h = (n, refl, h)

pub no_meter_placed : (meters : List ℕ) (o : Option ℕ) → IsOptionalIndex meters o None → o ≡ None
no_meter_placed meters None h = refl
no_meter_placed meters (Some n) h = absurd h

pub meter_within : {X : Type 0} (meters : List (ℕ × X)) (o place : Option ℕ) → IsOptionalIndex (keys_of meters) o place → IfSome place (λ i. i < length meters)
meter_within meters o None h = tt
meter_within meters None (Some i) h = absurd h
meter_within meters (Some n) (Some i) h = place_within meters i n h
