use Rattle.std.proofs.Common.{◌≡◌, ℕ, Bool, true, List, [], ◌∷◌, arith, refl, ap, ◌∙◌, sym, subst}
use Rattle.std.specs.Prelude.{nat_eq, Option, Some, None, IsSome}
use Rattle.std.specs.Option.{option_map, is_some}
use Rattle.std.specs.Map.{lookup, keys_of}
use Rattle.std.specs.List.{list_all}
use Rattle.std.proofs.lemmas.Option.{same_Some}
use Rattle.std.proofs.Math.Bool.{and-false}
use Rattle.std.proofs.lemmas.Bool.{and_parts}
use Rattle.bridge_limits.proofs.Cases.{by_bool}
use Rattle.bridge_meter.specs.declared.Buckets.{Buckets}
use Rattle.bridge_meter.specs.declared.MeterPlan.{MeterPlan}
use Rattle.bridge_meter.specs.StandsFor as meter
use Rattle.bridge_gate.specs.declared.schedule.GatePlan.{GatePlan}
use Rattle.bridge_gate.specs.StandsFor as gate
use Rattle.bridge_filter.specs.declared.FilterPlan.{FilterPlan}
use Rattle.bridge_filter.specs.declared.filter_state.FilterState.{FilterState}
use Rattle.bridge_filter.specs.declared.route.Route.{Route}
use Rattle.bridge_filter.specs.Routes.{IsDefaultRow, AreHandleRows, HaveRoutes}
use Rattle.bridge_filter.specs.Plans.{is_listed, is_listed_if_any, are_numbers_distinct, has_instances, have_instances, gate_or_closed, meter_or_empty, police_plans}
use Rattle.bridge_filter.specs.StandsFor.{PoliceState, StandsFor, GatesStand, MetersStand, HaveVerdictStates, HasVerdictState}
use Rattle.bridge_filter.specs.Steps.{IsMadeIfAny, AreMade, IsNewGate, IsNewMeter, IsSound, NoGateAskedLater, NoMeterUsedLater, HasInstances, HaveInstances, HasMeter, new_filter, new_filters, filter_plans}
use Rattle.bridge_filter.proofs.Flows.{is_there-lookup}
use Rattle.bridge_filter.proofs.Found.{rows_found}
use Rattle.bridge_filter.proofs.Made.{lookup-new_filters, plans_in-new_filters}

-- A gate made from a plan stands for no events.

gate_made : {A : Type 0} (o : Option (GatePlan A)) (g : gate.GateState A) → IsMadeIfAny IsNewGate o (Some g) → gate.StandsFor (gate_or_closed o) g [] × (g.earliest ≡ 0)
gate_made None g h = absurd h
gate_made (Some p) g h = (h.stands, h.earliest)

meter_made : (o : Option MeterPlan) (m : meter.MeterState) → IsMadeIfAny IsNewMeter o (Some m) → meter.StandsFor (meter_or_empty o) m []
meter_made None m h = absurd h
meter_made (Some p) m h = h.stands

pub gates_start : {A : Type 0} (plans : List (ℕ × GatePlan A)) (made : List (ℕ × gate.GateState A)) → AreMade IsNewGate plans made → GatesStand (λ n. gate_or_closed (lookup (nat_eq n) plans)) made (λ n. [])
gates_start plans made are n g found = (gate_made (lookup (nat_eq n) plans) g (subst (λ (o : Option _). IsMadeIfAny IsNewGate (lookup (nat_eq n) plans) o) found (are n))).0

pub gates_before_start : {A : Type 0} (plans : List (ℕ × GatePlan A)) (made : List (ℕ × gate.GateState A)) → AreMade IsNewGate plans made → NoGateAskedLater made 0
gates_before_start plans made are n g found =
    let h = (gate_made (lookup (nat_eq n) plans) g (subst (λ (o : Option _). IsMadeIfAny IsNewGate (lookup (nat_eq n) plans) o) found (are n))).1 in
    omega arith

pub meters_start : (plans : List (ℕ × MeterPlan)) (made : List (ℕ × meter.MeterState)) → AreMade IsNewMeter plans made → MetersStand (λ n. meter_or_empty (lookup (nat_eq n) plans)) made (λ n. [])
meters_start plans made are n m found = meter_made (lookup (nat_eq n) plans) m (subst (λ (o : Option meter.MeterState). IsMadeIfAny IsNewMeter (lookup (nat_eq n) plans) o) found (are n))

pub meters_before_start : (plans : List (ℕ × MeterPlan)) (made : List (ℕ × meter.MeterState)) → AreMade IsNewMeter plans made → NoMeterUsedLater made 0
meters_before_start plans made are n m found =
    let st = meters_start plans made are n m found in
    let e : m.buckets.at ≡ 0 = ap (λ (b : Buckets). b.at) st.buckets_are in
    omega arith

some_made : {P X : Type 0} (R : P → X → Type 0) (o : Option P) (x : Option X) → IsMadeIfAny R o x → is_some o ≡ is_some x
some_made R None None h = refl
some_made R None (Some x) h = absurd h
some_made R (Some p) None h = absurd h
some_made R (Some p) (Some x) h = refl

pub there_made : {P X : Type 0} (R : P → X → Type 0) (plans : List (ℕ × P)) (made : List (ℕ × X)) (n : ℕ) → AreMade R plans made → is_listed n plans ≡ true → IsSome (lookup (nat_eq n) made)
there_made R plans made n are h = sym (some_made R (lookup (nat_eq n) plans) (lookup (nat_eq n) made) (are n)) ∙ (sym (is_there-lookup n plans) ∙ h)

meter_there : {X : Type 0} (R : MeterPlan → X → Type 0) (plans : List (ℕ × MeterPlan)) (made : List (ℕ × X)) (o : Option ℕ) → AreMade R plans made → is_listed_if_any o plans ≡ true → HasMeter o made
meter_there R plans made None are h = tt
meter_there R plans made (Some n) are h = there_made R plans made n are h

-- If all values of a list pass a test, a looked-up value passes it.
passes_found : {X : Type 0} (test : X → Bool) (xs : List (ℕ × X)) (n : ℕ) (y : X) → list_all (λ (x : ℕ × X). test x.1) xs ≡ true → lookup (nat_eq n) xs ≡ Some y → test y ≡ true
passes_found test [] n y h k = absurd (cc)
passes_found test (x ∷ xs) n y h k =
    let p = and_parts (test x.1) (list_all (λ (z : ℕ × _). test z.1) xs) h in
    by_bool (nat_eq n x.0)
    (λ e. let it : x.1 ≡ y = same_Some x.1 y (rw e at k) in subst (λ (z : _). test z ≡ true) it p.0)
    (λ e. let later : lookup (nat_eq n) xs ≡ Some y = rw e at k in passes_found test xs n y p.1 later)

-- Holds if a new filter has the plan that its number has in the list.
pub record IsNewOf (fs : List (ℕ × FilterPlan)) (n : ℕ) (f : FilterState) : Type 0 where
  pub plan : FilterPlan
  pub found : lookup (nat_eq n) fs ≡ Some plan
  pub is : f ≡ new_filter plan

new_of : (fs : List (ℕ × FilterPlan)) (n : ℕ) (f : FilterState) (o : Option FilterPlan) → lookup (nat_eq n) fs ≡ o → option_map new_filter o ≡ Some f → IsNewOf fs n f
new_of fs n f None h k = absurd (cc)
new_of fs n f (Some p) h k = record { plan = p; found = h; is = sym (same_Some (new_filter p) f k) }

pub new_found : (fs : List (ℕ × FilterPlan)) (n : ℕ) (f : FilterState) → lookup (nat_eq n) (new_filters fs) ≡ Some f → IsNewOf fs n f
new_found fs n f h = new_of fs n f (lookup (nat_eq n) fs) refl (sym (lookup-new_filters n fs) ∙ h)

pub instances_start : {A : Type 0} (fs : List (ℕ × FilterPlan)) (gates : List (ℕ × GatePlan A)) (meters : List (ℕ × MeterPlan)) (made_gates : List (ℕ × gate.GateState A)) (made_meters : List (ℕ × meter.MeterState)) → have_instances fs gates meters ≡ true → AreMade IsNewGate gates made_gates → AreMade IsNewMeter meters made_meters → HaveInstances (new_filters fs) made_gates made_meters 0
instances_start fs gates meters made_gates made_meters have g m n f found =
    let new = new_found fs n f found in
    let test = passes_found (λ (p : FilterPlan). has_instances gates meters p) fs n new.plan have new.found in
    let both = and_parts (is_listed new.plan.gate gates) (is_listed_if_any new.plan.meter meters) test in
    subst (λ (z : FilterState). HasInstances z made_gates made_meters 0) (sym new.is) (record {
      gate = there_made IsNewGate gates made_gates new.plan.gate g both.0;
      meter = meter_there IsNewMeter meters made_meters new.plan.meter m both.1;
      few = record { matching = omega arith; sdu_passed = omega arith; sdu_refused = omega arith; gate_passed = omega arith; gate_refused = omega arith; red = omega arith };
    })

pub instances_new : {A : Type 0} (fs : List (ℕ × FilterPlan)) (gates : List (ℕ × GatePlan A)) (meters : List (ℕ × MeterPlan)) (filters : List (ℕ × FilterState)) (made_gates : List (ℕ × gate.GateState A)) (made_meters : List (ℕ × meter.MeterState)) → filters ≡ new_filters fs → have_instances fs gates meters ≡ true → AreMade IsNewGate gates made_gates → AreMade IsNewMeter meters made_meters → HaveInstances filters made_gates made_meters 0
instances_new fs gates meters filters made_gates made_meters e have g m = subst (λ (z : List (ℕ × FilterState)). HaveInstances z made_gates made_meters 0) (sym e) (instances_start fs gates meters made_gates made_meters have g m)

pub kept_start : (fs : List (ℕ × FilterPlan)) → HaveVerdictStates (new_filters fs) []
kept_start fs n f found =
    let new = new_found fs n f found in
    subst (λ (z : FilterState). HasVerdictState n z []) (sym new.is) (record { counters = refl; blocked = sym (and-false new.plan.block_oversize) })

-- A new police is consistent, and stands for no events.

pub sound_start : {A : Type 0} (fs : List (ℕ × FilterPlan)) (gates : List (ℕ × GatePlan A)) (meters : List (ℕ × MeterPlan)) (filters : List (ℕ × FilterState)) (rows : List (ℕ × List (Option Route))) (any : List (Option Route)) (made_gates : List (ℕ × gate.GateState A)) (made_meters : List (ℕ × meter.MeterState)) → filters ≡ new_filters fs → are_numbers_distinct fs ≡ true → HaveInstances filters made_gates made_meters 0 → IsDefaultRow any (filter_plans filters) → AreHandleRows rows any (filter_plans filters) → HaveRoutes rows any (filter_plans filters) (keys_of made_gates) (keys_of made_meters) → AreMade IsNewGate gates made_gates → AreMade IsNewMeter meters made_meters → IsSound filters rows any made_gates made_meters 0 0
sound_start fs gates meters filters rows any made_gates made_meters e distinct have is own routes g m = record {
  distinct = ap are_numbers_distinct (ap filter_plans e ∙ plans_in-new_filters fs) ∙ distinct;
  found = rows_found rows any (filter_plans filters) is own;
  routes = routes;
  instances = have;
  asked = gates_before_start gates made_gates g;
  judged = meters_before_start meters made_meters m;
}

pub stands_start : {A : Type 0} (fs : List (ℕ × FilterPlan)) (gates : List (ℕ × GatePlan A)) (meters : List (ℕ × MeterPlan)) (s : PoliceState A) → s.filters ≡ filter_plans s.kept → s.kept ≡ new_filters fs → AreMade IsNewGate gates s.gates → AreMade IsNewMeter meters s.meters → s.calls ≡ 0 → s.earliest ≡ 0 → StandsFor (police_plans fs gates meters) s []
stands_start fs gates meters s shown e g m calls earliest = record {
  filters = shown ∙ (ap filter_plans e ∙ plans_in-new_filters fs);
  kept = subst (λ (z : List (ℕ × FilterState)). HaveVerdictStates z []) (sym e) (kept_start fs);
  gates = gates_start gates s.gates g;
  meters = meters_start meters s.meters m;
  calls = calls;
  earliest = earliest;
}
