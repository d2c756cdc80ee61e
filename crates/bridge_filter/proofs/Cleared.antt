use Rattle.std.proofs.Common.{◌≡◌, ℕ, true, false, List, ◌∷◌, refl, ap, ◌∙◌, sym, subst}
use Rattle.std.specs.Prelude.{nat_eq, Option, Some, None, IsSome, IsTrue, if◌then◌else◌}
use Rattle.std.specs.Option.{option_map, is_some}
use Rattle.std.specs.Map.{lookup, keys_of}
use Rattle.std.proofs.Math.Bool.{and-false}
use Rattle.bridge_limits.proofs.Orders.{same_eq}
use Rattle.bridge_meter.specs.StandsFor as meter
use Rattle.bridge_gate.specs.StandsFor as gate
use Rattle.bridge_gate.specs.Gates as gates
use Rattle.bridge_meter.specs.Colours as colours
use Rattle.bridge_meter.specs.declared.MeterPlan.{MeterPlan}
use Rattle.bridge_filter.specs.declared.Clear.{Clear}
use Rattle.bridge_filter.specs.declared.Clear.TheVariants as clear
use Rattle.bridge_filter.specs.declared.FilterPlan.{FilterPlan}
use Rattle.bridge_filter.specs.Plans.{is_listed}
use Rattle.bridge_filter.specs.declared.filter_state.FilterState.{FilterState}
use Rattle.bridge_filter.specs.declared.route.Route.{Route}
use Rattle.bridge_filter.specs.Verdicts.{PolicePlans, FilterEvent, Cleared, FilterStep, Commanded, filter_steps, gate_share, meter_share}
use Rattle.bridge_filter.specs.StandsFor.{PoliceState, StandsFor, has_instance, HaveVerdictStates, HasVerdictState, GatesStand, MetersStand}
use Rattle.bridge_filter.specs.Steps.{NoGateAskedLater, NoMeterUsedLater, InstancesUnchanged, HaveInstances, IsSound, filter_plans}
use Rattle.bridge_filter.proofs.Numbered.{Changes, each_after, keeps_numbers}
use Rattle.bridge_filter.proofs.Judging.{has_meter_later, lookup-plans_in}
use Rattle.bridge_filter.proofs.Flows.{is_there-lookup}

cleared_own : (n : ℕ) (f : FilterState) (ss : List FilterStep) → HasVerdictState n f ss → HasVerdictState n (record { plan = f.plan; counters = f.counters; blocked = false }) (Commanded clear.Blocked n ∷ ss)
cleared_own n f ss k = record {
  counters = k.counters;
  blocked = rw (same_eq n) (sym (and-false f.plan.block_oversize));
}

cleared_other : (n m : ℕ) (f : FilterState) (ss : List FilterStep) → nat_eq m n ≡ false → HasVerdictState n f ss → HasVerdictState n f (Commanded clear.Blocked m ∷ ss)
cleared_other n m f ss differ k = record {
  counters = k.counters;
  blocked = rw differ k.blocked;
}

-- After a command clears the blocked flag of filter `n`, all states match their verdicts.
pub kept_cleared : (old new : List (ℕ × FilterState)) (n : ℕ) (f : FilterState) (ss : List FilterStep) → Changes old new n f (record { plan = f.plan; counters = f.counters; blocked = false }) → HaveVerdictStates old ss → HaveVerdictStates new (Commanded clear.Blocked n ∷ ss)
kept_cleared old new n f ss change kept =
    let free : FilterState = record { plan = f.plan; counters = f.counters; blocked = false } in
    each_after old new n f free (λ k z. HasVerdictState k z ss) (λ k z. HasVerdictState k z (Commanded clear.Blocked n ∷ ss)) change kept (cleared_own n f ss) (λ k z differ. cleared_other k n z ss differ)

-- Other commands leave the states of filters unchanged.
pub kept_rx : (kept : List (ℕ × FilterState)) (m : ℕ) (ss : List FilterStep) → HaveVerdictStates kept ss → HaveVerdictStates kept (Commanded clear.Rx m ∷ ss)
kept_rx kept m ss h n f found = let k = h n f found in record { counters = k.counters; blocked = k.blocked }

pub kept_octets : (kept : List (ℕ × FilterState)) (m : ℕ) (ss : List FilterStep) → HaveVerdictStates kept ss → HaveVerdictStates kept (Commanded clear.Octets m ∷ ss)
kept_octets kept m ss h n f found = let k = h n f found in record { counters = k.counters; blocked = k.blocked }

pub kept_red : (kept : List (ℕ × FilterState)) (m : ℕ) (ss : List FilterStep) → HaveVerdictStates kept ss → HaveVerdictStates kept (Commanded clear.Red m ∷ ss)
kept_red kept m ss h n f found = let k = h n f found in record { counters = k.counters; blocked = k.blocked }

instances_stay : {A : Type 0} (old new : List (ℕ × FilterState)) (gates : List (ℕ × gate.GateState A)) (meters : List (ℕ × meter.MeterState)) (calls : ℕ) → InstancesUnchanged old new → HaveInstances old gates meters calls → HaveInstances new gates meters calls
instances_stay old new gates meters calls stay have n g found =
    let s = stay n g found in
    let h = have n s.was s.found in
    record { gate = rw s.plan h.gate; meter = rw s.plan h.meter; few = rw s.counters h.few }

-- After a command, the parts of the police stay consistent.

pub sound_filters : {A : Type 0} (old new : List (ℕ × FilterState)) (rows : List (ℕ × List (Option Route))) (any : List (Option Route)) (gates : List (ℕ × gate.GateState A)) (meters : List (ℕ × meter.MeterState)) (calls earliest : ℕ) → filter_plans new ≡ filter_plans old → InstancesUnchanged old new → IsSound old rows any gates meters calls earliest → IsSound new rows any gates meters calls earliest
sound_filters old new rows any gates meters calls earliest same stay h = record {
  distinct = rw same h.distinct;
  found = λ handle k l. rw same (h.found handle k l);
  routes = λ handle k l. rw same (h.routes handle k l);
  instances = instances_stay old new gates meters calls stay h.instances;
  asked = h.asked;
  judged = h.judged;
}

pub sound_gates : {A : Type 0} (filters : List (ℕ × FilterState)) (rows : List (ℕ × List (Option Route))) (any : List (Option Route)) (old new : List (ℕ × gate.GateState A)) (meters : List (ℕ × meter.MeterState)) (calls earliest : ℕ) → keys_of new ≡ keys_of old → ((t : ℕ) → NoGateAskedLater old t → NoGateAskedLater new t) → IsSound filters rows any old meters calls earliest → IsSound filters rows any new meters calls earliest
sound_gates filters rows any old new meters calls earliest same before h = record {
  distinct = h.distinct;
  found = h.found;
  routes = λ handle k l. rw same (h.routes handle k l);
  instances = λ n f found. let i = h.instances n f found in record { gate = keeps_numbers old new same f.plan.gate i.gate; meter = i.meter; few = i.few };
  asked = before earliest h.asked;
  judged = h.judged;
}

pub sound_meters : {A : Type 0} (filters : List (ℕ × FilterState)) (rows : List (ℕ × List (Option Route))) (any : List (Option Route)) (gates : List (ℕ × gate.GateState A)) (old new : List (ℕ × meter.MeterState)) (calls earliest : ℕ) → keys_of new ≡ keys_of old → ((t : ℕ) → NoMeterUsedLater old t → NoMeterUsedLater new t) → IsSound filters rows any gates old calls earliest → IsSound filters rows any gates new calls earliest
sound_meters filters rows any gates old new calls earliest same before h = record {
  distinct = h.distinct;
  found = h.found;
  routes = λ handle k l. rw same (h.routes handle k l);
  instances = λ n f found. let i = h.instances n f found in record { gate = i.gate; meter = has_meter_later f.plan.meter old new (keeps_numbers old new same) i.meter; few = i.few };
  asked = h.asked;
  judged = before earliest h.judged;
}

-- Looking up a listed number succeeds.

there_found : {X : Type 0} (n : ℕ) (xs : List (ℕ × X)) → is_listed n xs ≡ true → IsSome (lookup (nat_eq n) xs)
there_found n xs h = sym (is_there-lookup n xs) ∙ h

is_some-option_map : (o : Option FilterState) → is_some (option_map (λ (f : FilterState). f.plan) o) ≡ is_some o
is_some-option_map None = refl
is_some-option_map (Some f) = refl

pub filter_there : {A : Type 0} (c : Clear) (n : ℕ) (s : PoliceState A) (fs : List (ℕ × FilterState)) → c ≡ clear.Blocked → s.filters ≡ filter_plans fs → IsTrue (has_instance c n s) → IsSome (lookup (nat_eq n) fs)
filter_there {A} c n s fs e same h =
    let there : is_listed n s.filters ≡ true = subst (λ (x : Clear). has_instance x n s ≡ true) e h in
    let found = there_found n (filter_plans fs) (subst (λ (z : List (ℕ × FilterPlan)). is_listed n z ≡ true) same there) in
    sym (is_some-option_map (lookup (nat_eq n) fs)) ∙ (sym (ap is_some (lookup-plans_in n fs)) ∙ found)

pub gate_there_rx : {A : Type 0} (c : Clear) (n : ℕ) (s : PoliceState A) → c ≡ clear.Rx → IsTrue (has_instance c n s) → IsSome (lookup (nat_eq n) s.gates)
gate_there_rx c n s e h = there_found n s.gates (subst (λ (x : Clear). has_instance x n s ≡ true) e h)

pub gate_there_octets : {A : Type 0} (c : Clear) (n : ℕ) (s : PoliceState A) → c ≡ clear.Octets → IsTrue (has_instance c n s) → IsSome (lookup (nat_eq n) s.gates)
gate_there_octets c n s e h = there_found n s.gates (subst (λ (x : Clear). has_instance x n s ≡ true) e h)

pub meter_there_red : {A : Type 0} (c : Clear) (n : ℕ) (s : PoliceState A) → c ≡ clear.Red → IsTrue (has_instance c n s) → IsSome (lookup (nat_eq n) s.meters)
meter_there_red c n s e h = there_found n s.meters (subst (λ (x : Clear). has_instance x n s ≡ true) e h)

-- After a command, the police stands for the extended list of events.

pub stands_blocked : {A : Type 0} (p : PolicePlans) (s : PoliceState A) (es : List FilterEvent) (c : Clear) (n : ℕ) (fs : List (ℕ × FilterPlan)) (kept : List (ℕ × FilterState)) → c ≡ clear.Blocked → fs ≡ s.filters → StandsFor p s es → (HaveVerdictStates s.kept (filter_steps p es) → HaveVerdictStates kept (Commanded clear.Blocked n ∷ filter_steps p es)) → StandsFor p (record { filters = fs; kept = kept; gates = s.gates; meters = s.meters; calls = s.calls; earliest = s.earliest }) (Cleared c n ∷ es)
stands_blocked {A} p s es c n fs kept e same st step =
    let t : PoliceState A = record { filters = fs; kept = kept; gates = s.gates; meters = s.meters; calls = s.calls; earliest = s.earliest } in
    subst (λ (x : Clear). StandsFor p t (Cleared x n ∷ es)) (sym e) (record {
      filters = same ∙ st.filters;
      kept = step st.kept;
      gates = st.gates;
      meters = st.meters;
      calls = st.calls;
      earliest = st.earliest;
    })

pub stands_rx : {A : Type 0} (p : PolicePlans) (s : PoliceState A) (es : List FilterEvent) (c : Clear) (n : ℕ) (new : List (ℕ × gate.GateState A)) → c ≡ clear.Rx → StandsFor p s es → ((rules : ℕ → gates.GateRules) (share : ℕ → List gates.GateEvent) → GatesStand rules s.gates share → GatesStand rules new (λ k. if nat_eq n k then gates.ClearedRx ∷ share k else share k)) → StandsFor p (record s { gates = new }) (Cleared c n ∷ es)
stands_rx {A} p s es c n new e st step =
    let t : PoliceState A = record s { gates = new } in
    subst (λ (x : Clear). StandsFor p t (Cleared x n ∷ es)) (sym e) (record {
      filters = st.filters;
      kept = kept_rx s.kept n (filter_steps p es) st.kept;
      gates = step p.gates (λ k. gate_share k (filter_steps p es)) st.gates;
      meters = st.meters;
      calls = st.calls;
      earliest = st.earliest;
    })

pub stands_octets : {A : Type 0} (p : PolicePlans) (s : PoliceState A) (es : List FilterEvent) (c : Clear) (n : ℕ) (new : List (ℕ × gate.GateState A)) → c ≡ clear.Octets → StandsFor p s es → ((rules : ℕ → gates.GateRules) (share : ℕ → List gates.GateEvent) → GatesStand rules s.gates share → GatesStand rules new (λ k. if nat_eq n k then gates.ClearedOctets ∷ share k else share k)) → StandsFor p (record s { gates = new }) (Cleared c n ∷ es)
stands_octets {A} p s es c n new e st step =
    let t : PoliceState A = record s { gates = new } in
    subst (λ (x : Clear). StandsFor p t (Cleared x n ∷ es)) (sym e) (record {
      filters = st.filters;
      kept = kept_octets s.kept n (filter_steps p es) st.kept;
      gates = step p.gates (λ k. gate_share k (filter_steps p es)) st.gates;
      meters = st.meters;
      calls = st.calls;
      earliest = st.earliest;
    })

pub stands_red : {A : Type 0} (p : PolicePlans) (s : PoliceState A) (es : List FilterEvent) (c : Clear) (n : ℕ) (new : List (ℕ × meter.MeterState)) → c ≡ clear.Red → StandsFor p s es → ((plans : ℕ → MeterPlan) (share : ℕ → List colours.MeterEvent) → MetersStand plans s.meters share → MetersStand plans new (λ k. if nat_eq n k then colours.Cleared ∷ share k else share k)) → StandsFor p (record s { meters = new }) (Cleared c n ∷ es)
stands_red {A} p s es c n new e st step =
    let t : PoliceState A = record s { meters = new } in
    subst (λ (x : Clear). StandsFor p t (Cleared x n ∷ es)) (sym e) (record {
      filters = st.filters;
      kept = kept_red s.kept n (filter_steps p es) st.kept;
      gates = st.gates;
      meters = step p.meters (λ k. meter_share k (filter_steps p es)) st.meters;
      calls = st.calls;
      earliest = st.earliest;
    })
