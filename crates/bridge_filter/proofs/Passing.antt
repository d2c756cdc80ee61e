use Rattle.std.proofs.Common.{◌≡◌, ℕ, List, ◌∷◌, ◌+◌, ◌≤◌, arith, ap, ◌∙◌, sym, subst}
use Rattle.std.specs.Prelude.{Option, Some, None}
use Rattle.std.specs.Map.{keys_of}
use Rattle.bridge_meter.specs.StandsFor as meter
use Rattle.bridge_gate.specs.StandsFor as gate
use Rattle.bridge_filter.specs.declared.FilterPlan.{FilterPlan}
use Rattle.bridge_filter.specs.declared.Verdict.{Verdict}
use Rattle.bridge_filter.specs.declared.filter_state.FilterState.{FilterState}
use Rattle.bridge_filter.specs.declared.route.Route.{Route}
use Rattle.bridge_filter.specs.Verdicts.{PolicePlans, FilterInput, FilterEvent, Arrived, FilterStep, Unfiltered, Judged, frame_filter, frame_verdict, input_step, filter_steps}
use Rattle.bridge_filter.specs.StandsFor.{PoliceState, StandsFor, HaveVerdictStates}
use Rattle.bridge_filter.specs.Steps.{StandForShares, HaveInstances, NoGateAskedLater, NoMeterUsedLater, IsSound, filter_plans}
use Rattle.bridge_filter.proofs.Judging.{instances_later}

-- After a frame, the police stands for the extended list of events.
pub stands_after : {A : Type 0} (p : PolicePlans) (s t : PoliceState A) (es : List FilterEvent) (c : FilterInput) (step : FilterStep) → input_step p (filter_steps p es) c (frame_filter p.filters c) ≡ step → StandsFor p s es → t.filters ≡ s.filters → HaveVerdictStates t.kept (step ∷ filter_steps p es) → StandForShares p t.gates t.meters (step ∷ filter_steps p es) → t.calls ≡ s.calls + 1 → t.earliest ≡ c.at → StandsFor p t (Arrived c ∷ es)
stands_after {A} p s t es c step e st filters kept are calls earliest =
    let K : FilterStep → Type 0 = λ x. HaveVerdictStates t.kept (x ∷ filter_steps p es) in
    let P : FilterStep → Type 0 = λ x. StandForShares p t.gates t.meters (x ∷ filter_steps p es) in
    let policed : StandForShares p t.gates t.meters (input_step p (filter_steps p es) c (frame_filter p.filters c) ∷ filter_steps p es) = subst P (sym e) are in
    record {
      filters = filters ∙ st.filters;
      kept = subst K (sym e) kept;
      gates = policed.gates_stand;
      meters = policed.meters_stand;
      calls = calls ∙ ap (λ (n : ℕ). n + 1) st.calls;
      earliest = earliest;
    }

pub are_policed : {A : Type 0} (p : PolicePlans) (s : PoliceState A) (es : List FilterEvent) → StandsFor p s es → StandForShares p s.gates s.meters (filter_steps p es)
are_policed p s es st = record { gates_stand = st.gates; meters_stand = st.meters }

-- A frame without a filter leaves all states unchanged.
pub kept_unfiltered : (kept : List (ℕ × FilterState)) (c : FilterInput) (ss : List FilterStep) → HaveVerdictStates kept ss → HaveVerdictStates kept (Unfiltered c ∷ ss)
kept_unfiltered kept c ss h n f found = let k = h n f found in record { counters = k.counters; blocked = k.blocked }

pub policed_unfiltered : {A : Type 0} (p : PolicePlans) (gates : List (ℕ × gate.GateState A)) (meters : List (ℕ × meter.MeterState)) (c : FilterInput) (ss : List FilterStep) → StandForShares p gates meters ss → StandForShares p gates meters (Unfiltered c ∷ ss)
policed_unfiltered p gates meters c ss h = record { gates_stand = h.gates_stand; meters_stand = h.meters_stand }

pub judged_unfiltered : (p : PolicePlans) (fs : List (ℕ × FilterPlan)) (ss : List FilterStep) (c : FilterInput) → fs ≡ p.filters → frame_filter fs c ≡ None → input_step p ss c (frame_filter p.filters c) ≡ Unfiltered c
judged_unfiltered p fs ss c same h = ap (input_step p ss c) (ap (λ (z : List (ℕ × FilterPlan)). frame_filter z c) (sym same) ∙ h)

pub judged_by : (p : PolicePlans) (fs : List (ℕ × FilterPlan)) (ss : List FilterStep) (c : FilterInput) (n : ℕ) (f : FilterPlan) (v : Verdict) → fs ≡ p.filters → frame_filter fs c ≡ Some (n, f) → v ≡ frame_verdict p ss c n f → input_step p ss c (frame_filter p.filters c) ≡ Judged c n f v
judged_by p fs ss c n f v same h e =
    let k : frame_filter p.filters c ≡ Some (n, f) = ap (λ (z : List (ℕ × FilterPlan)). frame_filter z c) (sym same) ∙ h in
    ap (input_step p ss c) k ∙ ap (Judged c n f) (sym e)

-- After a frame, the parts of the police stay consistent.

pub have_later : {A : Type 0} (filters : List (ℕ × FilterState)) (gates : List (ℕ × gate.GateState A)) (meters : List (ℕ × meter.MeterState)) (calls later : ℕ) → calls ≤ later → HaveInstances filters gates meters calls → HaveInstances filters gates meters later
have_later filters gates meters calls later le have n f found = instances_later f gates gates meters meters calls later (λ m h. h) (λ m h. h) le (have n f found)

pub gates_before_later : {A : Type 0} (gates : List (ℕ × gate.GateState A)) (t u : ℕ) → t ≤ u → NoGateAskedLater gates t → NoGateAskedLater gates u
gates_before_later gates t u le before n g found = let h = before n g found in omega arith

pub meters_before_later : (meters : List (ℕ × meter.MeterState)) (t u : ℕ) → t ≤ u → NoMeterUsedLater meters t → NoMeterUsedLater meters u
meters_before_later meters t u le before n m found = let h = before n m found in omega arith

pub sound_unfiltered : {A : Type 0} (filters : List (ℕ × FilterState)) (rows : List (ℕ × List (Option Route))) (any : List (Option Route)) (gates : List (ℕ × gate.GateState A)) (meters : List (ℕ × meter.MeterState)) (calls earliest t : ℕ) → earliest ≤ t → IsSound filters rows any gates meters calls earliest → IsSound filters rows any gates meters (calls + 1) t
sound_unfiltered filters rows any gates meters calls earliest t le h = record {
  distinct = h.distinct;
  found = h.found;
  routes = h.routes;
  instances = have_later filters gates meters calls (calls + 1) (omega arith) h.instances;
  asked = gates_before_later gates earliest t le h.asked;
  judged = meters_before_later meters earliest t le h.judged;
}

pub sound_judged : {A : Type 0} (filters more_filters : List (ℕ × FilterState)) (rows : List (ℕ × List (Option Route))) (any : List (Option Route)) (gates more_gates : List (ℕ × gate.GateState A)) (meters more_meters : List (ℕ × meter.MeterState)) (calls earliest t : ℕ) → IsSound filters rows any gates meters calls earliest → filter_plans more_filters ≡ filter_plans filters → keys_of more_gates ≡ keys_of gates → keys_of more_meters ≡ keys_of meters → HaveInstances more_filters more_gates more_meters (calls + 1) → NoGateAskedLater more_gates t → NoMeterUsedLater more_meters t → IsSound more_filters rows any more_gates more_meters (calls + 1) t
sound_judged filters more_filters rows any gates more_gates meters more_meters calls earliest t h same same_gates same_meters have asked input_step = record {
  distinct = rw same h.distinct;
  found = λ handle k l. rw same (h.found handle k l);
  routes = λ handle k l. rw (same, same_gates, same_meters) (h.routes handle k l);
  instances = have;
  asked = asked;
  judged = input_step;
}
