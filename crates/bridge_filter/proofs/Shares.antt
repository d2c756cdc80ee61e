use Rattle.std.proofs.Common.{◌≡◌, ℕ, true, false, List, ◌∷◌, ◌≤◌, refl}
use Rattle.std.specs.Prelude.{nat_eq, if◌then◌else◌, Option, Some, None}
use Rattle.std.proofs.Math.Bool.{and-true, and-false}
use Rattle.bridge_limits.proofs.Orders.{same_eq}
use Rattle.bridge_meter.specs.declared.MeterPlan.{MeterPlan}
use Rattle.bridge_meter.specs.Colours.{MeterEvent, Arrived, frame_colour, meter_history}
use Rattle.bridge_meter.specs.StandsFor as meter
use Rattle.bridge_gate.specs.Gates.{GateRules, GateEvent, Asked}
use Rattle.bridge_gate.specs.StandsFor as gate
use Rattle.bridge_filter.specs.StandsFor.{GatesStand, MetersStand}
use Rattle.bridge_filter.specs.Steps.{NoGateAskedLater, NoMeterUsedLater}
use Rattle.bridge_filter.specs.declared.FilterPlan.{FilterPlan}
use Rattle.bridge_filter.specs.declared.Verdict.{Verdict}
use Rattle.bridge_filter.specs.declared.Verdict.TheVariants.{Pass}
use Rattle.bridge_gate.specs.declared.stream_gate.GateAnswer.{GateAnswer}
use Rattle.bridge_gate.specs.declared.stream_gate.GateAnswer.TheVariants.{Through}
use Rattle.bridge_filter.specs.Verdicts.{PolicePlans, FilterInput, answer_verdict, colour_verdict, FilterStep, Judged, gate_share, meter_share, is_meter, has_reached_gate, has_passed_gate}
use Rattle.bridge_filter.proofs.Numbered.{Changes, each_after}

-- After an event at one gate, each gate stands for its extended share.
pub gates_after : {A : Type 0} (old new : List (ℕ × gate.GateState A)) (n : ℕ) (g h : gate.GateState A) (e : GateEvent) → Changes old new n g h → ((r : GateRules) (es : List GateEvent) → gate.StandsFor r g es → gate.StandsFor r h (e ∷ es)) → (rules : ℕ → GateRules) (share : ℕ → List GateEvent) → GatesStand rules old share → GatesStand rules new (λ k. if nat_eq n k then e ∷ share k else share k)
gates_after {A} old new n g h e change step rules share stand =
    each_after old new n g h (λ k z. gate.StandsFor (rules k) z (share k)) (λ k z. gate.StandsFor (rules k) z (if nat_eq n k then e ∷ share k else share k)) change stand
    (λ s. rw (same_eq n) (step (rules n) (share n) s))
    (λ k z differ s. rw differ s)

-- After an event at one meter, each meter stands for its extended share.
pub meters_after : (old new : List (ℕ × meter.MeterState)) (n : ℕ) (g h : meter.MeterState) (e : MeterEvent) → Changes old new n g h → ((p : MeterPlan) (es : List MeterEvent) → meter.StandsFor p g es → meter.StandsFor p h (e ∷ es)) → (plans : ℕ → MeterPlan) (share : ℕ → List MeterEvent) → MetersStand plans old share → MetersStand plans new (λ k. if nat_eq n k then e ∷ share k else share k)
meters_after old new n g h e change step plans share stand =
    each_after old new n g h (λ k z. meter.StandsFor (plans k) z (share k)) (λ k z. meter.StandsFor (plans k) z (if nat_eq n k then e ∷ share k else share k)) change stand
    (λ s. rw (same_eq n) (step (plans n) (share n) s))
    (λ k z differ s. rw differ s)

pub gates_before : {A : Type 0} (old new : List (ℕ × gate.GateState A)) (n t : ℕ) (g h : gate.GateState A) → Changes old new n g h → h.earliest ≤ t → NoGateAskedLater old t → NoGateAskedLater new t
gates_before {A} old new n t g h change le before = each_after old new n g h (λ k z. z.earliest ≤ t) (λ k z. z.earliest ≤ t) change before (λ s. le) (λ k z differ s. s)

pub meters_before : (old new : List (ℕ × meter.MeterState)) (n t : ℕ) (g h : meter.MeterState) → Changes old new n g h → h.buckets.at ≤ t → NoMeterUsedLater old t → NoMeterUsedLater new t
meters_before old new n t g h change le before = each_after old new n g h (λ k z. z.buckets.at ≤ t) (λ k z. z.buckets.at ≤ t) change before (λ s. le) (λ k z differ s. s)

-- Shares of the gates, extended by one more frame.

pub gate_share-reached : (g k : ℕ) (c : FilterInput) (f : FilterPlan) (v : Verdict) (ss : List FilterStep) → has_reached_gate v ≡ true → gate_share g (Judged c k f v ∷ ss) ≡ (if nat_eq f.gate g then Asked c.at c.sdu ∷ gate_share g ss else gate_share g ss)
gate_share-reached g k c f v ss h = rw (h, and-true (nat_eq f.gate g)) refl

pub gate_share-refused : (g k : ℕ) (c : FilterInput) (f : FilterPlan) (v : Verdict) (ss : List FilterStep) → has_reached_gate v ≡ false → gate_share g (Judged c k f v ∷ ss) ≡ gate_share g ss
gate_share-refused g k c f v ss h = rw (h, and-false (nat_eq f.gate g)) refl

pub meter_share-passed : (m n k : ℕ) (c : FilterInput) (f : FilterPlan) (v : Verdict) (ss : List FilterStep) → f.meter ≡ Some n → has_passed_gate v ≡ true → meter_share m (Judged c k f v ∷ ss) ≡ (if nat_eq n m then Arrived c.at c.octets c.dei ∷ meter_share m ss else meter_share m ss)
meter_share-passed m n k c f v ss e h = rw (e, h, and-true (nat_eq n m)) refl

pub meter_share-without : (m k : ℕ) (c : FilterInput) (f : FilterPlan) (v : Verdict) (ss : List FilterStep) → f.meter ≡ None → meter_share m (Judged c k f v ∷ ss) ≡ meter_share m ss
meter_share-without m k c f v ss e = rw e refl

pub meter_share-refused : (m k : ℕ) (c : FilterInput) (f : FilterPlan) (v : Verdict) (ss : List FilterStep) → has_passed_gate v ≡ false → meter_share m (Judged c k f v ∷ ss) ≡ meter_share m ss
meter_share-refused m k c f v ss h = rw (h, and-false (is_meter f.meter m)) refl

-- Gates or meters that stand for shares also stand for equal shares.
pub gates_stand_same : {A : Type 0} (rules : ℕ → GateRules) (gates : List (ℕ × gate.GateState A)) (share later : ℕ → List GateEvent) → ((n : ℕ) → later n ≡ share n) → GatesStand rules gates share → GatesStand rules gates later
gates_stand_same {A} rules gates share later same stand n g found = rw (same n) (stand n g found)

pub meters_stand_same : (plans : ℕ → MeterPlan) (meters : List (ℕ × meter.MeterState)) (share later : ℕ → List MeterEvent) → ((n : ℕ) → later n ≡ share n) → MetersStand plans meters share → MetersStand plans meters later
meters_stand_same plans meters share later same stand n m found = rw (same n) (stand n m found)

-- If the gate passes a frame and the filter has a meter, the meter's colour gives the verdict.
pub by_answer-metered : (p : PolicePlans) (ss : List FilterStep) (c : FilterInput) (f : FilterPlan) (a : GateAnswer) (ipv : Option ℕ) (m : ℕ) → a ≡ Through ipv → f.meter ≡ Some m → answer_verdict p ss c f a ≡ colour_verdict (p.meters m) ipv (frame_colour (p.meters m) (meter_history (p.meters m) (meter_share m ss)) c.at c.octets c.dei)
by_answer-metered p ss c f a ipv m h k = rw (h, k) refl

-- If the gate passes a frame and the filter has no meter, the frame passes.
pub by_answer-unmetered : (p : PolicePlans) (ss : List FilterStep) (c : FilterInput) (f : FilterPlan) (a : GateAnswer) (ipv : Option ℕ) → a ≡ Through ipv → f.meter ≡ None → answer_verdict p ss c f a ≡ Pass ipv false
by_answer-unmetered p ss c f a ipv h k = rw (h, k) refl
