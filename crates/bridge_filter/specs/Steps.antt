-- State of the police, and how an event changes it. No public clause uses these definitions.
use Rattle.std.specs.Prelude.{◌≡◌, ℕ, Bool, ◌+◌, ◌≤◌, ◌&&◌, ◌||◌, nat_eq, map, true, false, Option, Some, None, List, [], IsSome, if◌then◌else◌}
use Rattle.std.specs.Map.{lookup, keys_of}
use Rattle.bridge_meter.specs.declared.MeterPlan.{MeterPlan}
use Rattle.bridge_meter.specs.StandsFor as meter
use Rattle.bridge_gate.specs.declared.schedule.GatePlan.{GatePlan}
use Rattle.bridge_gate.specs.Schedules.{gate_rules}
use Rattle.bridge_gate.specs.StandsFor as gate
use Rattle.bridge_filter.specs.declared.FilterPlan.{FilterPlan}
use Rattle.bridge_filter.specs.declared.Verdict.{Verdict}
use Rattle.bridge_filter.specs.declared.Verdict.TheVariants as verdict
use Rattle.bridge_filter.specs.declared.Counters.{Counters}
use Rattle.bridge_filter.specs.declared.filter_state.FilterState.{FilterState}
use Rattle.bridge_filter.specs.Verdicts.{PolicePlans, FilterStep, gate_share, meter_share, is_above_max, is_oversize, has_reached_gate, has_passed_gate}
use Rattle.bridge_filter.specs.StandsFor.{GatesStand, MetersStand}
use Rattle.bridge_filter.specs.Counts.{is_refused_by_gate, is_dropped_by_meter}
use Rattle.bridge_filter.specs.Plans.{are_numbers_distinct}
use Rattle.bridge_filter.specs.declared.route.Route.{Route}
use Rattle.bridge_filter.specs.Routes.{AreRouteRows, HaveRoutes}

-- Reason why a filter refuses a frame before the gate answers; `None` if the frame reaches the gate.
abbrev pub refusal : FilterState → ℕ → Option Verdict
refusal f sdu =
    if f.blocked then Some verdict.Blocked
    else if is_above_max f.plan.max_sdu sdu then Some verdict.Oversize
    else None

-- Amount by which a counter grows: 1 if the condition holds, otherwise 0.
abbrev pub count_if : Bool → ℕ
count_if b = if b then 1 else 0

-- Counters of a filter after one more frame got the given verdict.
abbrev pub counters_with_verdict : Counters → Verdict → Counters
counters_with_verdict c v = record {
  matching = c.matching + 1;
  sdu_passed = c.sdu_passed + count_if (has_reached_gate v);
  sdu_refused = c.sdu_refused + count_if (is_oversize v);
  gate_passed = c.gate_passed + count_if (has_passed_gate v);
  gate_refused = c.gate_refused + count_if (is_refused_by_gate v);
  red = c.red + count_if (is_dropped_by_meter v);
}

-- State of a filter (counters and blocked flag) after one more frame got the given verdict.
abbrev pub state_with_verdict : FilterState → Verdict → FilterState
state_with_verdict f v = record f { counters = counters_with_verdict f.counters v; blocked = f.blocked || (f.plan.block_oversize && is_oversize v) }

-- Holds if no counter of a filter exceeds `n`.
pub record AreBounded (c : Counters) (n : ℕ) : Type 0 where
  pub matching : c.matching ≤ n
  pub sdu_passed : c.sdu_passed ≤ n
  pub sdu_refused : c.sdu_refused ≤ n
  pub gate_passed : c.gate_passed ≤ n
  pub gate_refused : c.gate_refused ≤ n
  pub red : c.red ≤ n

-- Holds if no gate answered a frame later than time `t`.
abbrev pub NoGateAskedLater : {A : Type 0} → List (ℕ × gate.GateState A) → ℕ → Type 0
NoGateAskedLater {A} gates t = (n : ℕ) (g : gate.GateState A) → lookup (nat_eq n) gates ≡ Some g → g.earliest ≤ t

-- Holds if no meter judged a frame later than time `t`.
abbrev pub NoMeterUsedLater : List (ℕ × meter.MeterState) → ℕ → Type 0
NoMeterUsedLater meters t = (n : ℕ) (m : meter.MeterState) → lookup (nat_eq n) meters ≡ Some m → m.buckets.at ≤ t

-- Holds if each gate and each meter stands for its share of the results `ss`.
pub record StandForShares {A : Type 0} (p : PolicePlans) (gates : List (ℕ × gate.GateState A)) (meters : List (ℕ × meter.MeterState)) (ss : List FilterStep) : Type 0 where
  pub gates_stand : GatesStand p.gates gates (λ n. gate_share n ss)
  pub meters_stand : MetersStand p.meters meters (λ n. meter_share n ss)

-- Holds if the meter with the optional number exists, or there is no number (`None`).
abbrev pub HasMeter : {X : Type 0} → Option ℕ → List (ℕ × X) → Type 0
HasMeter None meters = Unit {0}
HasMeter (Some n) meters = IsSome (lookup (nat_eq n) meters)

-- Holds if the filter's gate and meter exist, and its counters are at most `calls`.
pub record HasInstances {A : Type 0} (f : FilterState) (gates : List (ℕ × gate.GateState A)) (meters : List (ℕ × meter.MeterState)) (calls : ℕ) : Type 0 where
  pub gate : IsSome (lookup (nat_eq f.plan.gate) gates)
  pub meter : HasMeter f.plan.meter meters
  pub few : AreBounded f.counters calls

-- Holds if each filter's gate and meter exist, and the filter's counters are at most `calls`.
abbrev pub HaveInstances : {A : Type 0} → List (ℕ × FilterState) → List (ℕ × gate.GateState A) → List (ℕ × meter.MeterState) → ℕ → Type 0
HaveInstances filters gates meters calls = (n : ℕ) (f : FilterState) → lookup (nat_eq n) filters ≡ Some f → HasInstances f gates meters calls

-- Holds if each filter's stream gate is among the gates, so that a verdict can be given.
abbrev pub HaveGates : {X : Type 0} → List (ℕ × FilterState) → List (ℕ × X) → Type 0
HaveGates filters gates = (n : ℕ) (f : FilterState) → lookup (nat_eq n) filters ≡ Some f → IsSome (lookup (nat_eq f.plan.gate) gates)

-- Holds if the meter of each filter with a meter exists.
abbrev pub HaveMeters : {X : Type 0} → List (ℕ × FilterState) → List (ℕ × X) → Type 0
HaveMeters filters meters = (n : ℕ) (f : FilterState) → lookup (nat_eq n) filters ≡ Some f → HasMeter f.plan.meter meters

-- Holds if filter `n`, whose state is now `g`, had an equal plan and equal counters in the list `old`.
pub record IsSameFilter (old : List (ℕ × FilterState)) (n : ℕ) (g : FilterState) : Type 0 where
  pub was : FilterState
  pub found : lookup (nat_eq n) old ≡ Some was
  pub plan : g.plan ≡ was.plan
  pub counters : g.counters ≡ was.counters

-- Holds if each filter has the plan and counters that it had before.
abbrev pub InstancesUnchanged : List (ℕ × FilterState) → List (ℕ × FilterState) → Type 0
InstancesUnchanged old new = (n : ℕ) (g : FilterState) → lookup (nat_eq n) new ≡ Some g → IsSameFilter old n g

-- Plans of the filters with their numbers; states and counters are left out.
abbrev pub filter_plans : List (ℕ × FilterState) → List (ℕ × FilterPlan)
filter_plans fs = map (λ f. (f.0, f.1.plan)) fs

-- Holds if the parts of the police are consistent: distinct numbers, right rows and routes, existing gates and meters,
-- and no later event than `earliest`.
pub record IsSound {A : Type 0} (filters : List (ℕ × FilterState)) (rows : List (ℕ × List (Option Route))) (any : List (Option Route)) (gates : List (ℕ × gate.GateState A)) (meters : List (ℕ × meter.MeterState)) (calls earliest : ℕ) : Type 0 where
  pub distinct : are_numbers_distinct (filter_plans filters) ≡ true
  pub found : AreRouteRows rows any (filter_plans filters)
  pub routes : HaveRoutes rows any (filter_plans filters) (keys_of gates) (keys_of meters)
  pub instances : HaveInstances filters gates meters calls
  pub asked : NoGateAskedLater gates earliest
  pub judged : NoMeterUsedLater meters earliest

-- Holds if an instance exists exactly if its plan exists, and has the relation `R` to the plan.
abbrev pub IsMadeIfAny : {P X : Type 0} → (P → X → Type 0) → Option P → Option X → Type 0
IsMadeIfAny R None None = Unit {0}
IsMadeIfAny R None (Some x) = ⊥
IsMadeIfAny R (Some p) None = ⊥
IsMadeIfAny R (Some p) (Some x) = R p x

-- Holds if each number with a plan has an instance with the relation `R` to the plan, and no other number has one.
abbrev pub AreMade : {P X : Type 0} → (P → X → Type 0) → List (ℕ × P) → List (ℕ × X) → Type 0
AreMade R plans made = (n : ℕ) → IsMadeIfAny R (lookup (nat_eq n) plans) (lookup (nat_eq n) made)

-- Holds if stream gate `g` has the plan `plan` and has handled no event yet.
pub record IsNewGate {A : Type 0} (plan : GatePlan A) (g : gate.GateState A) : Type 0 where
  pub stands : gate.StandsFor (gate_rules plan) g []
  pub earliest : g.earliest ≡ 0

-- Holds if meter `m` has the plan `plan` and has handled no event yet.
pub record IsNewMeter (plan : MeterPlan) (m : meter.MeterState) : Type 0 where
  pub stands : meter.StandsFor plan m []

-- State of a filter before its first frame: all counters are 0, and it isn't blocked.
abbrev pub new_filter : FilterPlan → FilterState
new_filter plan = record { plan = plan; counters = record { matching = 0; sdu_passed = 0; sdu_refused = 0; gate_passed = 0; gate_refused = 0; red = 0 }; blocked = false }

-- States of filters before their first frames, by number.
abbrev pub new_filters : List (ℕ × FilterPlan) → List (ℕ × FilterState)
new_filters fs = map (λ f. (f.0, new_filter f.1)) fs
