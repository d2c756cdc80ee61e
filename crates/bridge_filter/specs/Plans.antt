-- Lists of filters, gates and meters by number, and whether they fit together.
use Rattle.std.specs.Prelude.{◌≡◌, ℕ, Bool, true, false, ◌&&◌, not, nat_eq, Option, Some, None, List, [], ◌∷◌}
use Rattle.std.specs.List.{list_all}
use Rattle.std.specs.Option.{is_some}
use Rattle.std.specs.Map.{lookup}
use Rattle.bridge_meter.specs.declared.MeterPlan.{MeterPlan}
use Rattle.bridge_meter.specs.Colours.{is_within_limits}
use Rattle.bridge_gate.specs.declared.schedule.GatePlan.{GatePlan}
use Rattle.bridge_gate.specs.Gates.{GateRules}
use Rattle.bridge_gate.specs.Schedules.{gate_rules, has_valid_priorities}
use Rattle.bridge_filter.specs.declared.FilterPlan.{FilterPlan}
use Rattle.bridge_filter.specs.Verdicts.{PolicePlans}

-- True if the list `xs` of numbered entries has at least one entry with the number `n`.
abbrev pub is_listed : {X : Type 0} → ℕ → List (ℕ × X) → Bool
is_listed n xs = is_some (lookup (nat_eq n) xs)

-- Holds if each number of the first list is in the second list.
abbrev pub KeepsNumbers : {X Y : Type 0} → List (ℕ × X) → List (ℕ × Y) → Type 0
KeepsNumbers xs ys = (n : ℕ) → is_listed n xs ≡ true → is_listed n ys ≡ true

-- True if all entries of the list have different numbers, so that a number names at most one entry.
abbrev pub are_numbers_distinct : {X : Type 0} → List (ℕ × X) → Bool
are_numbers_distinct [] = true
are_numbers_distinct (x ∷ xs) = not (is_listed x.0 xs) && are_numbers_distinct xs

-- True if at least one entry of the list has the number, or if the number is absent (`None`).
abbrev pub is_listed_if_any : {X : Type 0} → Option ℕ → List (ℕ × X) → Bool
is_listed_if_any None xs = true
is_listed_if_any (Some n) xs = is_listed n xs

-- True if the filter's gate number is in the list `gates`, and its meter number, if any, is in the list `meters`.
abbrev pub has_instances : {A : Type 0} → List (ℕ × GatePlan A) → List (ℕ × MeterPlan) → FilterPlan → Bool
has_instances gates meters f = is_listed f.gate gates && is_listed_if_any f.meter meters

-- True if each filter's gate number is in the list `gates`, and its meter number, if any, is in the list `meters`.
abbrev pub have_instances : {A : Type 0} → List (ℕ × FilterPlan) → List (ℕ × GatePlan A) → List (ℕ × MeterPlan) → Bool
have_instances filters gates meters = list_all (λ f. has_instances gates meters f.1) filters

-- True if every internal priority value in the schedules of all stream gates is 0 to 7 or absent (`None`).
abbrev pub all_have_priorities : {A : Type 0} → List (ℕ × GatePlan A) → Bool
all_have_priorities gates = list_all (λ g. has_valid_priorities g.1.schedule) gates

-- True if every meter of the list has rates up to 100 Gbit/s and burst sizes below 2^32 octets.
abbrev pub all_within_limits : List (ℕ × MeterPlan) → Bool
all_within_limits meters = list_all (λ m. is_within_limits m.1) meters

-- Rules for a stream gate that the plan lacks: it is closed at all times, and no flag shuts it. No valid plan needs these rules.
abbrev pub closed_gate : GateRules
closed_gate = record { turn_at = λ t. None; shut_on_rx = false; shut_on_octets = false }

-- Settings for a meter that the plan lacks: both rates and both burst sizes are 0, and all switches are off.
abbrev pub empty_meter : MeterPlan
empty_meter = record { cir = 0; cbs = 0; eir = 0; ebs = 0; coupling = false; aware = false; drop_yellow = false; mark_all_red = false }

-- Rules of the stream gate; if there is no gate (`None`), rules for a gate that is always closed.
abbrev pub gate_or_closed : {A : Type 0} → Option (GatePlan A) → GateRules
gate_or_closed None = closed_gate
gate_or_closed (Some g) = gate_rules g

-- Settings of the meter; if there is no meter (`None`), settings with rates and burst sizes of 0.
abbrev pub meter_or_empty : Option MeterPlan → MeterPlan
meter_or_empty None = empty_meter
meter_or_empty (Some m) = m

-- Configuration of policing from a plan's lists; for a missing number, the gate is always closed, and the meter has
-- zero rates and sizes.
abbrev pub police_plans : {A : Type 0} → List (ℕ × FilterPlan) → List (ℕ × GatePlan A) → List (ℕ × MeterPlan) → PolicePlans
police_plans filters gates meters = record {
  filters = filters;
  gates = λ n. gate_or_closed (lookup (nat_eq n) gates);
  meters = λ n. meter_or_empty (lookup (nat_eq n) meters);
}
