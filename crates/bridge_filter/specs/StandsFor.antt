-- When the stream filters of a bridge stand for a list of events.
use Rattle.std.specs.Prelude.{◌≡◌, ℕ, Bool, false, ◌&&◌, nat_eq, Option, Some, None, option_and_then, List}
use Rattle.std.specs.Option.{option_map}
use Rattle.std.specs.Map.{lookup}
use Rattle.bridge_meter.specs.declared.Buckets.{Buckets}
use Rattle.bridge_meter.specs.declared.MeterPlan.{MeterPlan}
use Rattle.bridge_meter.specs.Colours.{MeterEvent}
use Rattle.bridge_meter.specs.StandsFor as meter
use Rattle.bridge_gate.specs.Gates.{GateRules, GateEvent}
use Rattle.bridge_gate.specs.StandsFor as gate
use Rattle.bridge_filter.specs.declared.Clear.{Clear}
use Rattle.bridge_filter.specs.declared.Clear.TheVariants as clear
use Rattle.bridge_filter.specs.declared.Counters.{Counters}
use Rattle.bridge_filter.specs.declared.Flags.{Flags}
use Rattle.bridge_filter.specs.declared.FilterPlan.{FilterPlan}
use Rattle.bridge_filter.specs.declared.filter_state.FilterState.{FilterState}
use Rattle.bridge_filter.specs.Plans.{is_listed}
use Rattle.bridge_filter.specs.Verdicts.{PolicePlans, FilterEvent, FilterStep, filter_steps, gate_share, meter_share, is_blocked}
use Rattle.bridge_filter.specs.Counts.{filter_verdicts, verdict_counters, count_arrivals, last_frame_time}

-- State of the police: filters, their states, gates and meters, by number, the number of arrived frames, and the last arrival time.
pub record PoliceState (A : Type 0) : Type 0 where
  pub filters : List (ℕ × FilterPlan)
  pub kept : List (ℕ × FilterState)
  pub gates : List (ℕ × gate.GateState A)
  pub meters : List (ℕ × meter.MeterState)
  pub calls : ℕ
  pub earliest : ℕ

-- True if the police has the filter, gate or meter that a command names.
abbrev pub has_instance : {A : Type 0} → Clear → ℕ → PoliceState A → Bool
has_instance clear.Blocked n s = is_listed n s.filters
has_instance clear.Rx n s = is_listed n s.gates
has_instance clear.Octets n s = is_listed n s.gates
has_instance clear.Red n s = is_listed n s.meters

-- Receive flag of a gate; false if the gate is absent.
abbrev pub rx_flag : {A : Type 0} → Option (gate.GateState A) → Bool
rx_flag None = false
rx_flag (Some g) = g.rx

-- Octets flag of a gate; false if the gate is absent.
abbrev pub octets_flag : {A : Type 0} → Option (gate.GateState A) → Bool
octets_flag None = false
octets_flag (Some g) = g.octets

-- Buckets of the meter with the optional number `n`; `None` without a meter.
abbrev pub optional_buckets : Option ℕ → List (ℕ × meter.MeterState) → Option Buckets
optional_buckets None meters = None
optional_buckets (Some n) meters = option_map (λ m. m.buckets) (lookup (nat_eq n) meters)

-- Red flag of an optional meter; false without a meter.
abbrev pub red_flag : Option Buckets → Bool
red_flag None = false
red_flag (Some b) = b.all_red

-- Counters of the filter with number `n`; `None` if the police lacks the filter.
abbrev pub state_counters : {A : Type 0} → ℕ → PoliceState A → Option Counters
state_counters n s = option_map (λ f. f.counters) (lookup (nat_eq n) s.kept)

-- Flags of the filter with state `f`, its gate and its meter.
abbrev pub state_flags : {A : Type 0} → PoliceState A → FilterState → Flags
state_flags s f = record {
  blocked = f.blocked;
  rx = rx_flag (lookup (nat_eq f.plan.gate) s.gates);
  octets = octets_flag (lookup (nat_eq f.plan.gate) s.gates);
  red = red_flag (optional_buckets f.plan.meter s.meters);
}

-- Flags of the filter with number `n`, its gate and its meter; `None` if the police lacks the filter.
abbrev pub state_filter_flags : {A : Type 0} → ℕ → PoliceState A → Option Flags
state_filter_flags n s = option_map (state_flags s) (lookup (nat_eq n) s.kept)

-- Buckets of the meter of the filter with number `n`; `None` if the police lacks the filter or its meter.
abbrev pub state_buckets : {A : Type 0} → ℕ → PoliceState A → Option Buckets
state_buckets n s = option_and_then (λ f. optional_buckets f.plan.meter s.meters) (lookup (nat_eq n) s.kept)

-- Holds if each stream gate stands for its share of the events: gate `n` for the list `share n`.
abbrev pub GatesStand : {A : Type 0} → (ℕ → GateRules) → List (ℕ × gate.GateState A) → (ℕ → List GateEvent) → Type 0
GatesStand {A} rules gates share = (n : ℕ) (g : gate.GateState A) → lookup (nat_eq n) gates ≡ Some g → gate.StandsFor (rules n) g (share n)

-- Holds if each meter stands for its share of the events: meter `n` for the list `share n`.
abbrev pub MetersStand : (ℕ → MeterPlan) → List (ℕ × meter.MeterState) → (ℕ → List MeterEvent) → Type 0
MetersStand plans meters share = (n : ℕ) (m : meter.MeterState) → lookup (nat_eq n) meters ≡ Some m → meter.StandsFor (plans n) m (share n)

-- Holds if the filter's counters and blocked flag follow from its verdicts.
pub record HasVerdictState (n : ℕ) (f : FilterState) (ss : List FilterStep) : Type 0 where
  pub counters : f.counters ≡ verdict_counters (filter_verdicts n ss)
  pub blocked : f.blocked ≡ f.plan.block_oversize && is_blocked n ss

-- Holds if the counters and the blocked flag of each filter follow from its verdicts.
abbrev pub HaveVerdictStates : List (ℕ × FilterState) → List FilterStep → Type 0
HaveVerdictStates kept ss = (n : ℕ) (f : FilterState) → lookup (nat_eq n) kept ≡ Some f → HasVerdictState n f ss

-- Holds if the police has these plans, and its state follows from the events, newest first.
pub record StandsFor {A : Type 0} (p : PolicePlans) (s : PoliceState A) (es : List FilterEvent) : Type 0 where
  pub filters : s.filters ≡ p.filters
  pub kept : HaveVerdictStates s.kept (filter_steps p es)
  pub gates : GatesStand p.gates s.gates (λ n. gate_share n (filter_steps p es))
  pub meters : MetersStand p.meters s.meters (λ n. meter_share n (filter_steps p es))
  pub calls : s.calls ≡ count_arrivals es
  pub earliest : s.earliest ≡ last_frame_time es
