-- Delay bounds of a protected filter's queues, by the openings and octet limits of its stream gate.
use Rattle.std.specs.Prelude.{◌≡◌, ◌⊎◌, ◌<◌, ◌≤◌, ℕ, Bool, true, ◌||◌, not, is_some, Some, List, [], ◌∷◌, Ok, nat_eq}
use Rattle.std.specs.List.{list_all}
use Rattle.std.specs.Map.{lookup}
use Rattle.bridge_cycle.specs.Cyclic as cyclic
use Rattle.bridge_frame.specs.declared.Head.{Head}
use Rattle.bridge_frame.specs.Frames.{parsed_head}
use Rattle.bridge_frame.specs.Link.{transmission_time}
use Rattle.bridge_gate.specs.declared.schedule.GateEntry.{GateEntry}
use Rattle.bridge_gate.specs.declared.schedule.GatePlan.{GatePlan}
use Rattle.bridge_gate.specs.declared.schedule.Schedule.{Schedule}
use Rattle.bridge_gate.specs.declared.schedule.Schedule.TheVariants.{Cyclic}
use Rattle.bridge_filter.specs.declared.FilterPlan.{FilterPlan}
use Rattle.bridge_port.specs.GateSchedule.{lists_open}
use Rattle.bridge_config.specs.declared.ports.PortPlan.{PortPlan}
use Rattle.bridge_config.specs.Model.{Plan}
use Rattle.bridge_config.specs.Rules.{find_port}
use Rattle.bridge_check.specs.Reach.{reaches_queue}
use Rattle.bridge_check.specs.Windows.{longest_frame}
use Rattle.bridge_semantics.specs.Events.{Arrived, Cleared, Event}
use Rattle.bridge_bounds.specs.Bounds.{IsTightBound}
use Rattle.bridge_groups.specs.GateIntervals.{gate_opens, last_opening, opening_work}
use Rattle.bridge_groups.specs.IntervalWork.{IsIntervalBound}

-- Holds if each received frame with a readable header has an SDU of at least `k` octets.
abbrev pub HaveSdus : ℕ → List Event → Type 0
HaveSdus k [] = Unit {0}
HaveSdus k (Arrived a ∷ es) = ((h : Head) → parsed_head a.octets a.len ≡ Ok h → k ≤ h.sdu) × HaveSdus k es
HaveSdus k (Cleared clear n ∷ es) = HaveSdus k es

-- True if each open entry of a stream gate's list has an octet limit.
abbrev pub are_limited : List (GateEntry × ℕ) → Bool
are_limited es = list_all (λ e. not e.0.lets || is_some e.0.octets) es

-- Holds if `b` ns is the delay bound of class `c` at port `out` for the frames of a stream gate with schedule `s`. SDUs have `k` to `m` octets.
pub record IsScheduleBound {A : Type 0} (s : Schedule A) (out : PortPlan A) (c m k b : ℕ) : Type 0 where
  pub list : cyclic.Cyclic GateEntry
  pub schedule : s ≡ Cyclic list
  pub limited : are_limited list.entries ≡ true
  pub is : IsIntervalBound (lists_open out.list c) (gate_opens list) (transmission_time (longest_frame m) out.speed) (transmission_time 60 out.speed) (last_opening list) (opening_work list (transmission_time 60 out.speed) k) b

-- Holds if `b` ns is the delay bound of protected filter `n` for class `c` at port `q`, by its stream gate. SDUs have at least `k` octets,
-- 1 to 44.
pub record IsGateWorkBound {A : Type 0} (p : Plan A) (n q c k b : ℕ) : Type 0 where
  pub some : 1 ≤ k
  pub few : k ≤ 44
  pub filter : FilterPlan
  pub max_sdu : ℕ
  pub out : PortPlan A
  pub gate : GatePlan A
  pub found : lookup (nat_eq n) p.filters ≡ Some filter
  pub protected : filter.protected ≡ true
  pub size : filter.max_sdu ≡ Some max_sdu
  pub at : find_port p.ports q ≡ Some out
  pub reach : reaches_queue p filter q c ≡ true
  pub gated : lookup (nat_eq filter.gate) p.gates ≡ Some gate
  pub is : IsScheduleBound gate.schedule out c max_sdu k b

-- Holds if `b` ns is the tight bound, or a lesser bound that follows from the octets that the stream gate passes. SDUs have at least the
-- two octets of an EtherType.
abbrev pub IsLeastBound : {A : Type 0} → Plan A → ℕ → ℕ → ℕ → ℕ → Type 0
IsLeastBound p n q c b = (a : ℕ) × IsTightBound p n q c a × ((b ≡ a) ⊎ (IsGateWorkBound p n q c 2 b × (b < a)))

-- Holds if `b` ns is a bound below `a` for frames of at least 60 octets, whose SDUs have at least 44 octets. It follows from the octets
-- that the stream gate passes.
abbrev pub IsPaddedBound : {A : Type 0} → Plan A → ℕ → ℕ → ℕ → ℕ → ℕ → Type 0
IsPaddedBound p n q c a b = IsGateWorkBound p n q c 44 b × (b < a)
