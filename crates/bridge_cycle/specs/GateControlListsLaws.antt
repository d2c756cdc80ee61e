-- Statements of the laws about the gate control lists of a port.
use Rattle.std.specs.Prelude.{◌≡◌, ℕ, Some}
use Rattle.bridge_cycle.specs.declared.timeline.Turn.{Turn}
use Rattle.bridge_cycle.specs.declared.gate_control_lists.Egress.{Egress}
use Rattle.bridge_cycle.specs.declared.gate_control_lists.Egress.TheVariants.{Cyclic, Joined}
use Rattle.bridge_cycle.specs.CyclicLaws.{cyclic_turn_exists}
use Rattle.bridge_cycle.specs.ChangingListLaws.{IsTimelineTurn, list_turn_is_exact, changing_turn_is_exact, changing_turn_exists}
use Rattle.bridge_cycle.specs.GateControlLists.{turn_by_time, cycle_length, IsLawful}

-- Each interval of a port's lists has the properties of `IsTimelineTurn`.
pub lists_turn_is_exact : {A : Type 0} (e : Egress A) (t : ℕ) (x : Turn ℕ) → IsLawful e → turn_by_time e t ≡ Some x → IsTimelineTurn (turn_by_time e) (cycle_length e) t x
lists_turn_is_exact (Cyclic l) t x lawful h = list_turn_is_exact l t x lawful h
lists_turn_is_exact (Joined j) t x lawful h = changing_turn_is_exact j t x lawful h

-- A port's lists have an interval at each time.
pub lists_turn_exists : {A : Type 0} (e : Egress A) (t : ℕ) → IsLawful e → (x : Turn ℕ) × (turn_by_time e t ≡ Some x)
lists_turn_exists (Cyclic l) t lawful = cyclic_turn_exists l t lawful
lists_turn_exists (Joined j) t lawful = changing_turn_exists j t lawful
