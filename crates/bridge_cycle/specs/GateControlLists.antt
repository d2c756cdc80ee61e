-- Gate control lists of a port: one list, or two lists with a schedule change.
use Rattle.std.specs.Prelude.{ℕ, Option}
use Rattle.bridge_cycle.specs.declared.timeline.Turn.{Turn}
use Rattle.bridge_cycle.specs.declared.gate_control_lists.Egress.{Egress}
use Rattle.bridge_cycle.specs.declared.gate_control_lists.Egress.TheVariants.{Cyclic, Joined}
use Rattle.bridge_cycle.specs.Cyclic as cyclic
use Rattle.bridge_cycle.specs.ChangingList as joined

-- Interval of a port's gate control lists that contains time `t`.
abbrev pub turn_by_time : {A : Type 0} → Egress A → ℕ → Option (Turn ℕ)
turn_by_time (Cyclic l) t = cyclic.turn_by_time l t
turn_by_time (Joined j) t = joined.turn_by_time j t

-- Cycle time in ns of the only list, or the greater of two cycle times.
abbrev pub cycle_length : {A : Type 0} → Egress A → ℕ
cycle_length (Cyclic l) = l.cycle
cycle_length (Joined j) = joined.cycle_length j

-- Holds if each list has valid sizes, intervals, cycle time and base time.
abbrev pub IsLawful : {A : Type 0} → Egress A → Type 0
IsLawful (Cyclic l) = cyclic.IsLawful l
IsLawful (Joined j) = joined.IsLawful j
