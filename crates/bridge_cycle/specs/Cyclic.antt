-- Cyclic lists: the interval that contains a given time.
use Rattle.std.specs.Prelude.{◌≡◌, ℕ, Bool, false, ◌<◌, ◌≤◌, ◌+◌, ◌-◌, ◌%◌, Option, Some, None, List, [], ◌∷◌, length, nat_lt, if◌then◌else◌, pos, ◌-ℤ◌}
use Rattle.std.specs.Prelude.{nat_eq, ◌||◌}
use Rattle.std.specs.List.{list_any}
use Rattle.bridge_limits.specs.declared.TheConstants.{END_OF_TIME}
use Rattle.bridge_cycle.specs.declared.cyclic_list.TheConstants.{LONGEST_CYCLE, MAX_ENTRIES}
use Rattle.bridge_cycle.specs.declared.cyclic_list.ListFault.{ListFault}
use Rattle.bridge_cycle.specs.declared.cyclic_list.ListFault.TheVariants.{Empty, ZeroInterval, OverCycle, CycleOutOfRange, TooManyEntries, NoMemory}
use Rattle.bridge_cycle.specs.declared.timeline.Turn.{Turn}

-- List that repeats: base time and cycle time in ns, and entries. Each entry is a state with the length of its interval
-- in ns.
pub record Cyclic (S : Type 0) : Type 0 where
  pub base : ℕ
  pub cycle : ℕ
  pub entries : List (S × ℕ)

-- Time in ns from the latest cycle start to time `t`; a cycle starts at the base time plus or minus whole cycle times.
abbrev pub phase : ℕ → ℕ → ℕ → ℕ
phase base cycle t = (t + (cycle - base % cycle)) % cycle

-- Entry within one cycle: its state, and the offsets in ns from the cycle start at which its interval starts and ends.
pub record EntryInterval (S : Type 0) : Type 0 where
  pub state : S
  pub start : ℕ
  pub end : ℕ

-- Entry in force at offset `p` ns of the cycle; `None` without entries. The first entry starts at `start`, each other
-- entry after its predecessor. The last entry lasts until the cycle ends.
abbrev pub entry_interval : {S : Type 0} → List (S × ℕ) → ℕ → ℕ → ℕ → Option (EntryInterval S)
entry_interval [] start cycle p = None
entry_interval (e ∷ []) start cycle p = Some (record { state = e.0; start = start; end = cycle })
entry_interval (e ∷ f ∷ es) start cycle p = if nat_lt p (start + e.1) then Some (record { state = e.0; start = start; end = start + e.1 }) else entry_interval (f ∷ es) (start + e.1) cycle p

-- Interval of an entry in ns, converted from its offsets in the cycle; time `t` has offset `p`, and the start may be
-- negative.
abbrev pub interval_turn : {S : Type 0} → ℕ → ℕ → Option (EntryInterval S) → Option (Turn S)
interval_turn t p None = None
interval_turn t p (Some x) = Some (record { state = x.state; start = pos t -ℤ pos (p - x.start); end = t + (x.end - p) })

-- Interval of the repeating list `l` that contains time `t`, in ns, with its state, start and end; `None` if the list
-- has no entries.
abbrev pub turn_by_time : {S : Type 0} → Cyclic S → ℕ → Option (Turn S)
turn_by_time l t = let p = phase l.base l.cycle t in interval_turn t p (entry_interval l.entries 0 l.cycle p)

-- Sum of the intervals of all entries of the list, in ns; 0 for the empty list.
abbrev pub interval_sum : {S : Type 0} → List (S × ℕ) → ℕ
interval_sum [] = 0
interval_sum (e ∷ es) = e.1 + interval_sum es

-- True if at least one entry of the list has an interval of 0 ns.
abbrev pub has_zero_interval : {S : Type 0} → List (S × ℕ) → Bool
has_zero_interval es = list_any (λ e. nat_eq e.1 0) es

-- First fault of a list, in the order of the tests; `None` for a valid list.
abbrev pub first_fault : {S : Type 0} → ℕ → List (S × ℕ) → Option ListFault
first_fault cycle es =
    if nat_eq (length es) 0 then Some Empty
    else if nat_lt MAX_ENTRIES (length es) then Some TooManyEntries
    else if nat_eq cycle 0 || nat_lt LONGEST_CYCLE cycle then Some CycleOutOfRange
    else if has_zero_interval es then Some ZeroInterval
    else if nat_lt cycle (interval_sum es) then Some OverCycle
    else None

-- Numbers of the faults of a gate control list, by which contracts compare faults.
abbrev pub fault_code : ListFault → ℕ
fault_code Empty = 1
fault_code ZeroInterval = 2
fault_code OverCycle = 3
fault_code CycleOutOfRange = 4
fault_code TooManyEntries = 5
fault_code NoMemory = 6

-- Holds if the list has 1 to 256 entries, a cycle time up to 1 s, and a base time before END_OF_TIME. Its intervals are positive, and
-- their sum is at most the cycle time.
pub record IsLawful {S : Type 0} (l : Cyclic S) : Type 0 where
  pub some : 0 < length l.entries
  pub few : length l.entries ≤ MAX_ENTRIES
  pub base : l.base < END_OF_TIME
  pub cycle : l.cycle ≤ LONGEST_CYCLE
  pub cycle_some : 0 < l.cycle
  pub intervals : has_zero_interval l.entries ≡ false
  pub within : interval_sum l.entries ≤ l.cycle
