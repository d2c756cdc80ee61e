-- Open times of an egress port's transmission gates.
use Rattle.std.specs.Prelude.{◌≡◌, ◌↔◌, ℕ, Bool, true, ◌<◌, ◌≤ℤ◌, ◌&&◌, nat_le, pos, Option, Some, None, List, slice_index_or}
use Rattle.std.specs.List.{list_all}
use Rattle.bridge_cycle.specs.Opens.{turn_opens}
use Rattle.bridge_cycle.specs.Cyclic as cyclic
use Rattle.bridge_cycle.specs.GateControlLists as egress
use Rattle.bridge_cycle.specs.ChangingList as joined
use Rattle.bridge_cycle.specs.declared.gate_control_lists.Egress.{Egress}
use Rattle.bridge_cycle.specs.declared.timeline.Turn.{Turn}
use Rattle.bridge_cycle.specs.declared.gate_control_lists.Egress.TheVariants.{Cyclic, Joined}
use Rattle.bridge_cycle.specs.Fitting.{fits_somewhere}
use Rattle.bridge_cycle.specs.Runs.{Allows}
use Rattle.bridge_cycle.specs.declared.run.Run.{Run}
use Rattle.bridge_cycle.specs.declared.run.Run.TheVariants.{Never}
use Rattle.bridge_port.specs.declared.queues.TheConstants.{LARGEST_ROOM}

-- Schedule of a port's transmission gates: always open, one gate control list, or an old and a new list with a schedule
-- change.
pub data GateSchedule : Type 0 where
  Always : GateSchedule
  One : cyclic.Cyclic ℕ → GateSchedule
  Changing : joined.Joined ℕ → GateSchedule

-- Schedule of a port's transmission gates from its gate control lists; all gates are always open if the port has no
-- list (`None`).
abbrev pub gate_schedule : {A : Type 0} → Option (Egress A) → GateSchedule
gate_schedule None = Always
gate_schedule (Some (Cyclic l)) = One l
gate_schedule (Some (Joined j)) = Changing j

-- True if gate control list `l` opens class `c` at time `u`, in ns.
abbrev pub list_opens : cyclic.Cyclic ℕ → ℕ → ℕ → Bool
list_opens l c u = turn_opens (cyclic.turn_by_time l u) c

-- True if the schedule opens the transmission gate of class `c` at time `u`, in ns.
abbrev pub opens : GateSchedule → ℕ → ℕ → Bool
opens Always c u = true
opens (One l) c u = list_opens l c u
opens (Changing j) c u = turn_opens (joined.turn_by_time j u) c

-- True if list `l` opens class `c` for `n` ns in a row from at least one start time below its cycle time.
abbrev pub list_can_fit : cyclic.Cyclic ℕ → ℕ → ℕ → Bool
list_can_fit l c n = fits_somewhere (list_opens l c) l.cycle n

-- True if each list of the schedule, by itself, opens class `c` for `n` ns in a row; always true without a list.
abbrev pub can_fit : GateSchedule → ℕ → ℕ → Bool
can_fit Always c n = true
can_fit (One l) c n = list_can_fit l c n
can_fit (Changing j) c n = list_can_fit j.old c n && list_can_fit j.new c n

-- True for a class and a time in ns if the port's gate control lists open the class then; always true without a list.
abbrev pub lists_open : {A : Type 0} → Option (Egress A) → ℕ → ℕ → Bool
lists_open list = opens (gate_schedule list)

-- True for a class and a duration in ns if each gate control list has a window that long; always true without a list.
abbrev pub lists_can_fit : {A : Type 0} → Option (Egress A) → ℕ → ℕ → Bool
lists_can_fit list = can_fit (gate_schedule list)

-- Holds if each list has valid sizes, intervals, cycle time and base time.
abbrev pub HasLawfulLists : GateSchedule → Type 0
HasLawfulLists Always = Unit {0}
HasLawfulLists (One l) = cyclic.IsLawful l
HasLawfulLists (Changing j) = joined.IsLawful j

-- True if each queue capacity is 1 to 4,096 frames.
abbrev pub are_valid_rooms : List ℕ → Bool
are_valid_rooms rooms = list_all (λ n. nat_le 1 n && nat_le n LARGEST_ROOM) rooms

-- Holds if for each of the eight classes, the run allows exactly the lengths in ns for which `test` is true.
abbrev pub RunsMatchTest : (ℕ → ℕ → Bool) → List Run → Type 0
RunsMatchTest test runs = (c : ℕ) → c < 8 → (n : ℕ) → Allows (slice_index_or runs c Never) n ↔ (test c n ≡ true)

-- Holds if the lists are lawful, and the runs match them.
pub record HasRuns (list : GateSchedule) (runs : List Run) : Type 0 where
  pub made : HasLawfulLists list
  pub allow : RunsMatchTest (can_fit list) runs

-- Holds if at each time within interval `x`, the port's lists have exactly this interval.
abbrev pub IsListsTurn : {A : Type 0} → Egress A → Turn ℕ → Type 0
IsListsTurn list x = (u : ℕ) → x.start ≤ℤ pos u → u < x.end → egress.turn_by_time list u ≡ Some x

-- Holds if the kept interval is an interval of the port's lists, if the port has lists.
abbrev pub KeepsTurn : {A : Type 0} → Option (Egress A) → Turn ℕ → Type 0
KeepsTurn None x = Unit {0}
KeepsTurn (Some list) x = IsListsTurn list x
