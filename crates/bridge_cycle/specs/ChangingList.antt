-- Schedule change: a new list replaces an old one at a given time.
use Rattle.std.specs.Prelude.{ℕ, nat_lt, if◌then◌else◌, Option, Some, None, min, max, pos}
use Rattle.std.specs.Int.{int_max}
use Rattle.bridge_cycle.specs.declared.timeline.Turn.{Turn}
use Rattle.bridge_cycle.specs.Cyclic.{Cyclic}
use Rattle.bridge_cycle.specs.Cyclic as cyclic

-- Two lists with a schedule change: the old list applies before the ConfigChangeTime `at` (in ns), the new list from
-- `at` on.
pub record Joined (S : Type 0) : Type 0 where
  pub old : Cyclic S
  pub new : Cyclic S
  pub at : ℕ

-- The interval with its end set to time `m` (in ns) if it ends later than `m`; `None` stays `None`.
abbrev pub clip_end : {S : Type 0} → ℕ → Option (Turn S) → Option (Turn S)
clip_end m None = None
clip_end m (Some x) = Some (record { state = x.state; start = x.start; end = min x.end m })

-- The interval with its start set to time `m` (in ns) if it starts earlier than `m`; `None` stays `None`.
abbrev pub clip_start : {S : Type 0} → ℕ → Option (Turn S) → Option (Turn S)
clip_start m None = None
clip_start m (Some x) = Some (record { state = x.state; start = int_max x.start (pos m); end = x.end })

-- Interval that contains time `t`, shortened at the schedule change: before the change from the old list, otherwise
-- from the new list.
abbrev pub turn_by_time : {S : Type 0} → Joined S → ℕ → Option (Turn S)
turn_by_time j t = if nat_lt t j.at then clip_end j.at (cyclic.turn_by_time j.old t) else clip_start j.at (cyclic.turn_by_time j.new t)

-- Greater of the cycle times of the old and the new list, in ns.
abbrev pub cycle_length : {S : Type 0} → Joined S → ℕ
cycle_length j = max j.old.cycle j.new.cycle

-- Holds if both lists of the schedule change, the old and the new list, have valid sizes, intervals, cycle times and
-- base times.
pub record IsLawful {S : Type 0} (j : Joined S) : Type 0 where
  pub old : cyclic.IsLawful j.old
  pub new : cyclic.IsLawful j.new
