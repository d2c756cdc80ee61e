-- Stream gates of the filters that share a queue, apart in time. If the gap is a delay bound of the queue, what one gate passes has left
-- before another gate opens.
use Rattle.std.specs.Prelude.{◌≡◌, ◌≢◌, ◌≤◌, ◌<◌, ◌+◌, ℕ, true, false, Some, List, slice_get}
use Rattle.bridge_cycle.specs.Cyclic.{Cyclic}
use Rattle.bridge_gate.specs.declared.schedule.GateEntry.{GateEntry}
use Rattle.bridge_filter.specs.declared.FilterPlan.{FilterPlan}
use Rattle.bridge_config.specs.Model.{Plan}
use Rattle.bridge_groups.specs.GateIntervals.{gate_opens}
use Rattle.bridge_groups.specs.MergedGates.{AreGateLists}

-- Holds if the stream gate of list `l` is closed at each time from `from` to `until` - 1.
abbrev pub IsClosedUntil : Cyclic GateEntry → ℕ → ℕ → Type 0
IsClosedUntil l from until = (t : ℕ) → from ≤ t → t < until → gate_opens l t ≡ false

-- Holds if each other list of `ls` is closed at each time from `from` to `until` - 1. `i` is the index of the list that is left out.
abbrev pub AreOthersClosed : List (Cyclic GateEntry) → ℕ → ℕ → ℕ → Type 0
AreOthersClosed ls i from until = (j : ℕ) (y : Cyclic GateEntry) → slice_get ls j ≡ Some y → i ≢ j → IsClosedUntil y from until

-- Holds if, for each time `s` before `until` at which list `i` is open, all other lists are closed from `s` to `s + gap - 1`.
abbrev pub LeavesGap : List (Cyclic GateEntry) → ℕ → ℕ → ℕ → Type 0
LeavesGap ls gap until i =
    (j s t : ℕ) (x y : Cyclic GateEntry)
    → slice_get ls i ≡ Some x
    → slice_get ls j ≡ Some y
    → i ≢ j
    → s < until
    → gate_opens x s ≡ true
    → gate_opens y t ≡ true
    → s ≤ t
    → s + gap ≤ t

-- Holds if, for each time `s` at which one of the lists is open, all other lists are closed from `s` to `s + gap - 1`.
abbrev pub AreListsApart : List (Cyclic GateEntry) → ℕ → Type 0
AreListsApart ls gap =
    (i j s t : ℕ) (x y : Cyclic GateEntry)
    → slice_get ls i ≡ Some x
    → slice_get ls j ≡ Some y
    → i ≢ j
    → gate_opens x s ≡ true
    → gate_opens y t ≡ true
    → s ≤ t
    → s + gap ≤ t

-- Holds if the stream gates of these filters are apart in time by `gap` ns (`AreListsApart`). Each gate has one list, with `octets` in
-- each open entry.
pub record AreGatesApart {A : Type 0} (p : Plan A) (sharers : List (ℕ × FilterPlan)) (gap : ℕ) : Type 0 where
  pub lists : List (Cyclic GateEntry)
  pub are : AreGateLists p sharers lists
  pub apart : AreListsApart lists gap
