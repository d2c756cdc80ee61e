-- Earliest starts of a port's heads, and the best head: it can start earliest, or, at equal times, has the highest
-- class.
use Rattle.std.specs.Prelude.{◌≡◌, ℕ, Bool, false, true, ◌<◌, ◌≤◌, ◌+◌, ◌*◌, ◌^◌, ◌&&◌, ◌||◌, max, length, nat_lt, nat_eq, Option, Some, None, List, [], ◌∷◌, slice_index_or, slice_set, if◌then◌else◌}
use Rattle.bridge_frame.specs.declared.Speed.{Speed}
use Rattle.bridge_frame.specs.Link.{transmission_time}
use Rattle.bridge_cycle.specs.Fits.{IsFirstFit}
use Rattle.bridge_port.specs.declared.item.Item.{Item}
use Rattle.bridge_port.specs.StandsFor.{EgressState, IsNextStart, IsStateSound, count_queued, class_queue}
use Rattle.bridge_port.specs.GateSchedule.{GateSchedule, opens}

-- Holds if time `k`, `from` or later, is the earliest start of the queue's head, at most 2 s later. `None` if the queue is empty.
abbrev pub IsHeadFit : {T : Type 0} → GateSchedule → Speed → ℕ → ℕ → List (Item T) → Option ℕ → Type 0
IsHeadFit list speed from c [] None = Unit {0}
IsHeadFit list speed from c [] (Some k) = ⊥
IsHeadFit list speed from c (x ∷ rest) None = ⊥
IsHeadFit list speed from c (x ∷ rest) (Some k) = IsFirstFit (opens list c) (transmission_time x.len speed) from k × (k ≤ from + 2 * 10 ^ 9)

-- True if the time is before `from`; false for `None`.
abbrev pub is_past : Option ℕ → ℕ → Bool
is_past None from = false
is_past (Some k) from = nat_lt k from

-- Holds if among the classes below `n`, class `c` has the earliest start `k`, and no higher class has this start.
pub record IsSoonestHead (fits : List (Option ℕ)) (n k c : ℕ) : Type 0 where
  pub fit : slice_index_or fits c None ≡ Some k
  pub below : c < n
  pub least : (d u : ℕ) → d < n → slice_index_or fits d None ≡ Some u → k ≤ u
  pub highest : (d : ℕ) → d < n → slice_index_or fits d None ≡ Some k → d ≤ c

-- Holds if the pair (time and class) is the best head among the classes below `n`. `None` means that these classes have no head.
abbrev pub IsBestHead : List (Option ℕ) → ℕ → Option (ℕ × ℕ) → Type 0
IsBestHead fits n None = (d : ℕ) → d < n → slice_index_or fits d None ≡ None
IsBestHead fits n (Some b) = IsSoonestHead fits n b.0 b.1

-- Better of the best head so far and the head of class `c` with start `k`.
abbrev pub sooner_head : Option (ℕ × ℕ) → ℕ → ℕ → Option (ℕ × ℕ)
sooner_head None k c = Some (k, c)
sooner_head (Some b) k c = if nat_lt b.0 k || (nat_eq b.0 k && nat_lt c b.1) then Some b else Some (k, c)

-- Better of the best head so far and the head of class `c`, which may have no head.
abbrev pub sooner_optional_head : Option (ℕ × ℕ) → Option ℕ → ℕ → Option (ℕ × ℕ)
sooner_optional_head best None c = best
sooner_optional_head best (Some k) c = sooner_head best k c

-- Holds if an item with a transmission time of `occ` ns becomes the head of class `c`. Its earliest start is stored,
-- and the best head is updated.
pub record GainsHead (list : GateSchedule) (from c occ : ℕ) (old new : List (Option ℕ)) (before after : Option (ℕ × ℕ)) : Type 0 where
  pub at : ℕ
  pub first : IsFirstFit (opens list c) occ from at
  pub soon : at ≤ from + 2 * 10 ^ 9
  pub fits : new ≡ slice_set old c (Some at)
  pub best : after ≡ sooner_head before at c

-- Holds if the next start is at time `k` in class `c`. It is at most 2 s after the link is free and the next offer may arrive.
pub record StartsNext {T : Type 0} (p : EgressState T) (k c : ℕ) : Type 0 where
  pub item : Item T
  pub next : IsNextStart p k c item
  pub soon : k ≤ max p.free p.earliest + 2 * 10 ^ 9
  pub below : c < length p.queues

-- Holds if the list `fits` has the earliest start of each class's head, and `None` for an empty queue.
abbrev pub AreHeadFits : {T : Type 0} → EgressState T → List (Option ℕ) → Type 0
AreHeadFits p fits = (c : ℕ) → IsHeadFit p.list p.speed (max p.free p.earliest) c (class_queue p c) (slice_index_or fits c None)

-- Holds if the port's stored values are right: the number of queued items, the earliest starts of its heads, and the
-- best head.
pub record KeepsHeads {T : Type 0} (p : EgressState T) (queued : ℕ) (fits : List (Option ℕ)) (best : Option (ℕ × ℕ)) : Type 0 where
  pub kept : IsStateSound p
  pub all : queued ≡ count_queued (λ x. true) p
  pub are_fits : AreHeadFits p fits
  pub is_best : IsBestHead fits 8 best
