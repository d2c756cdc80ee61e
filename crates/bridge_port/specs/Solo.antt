-- The schedule of a class that has its port to itself.
use Rattle.std.specs.Prelude.{◌≡◌, ℕ, true, false, ◌<◌, ◌≤◌, ◌+◌, nat_eq, max, List, [], ◌∷◌, if◌then◌else◌}
use Rattle.bridge_cycle.specs.Fits.{IsFirstFit}
use Rattle.bridge_port.specs.Schedule.{Fate, Never, Full, Queued, Started, Copy, PortRules, count_waiting, is_queued}

-- Time in ns at which the copy's transmission of `n` ns ends; time `t` if the copy was dropped or is still queued.
abbrev pub done_time_or : Fate → ℕ → ℕ → ℕ
done_time_or Never n t = t
done_time_or Full n t = t
done_time_or Queued n t = t
done_time_or (Started s) n t = s + n

module _ {X : Type 0} where
  -- Copies of class `c`, the newest first.
  abbrev pub class_copies : ℕ → List (Copy X) → List (Copy X)
  class_copies c [] = []
  class_copies c (x ∷ xs) = if nat_eq x.class c then x ∷ class_copies c xs else class_copies c xs

  -- End of the newest transmission in the list in ns; 0 if no copy in the list has started.
  abbrev pub last_done_time : PortRules X → List (Copy X) → ℕ
  last_done_time r [] = 0
  last_done_time r (x ∷ xs) = done_time_or x.fate (r.occ x.item) (last_done_time r xs)

  -- Holds if copy `x` was dropped as IsAnswer states, or started at the first fitting time. The search for this time
  -- begins at its offer or at the previous end of transmission, whichever is later.
  abbrev pub IsSoloFate : PortRules X → Copy X → List (Copy X) → Fate → Type 0
  IsSoloFate r x xs Never = r.ever x.class (r.occ x.item) ≡ false
  IsSoloFate r x xs Full = (r.ever x.class (r.occ x.item) ≡ true) × (r.room x.class ≤ count_waiting x.class x.at xs)
  IsSoloFate r x xs Queued = ⊥
  IsSoloFate r x xs (Started s) = (r.ever x.class (r.occ x.item) ≡ true) × (count_waiting x.class x.at xs < r.room x.class) × IsFirstFit (r.opens x.class) (r.occ x.item) (max x.at (last_done_time r xs)) s

  -- Holds if each copy has the fate that IsSoloFate gives, as if the port served only the copies of this list.
  abbrev pub IsSolo : PortRules X → List (Copy X) → Type 0
  IsSolo r [] = Unit {0}
  IsSolo r (x ∷ xs) = IsSoloFate r x xs x.fate × IsSolo r xs

  -- Holds if no copy of the list is still queued; each copy was dropped or has started.
  abbrev pub IsFinished : List (Copy X) → Type 0
  IsFinished [] = Unit {0}
  IsFinished (x ∷ xs) = (is_queued x.fate ≡ false) × IsFinished xs

  -- Holds if no other class is open while class `c` is open.
  abbrev pub HasOwnWindow : PortRules X → ℕ → Type 0
  HasOwnWindow r c = (d u : ℕ) → r.opens c u ≡ true → r.opens d u ≡ true → d ≡ c

module _ {X : Type 0} where
  -- Holds if both lists have equal offers: times, classes and items. Fates may differ.
  abbrev pub HaveSameOffers : List (Copy X) → List (Copy X) → Type 0
  HaveSameOffers [] [] = Unit {0}
  HaveSameOffers [] (y ∷ ys) = ⊥
  HaveSameOffers (x ∷ xs) [] = ⊥
  HaveSameOffers (x ∷ xs) (y ∷ ys) = (x.at ≡ y.at) × (x.class ≡ y.class) × (x.item ≡ y.item) × HaveSameOffers xs ys
