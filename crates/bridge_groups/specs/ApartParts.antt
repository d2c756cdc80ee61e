-- Two parts of a queue's copies that are apart in time. No copy finds a copy of the other part in the queue or on the link.
use Rattle.std.specs.Prelude.{◌≡◌, ◌⊎◌, ℕ, Bool, true, false, not, ◌+◌, ◌≤◌, List, [], ◌∷◌, if◌then◌else◌}
use Rattle.bridge_limits.specs.Members.{IsMember}
use Rattle.bridge_port.specs.Schedule.{Copy, PortRules}
use Rattle.bridge_port.specs.Solo.{IsSolo, done_time_or}

-- Lists of copies are newest first.
module _ {X : Type 0} where
  -- The copies whose items are in part `own`.
  abbrev pub part_copies : (X → Bool) → List (Copy X) → List (Copy X)
  part_copies own [] = []
  part_copies own (x ∷ xs) = if own x.item then x ∷ part_copies own xs else part_copies own xs

  -- Holds if copy `y` was dropped, is still queued, or its transmission ended by time `t`.
  abbrev pub HasLeftBy : PortRules X → ℕ → Copy X → Type 0
  HasLeftBy r t y = done_time_or y.fate (r.occ y.item) 0 ≤ t

  -- Holds if each copy arrives when all older copies of the other part have left (HasLeftBy). One part has the items for which `own` is
  -- true, the other part the rest.
  abbrev pub AreApart : PortRules X → (X → Bool) → List (Copy X) → Type 0
  AreApart r own [] = Unit {0}
  AreApart r own (x ∷ xs) = ((y : Copy X) → IsMember y xs → own y.item ≡ not (own x.item) → HasLeftBy r x.at y) × AreApart r own xs

  -- Holds if `ys` is list `xs` without its newest copies: none, some or all of them may be left out.
  abbrev pub IsOlderEnd : List (Copy X) → List (Copy X) → Type 0
  IsOlderEnd ys [] = ys ≡ []
  IsOlderEnd ys (x ∷ xs) = (ys ≡ x ∷ xs) ⊎ IsOlderEnd ys xs

  -- True if an item is in the chosen part: in `own` if the flag is true, otherwise in the rest.
  abbrev pub is_in_part : (X → Bool) → Bool → X → Bool
  is_in_part own true x = own x
  is_in_part own false x = not (own x)

  -- Holds if both parts have a delay bound by themselves. While a part has the port to itself, each of its copies leaves at most `delay` ns
  -- after its arrival, or is dropped.
  abbrev pub HaveDelayBounds : PortRules X → (X → Bool) → (Bool → ℕ) → List (Copy X) → Type 0
  HaveDelayBounds r own delay xs =
      (ys : List (Copy X)) (b : Bool) (y : Copy X)
      → IsOlderEnd ys xs
      → IsSolo r (part_copies (is_in_part own b) ys)
      → IsMember y (part_copies (is_in_part own b) ys)
      → HasLeftBy r (y.at + delay b) y

  -- Holds if each copy arrives when the delay bound of each older copy of the other part is over. `delay` gives the bound of each part in
  -- ns.
  abbrev pub ArriveApart : (X → Bool) → (Bool → ℕ) → List (Copy X) → Type 0
  ArriveApart own delay [] = Unit {0}
  ArriveApart own delay (x ∷ xs) =
      ((y : Copy X) → IsMember y xs → own y.item ≡ not (own x.item) → y.at + delay (own y.item) ≤ x.at) × ArriveApart own delay xs
