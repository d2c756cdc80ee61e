-- The lawful schedule of a port (IEEE 802.1Q-2018, 8.6.8).
use Rattle.std.specs.Prelude.{◌≡◌, ℕ, Bool, true, false, ◌<◌, ◌≤◌, ◌+◌, ◌&&◌, ◌||◌, not, max, nat_lt, nat_le, nat_eq, Option, Some, None, List, [], ◌∷◌, ◌++◌, length, if◌then◌else◌, ◌⊎◌}
use Rattle.bridge_cycle.specs.Fits.{Fits}

-- Fate of a copy: dropped because it never fits (Never) or its queue is full (Full), still queued, or started at a time
-- in ns.
pub data Fate : Type 0 where
  Never : Fate
  Full : Fate
  Queued : Fate
  Started : ℕ → Fate

-- Copy of a frame that was offered to an egress port: time of the offer in ns, traffic class, content, and fate.
pub record Copy (X : Type 0) : Type 0 where
  pub at : ℕ
  pub class : ℕ
  pub item : X
  pub fate : Fate

-- Rules of a port: when each class is open, which transmission times can ever fit, queue capacities, and each copy's
-- transmission time in ns.
pub record PortRules (X : Type 0) : Type 0 where
  pub opens : ℕ → ℕ → Bool
  pub ever : ℕ → ℕ → Bool
  pub room : ℕ → ℕ
  pub occ : X → ℕ

-- True if the copy entered its queue: its fate is Queued or Started.
abbrev pub is_accepted : Fate → Bool
is_accepted Never = false
is_accepted Full = false
is_accepted Queued = true
is_accepted (Started s) = true

-- True if the copy started earlier than time `u`; false if it was dropped or is still queued.
abbrev pub has_started : ℕ → Fate → Bool
has_started u Never = false
has_started u Full = false
has_started u Queued = false
has_started u (Started s) = nat_lt s u

-- True if the copy entered its queue and did not start before time `u`; a start exactly at `u` gives true.
abbrev pub is_waiting : ℕ → Fate → Bool
is_waiting u f = is_accepted f && not (has_started u f)

-- True if the copy's transmission, which lasts `n` ns, starts before time `u` and ends after `u`.
abbrev pub is_on_link : ℕ → ℕ → Fate → Bool
is_on_link u n Never = false
is_on_link u n Full = false
is_on_link u n Queued = false
is_on_link u n (Started s) = nat_lt s u && nat_lt u (s + n)

-- Holds if the transmissions of two copies, `n` ns and `m` ns long, don't overlap; this holds if either copy has not
-- started.
abbrev pub AreDisjoint : ℕ → Fate → ℕ → Fate → Type 0
AreDisjoint n (Started s) m (Started t) = (s + n ≤ t) ⊎ (t + m ≤ s)
AreDisjoint n f m g = Unit {0}

-- Holds if the newer of two copies (first argument) hasn't started, or the older copy was dropped or started earlier.
abbrev pub AreStartsInOrder : Fate → Fate → Type 0
AreStartsInOrder (Started s) Queued = ⊥
AreStartsInOrder (Started s) (Started t) = t < s
AreStartsInOrder f g = Unit {0}

-- The first argument, the older copy, if it is present; otherwise the second argument, which may be `None`.
abbrev pub older_head : {X : Type 0} → Option (ℕ × X) → Option (ℕ × X) → Option (ℕ × X)
older_head None b = b
older_head (Some a) b = Some a

-- True if the fate of a copy is that its transmission started.
abbrev pub is_started : Fate → Bool
is_started Never = false
is_started Full = false
is_started Queued = false
is_started (Started s) = true

-- First ns after the start of the copy; 0 if it has not started.
abbrev pub time_after_start : Fate → ℕ
time_after_start Never = 0
time_after_start Full = 0
time_after_start Queued = 0
time_after_start (Started s) = s + 1

-- True if the copy's fate is Queued: it still waits in its queue.
abbrev pub is_queued : Fate → Bool
is_queued Never = false
is_queued Full = false
is_queued Queued = true
is_queued (Started s) = false

-- Copies are listed newest first. A copy's index is the number of older copies.
module _ {X : Type 0} where
  -- Number of copies of class `c` that wait in the queue at time `t`; a copy that starts exactly at `t` still counts.
  abbrev pub count_waiting : ℕ → ℕ → List (Copy X) → ℕ
  count_waiting c t [] = 0
  count_waiting c t (x ∷ xs) = (if nat_eq x.class c && is_waiting t x.fate then 1 else 0) + count_waiting c t xs

  -- True if the link is free at time `u`: no transmission in the list starts before `u` and ends after `u`.
  abbrev pub is_link_free : PortRules X → ℕ → List (Copy X) → Bool
  is_link_free r u [] = true
  is_link_free r u (x ∷ xs) = not (is_on_link u (r.occ x.item) x.fate) && is_link_free r u xs

  -- Oldest copy of class `c` that waits at time `u`, with its index (0 is the list's oldest copy); `None` if no copy
  -- waits.
  abbrev pub queue_head : ℕ → ℕ → List (Copy X) → Option (ℕ × X)
  queue_head c u [] = None
  queue_head c u (x ∷ xs) = older_head (queue_head c u xs) (if nat_eq x.class c && nat_le x.at u && is_waiting u x.fate then Some (length xs, x.item) else None)

  -- Fate of the copy with index `i`, counted from 0 at the oldest copy; `None` if the list has no copy with this index.
  abbrev pub fate_by_index : ℕ → List (Copy X) → Option Fate
  fate_by_index i [] = None
  fate_by_index i (x ∷ xs) = if nat_eq i (length xs) then Some x.fate else fate_by_index i xs

  -- Holds if copy `x` has the fate that the rules allow. This is Never if it can never fit, otherwise Full if at least
  -- `room` copies wait, otherwise Queued or Started.
  --
  -- The list has the copies that were offered before `x`.
  abbrev pub IsAnswer : PortRules X → Copy X → List (Copy X) → Fate → Type 0
  IsAnswer r x xs Never = r.ever x.class (r.occ x.item) ≡ false
  IsAnswer r x xs Full = (r.ever x.class (r.occ x.item) ≡ true) × (r.room x.class ≤ count_waiting x.class x.at xs)
  IsAnswer r x xs Queued = (r.ever x.class (r.occ x.item) ≡ true) × (count_waiting x.class x.at xs < r.room x.class)
  IsAnswer r x xs (Started s) = (r.ever x.class (r.occ x.item) ≡ true) × (count_waiting x.class x.at xs < r.room x.class)

  -- Holds if each copy of the list was dropped or queued by the rule IsAnswer, applied to the copies that were
  -- offered before it.
  abbrev pub AreAnswered : PortRules X → List (Copy X) → Type 0
  AreAnswered r [] = Unit {0}
  AreAnswered r (x ∷ xs) = IsAnswer r x xs x.fate × AreAnswered r xs

  -- Holds if copy `x` didn't start, or started before time `h` and not before its offer. Its class then stays open
  -- for the transmission.
  abbrev pub IsLawfulStart : PortRules X → ℕ → Copy X → Fate → Type 0
  IsLawfulStart r h x Never = Unit {0}
  IsLawfulStart r h x Full = Unit {0}
  IsLawfulStart r h x Queued = Unit {0}
  IsLawfulStart r h x (Started s) = (s < h) × (x.at ≤ s) × Fits (r.opens x.class) (r.occ x.item) s

  -- Holds if each copy that started did so before `h`, at or after the copy's offer, while the class was open for the
  -- whole transmission.
  abbrev pub AreLawfulStarts : PortRules X → ℕ → List (Copy X) → Type 0
  AreLawfulStarts r h [] = Unit {0}
  AreLawfulStarts r h (x ∷ xs) = IsLawfulStart r h x x.fate × AreLawfulStarts r h xs

  -- Holds if the transmission of copy `x` overlaps with no transmission of the copies in the list.
  abbrev pub IsDisjointCopy : PortRules X → Copy X → List (Copy X) → Type 0
  IsDisjointCopy r x [] = Unit {0}
  IsDisjointCopy r x (y ∷ ys) = AreDisjoint (r.occ x.item) x.fate (r.occ y.item) y.fate × IsDisjointCopy r x ys

  -- Holds if all transmissions of copies in the list are apart on the link: no two of them overlap.
  abbrev pub AreAllDisjoint : PortRules X → List (Copy X) → Type 0
  AreAllDisjoint r [] = Unit {0}
  AreAllDisjoint r (x ∷ xs) = IsDisjointCopy r x xs × AreAllDisjoint r xs

  -- Holds if copy `x` hasn't started, or each older copy of its class in the list was dropped or started earlier.
  abbrev pub StartsAfterOlder : Copy X → List (Copy X) → Type 0
  StartsAfterOlder x [] = Unit {0}
  StartsAfterOlder x (y ∷ ys) = (x.class ≡ y.class → AreStartsInOrder x.fate y.fate) × StartsAfterOlder x ys

  -- Holds if in each class, copies start in the order in which they were offered.
  abbrev pub AllStartInOrder : List (Copy X) → Type 0
  AllStartInOrder [] = Unit {0}
  AllStartInOrder (x ∷ xs) = StartsAfterOlder x xs × AllStartInOrder xs

  -- Holds if the list is newest first by the times of the offers, and the newest copy was offered at time `h` or
  -- earlier.
  abbrev pub AreOffersInOrder : ℕ → List (Copy X) → Type 0
  AreOffersInOrder h [] = Unit {0}
  AreOffersInOrder h (x ∷ xs) = (x.at ≤ h) × AreOffersInOrder x.at xs

  -- Holds if at time `u` the oldest waiting copy of some class, `c` or higher, starts, and this class stays open for
  -- its transmission.
  pub record ServesHighest (r : PortRules X) (xs : List (Copy X)) (u c : ℕ) : Type 0 where
    pub class : ℕ
    pub place : ℕ
    pub item : X
    pub is_head : queue_head class u xs ≡ Some (place, item)
    pub starts : fate_by_index place xs ≡ Some (Started u)
    pub fits : Fits (r.opens class) (r.occ item) u
    pub highest : c ≤ class

  -- Holds if whenever the link is free before `h` and a class's oldest waiting copy fits, that copy or one of a
  -- higher class starts.
  abbrev pub MissesNoStart : PortRules X → ℕ → List (Copy X) → Type 0
  MissesNoStart r h xs = (u : ℕ) → u < h → is_link_free r u xs ≡ true → (c : ℕ) (p : ℕ × X) → queue_head c u xs ≡ Some p → Fits (r.opens c) (r.occ p.1) u → ServesHighest r xs u c

  -- Holds if the copies `xs` of a port, newest first, follow all rules of queues and transmission up to time `h`
  -- (IEEE 802.1Q-2018, 8.6.8).
  pub record IsLawful (r : PortRules X) (h : ℕ) (xs : List (Copy X)) : Type 0 where
    pub offers : AreOffersInOrder h xs
    pub answers : AreAnswered r xs
    pub starts : AreLawfulStarts r h xs
    pub apart : AreAllDisjoint r xs
    pub in_turn : AllStartInOrder xs
    pub none_missed : MissesNoStart r h xs

  -- Waiting items of class `c`, the oldest first.
  abbrev pub queued_items : ℕ → List (Copy X) → List X
  queued_items c [] = []
  queued_items c (x ∷ xs) = queued_items c xs ++ (if nat_eq x.class c && is_queued x.fate then x.item ∷ [] else [])

  -- True if a copy of class `c` still waits in its queue.
  abbrev pub has_queued : ℕ → List (Copy X) → Bool
  has_queued c [] = false
  has_queued c (x ∷ xs) = (nat_eq x.class c && is_queued x.fate) || has_queued c xs

-- Sums over copies.
module _ {X : Type 0} where
  -- Number of copies whose transmission started.
  abbrev pub count_started : List (Copy X) → ℕ
  count_started [] = 0
  count_started (x ∷ xs) = (if is_started x.fate then 1 else 0) + count_started xs

  -- Earliest time for the next event: no earlier than any offer, and after each start.
  abbrev pub earliest_offer : List (Copy X) → ℕ
  earliest_offer [] = 0
  earliest_offer (x ∷ xs) = max (max x.at (time_after_start x.fate)) (earliest_offer xs)

-- The oldest waiting copy of class `c` starts at time `s`: its index, its item, the copies before and after this step.
pub data StartsOldest {X : Type 0} (c s : ℕ) : ℕ → X → List (Copy X) → List (Copy X) → Type 0 where
  here : (t : ℕ) (item : X) (xs : List (Copy X)) → has_queued c xs ≡ false → StartsOldest c s (length xs) item (record { at = t; class = c; item = item; fate = Queued } ∷ xs) (record { at = t; class = c; item = item; fate = Started s } ∷ xs)
  there : (x : Copy X) {i : ℕ} {item : X} {xs ys : List (Copy X)} → StartsOldest c s i item xs ys → StartsOldest c s i item (x ∷ xs) (x ∷ ys)
