-- Schedules of mapped items: a map turns the relay's items into the contents of frames.
use Rattle.std.specs.Prelude.{◌≡◌, ℕ, List, [], ◌∷◌}
use Rattle.bridge_port.specs.Schedule.{Copy, PortRules}

-- Copy with its item replaced by the result of `g`; times, class and fate stay.
abbrev pub map_copy : {X Y : Type 0} → (X → Y) → Copy X → Copy Y
map_copy g x = record { at = x.at; class = x.class; item = g x.item; fate = x.fate }

-- Copies with each item replaced by the result of `g`; times, classes and fates stay.
abbrev pub map_copies : {X Y : Type 0} → (X → Y) → List (Copy X) → List (Copy Y)
map_copies g [] = []
map_copies g (x ∷ xs) = map_copy g x ∷ map_copies g xs

-- Rules for mapped items, with the given transmission times and queue capacities.
abbrev pub map_rules : {X Y : Type 0} → PortRules X → (Y → ℕ) → (ℕ → ℕ) → PortRules Y
map_rules r occ room = record { opens = r.opens; ever = r.ever; room = room; occ = occ }

-- Holds if for the class of each copy, the queue capacities by `room` and by `other` are equal.
abbrev pub SameRooms : {X : Type 0} → (ℕ → ℕ) → (ℕ → ℕ) → List (Copy X) → Type 0
SameRooms room other [] = Unit {0}
SameRooms room other (x ∷ xs) = (room x.class ≡ other x.class) × SameRooms room other xs
