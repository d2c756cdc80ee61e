-- Members of a list, and lists whose items rise.
use Rattle.std.specs.Prelude.{◌≡◌, Bool, true, not, ◌&&◌, List, [], ◌∷◌, ◌⊎◌}
use Rattle.std.specs.List.{list_any}

-- Holds if the value `x` equals at least one member of the list; false for the empty list.
abbrev pub IsMember : {X : Type 0} → X → List X → Type 0
IsMember x [] = ⊥
IsMember x (y ∷ ys) = (x ≡ y) ⊎ IsMember x ys

-- Holds if the value `x` has the relation `R` to every member of the list; true for the empty list.
abbrev pub RelatesToEach : {X : Type 0} → (X → X → Type 0) → X → List X → Type 0
RelatesToEach R x [] = Unit {0}
RelatesToEach R x (y ∷ ys) = R x y × RelatesToEach R x ys

-- Holds if each member of the list has the relation `R` to every later member; with ≤ as `R`, the list never falls.
abbrev pub IsOrdered : {X : Type 0} → (X → X → Type 0) → List X → Type 0
IsOrdered R [] = Unit {0}
IsOrdered R (x ∷ xs) = RelatesToEach R x xs × IsOrdered R xs

-- True if the list has no two equal members; the test `same` compares each member with every later member.
abbrev pub has_no_duplicate : {X : Type 0} → (X → X → Bool) → List X → Bool
has_no_duplicate same [] = true
has_no_duplicate same (x ∷ xs) = not (list_any (λ y. same x y) xs) && has_no_duplicate same xs
