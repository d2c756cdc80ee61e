-- How a text changes when pieces are added. `None` is a text that was discarded because memory ran out.
use Rattle.std.specs.Prelude.{◌≡◌, ◌++◌, ℕ, List, Option, Some, None, ⊤}

-- Holds if the new text is the old text followed by `octets`, or if the new text is `None`. An old text `None` allows
-- only `None`.
abbrev pub Grows : Option (List ℕ) → List ℕ → Option (List ℕ) → Type 0
Grows old octets None = ⊤
Grows None octets (Some new) = ⊥
Grows (Some old) octets (Some new) = new ≡ old ++ octets

-- Holds if `Grows` holds. Contracts of `TextBuilder`, and of functions that add pieces to one, state it.
pub record HasGrown (old : Option (List ℕ)) (octets : List ℕ) (new : Option (List ℕ)) : Type 0 where
  pub grows : Grows old octets new

-- Holds if the new text begins with the old text, or is `None`. A `None` stays `None`.
pub record IsLonger (old new : Option (List ℕ)) : Type 0 where
  pub more : (octets : List ℕ) × Grows old octets new
