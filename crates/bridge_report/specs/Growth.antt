-- How a report sink changes when text is appended.
use Rattle.std.specs.Prelude.{ℕ, List, Option, Some, None, ⊤}
use Rattle.std.specs.Io.KnownBytes.{Appends}

-- Holds if the sink has failed now (`None`), or if it hadn't failed before and `octets` were appended. A sink that has failed stays failed.
abbrev pub Grows : Option (Option (List ℕ)) → List ℕ → Option (Option (List ℕ)) → Type 0
Grows old octets None = ⊤
Grows None octets (Some new) = ⊥
Grows (Some old) octets (Some new) = Appends old new octets

-- Holds if sink `new` is sink `old` with `octets` appended, or has failed.
pub record HasGrown {T : Type 0} (contents : T → Option (Option (List ℕ))) (old : T) (octets : List ℕ) (new : T) : Type 0 where
  pub grows : Grows (contents old) octets (contents new)

-- Contents of a report writer: `None` after a fault; otherwise `Some` of its octets, whose inner `None` means that they are unknown.
abbrev pub unless_failed : {F : Type 0} → Option F → Option (List ℕ) → Option (Option (List ℕ))
unless_failed None known = Some known
unless_failed (Some fault) known = None
