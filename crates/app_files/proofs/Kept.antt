-- Octets that remain.
use Rattle.std.proofs.Common.{ℕ, List, ◌++◌, Option, Some, None, ap, ◌∙◌}
use Rattle.std.specs.Io.KnownBytes.{Appends, Keeps}

-- Octets appended to known contents that remained.
pub kept_appends : (a b c : Option (List ℕ)) (octets : List ℕ) → Keeps a b → Appends b c octets → Appends a c octets
kept_appends None b c octets p q = tt
kept_appends (Some x) None c octets p q = absurd p
kept_appends (Some x) (Some y) None octets p q = absurd q
kept_appends (Some x) (Some y) (Some z) octets p q = q ∙ ap (λ l. l ++ octets) p
