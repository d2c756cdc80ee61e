-- The lowest number in a list, one number more at a time.
use Rattle.std.proofs.Common.{◌≡◌, ℕ, Option, Some, None, refl, ap, arith}
use Rattle.bridge_filter.specs.Routes.{lesser_number}

pub lesser_assoc : (a b c : Option ℕ) → lesser_number (lesser_number a b) c ≡ lesser_number a (lesser_number b c)
lesser_assoc None b c = refl
lesser_assoc (Some m) None c = refl
lesser_assoc (Some m) (Some n) None = refl
lesser_assoc (Some m) (Some n) (Some k) = ap Some (grind (arith))

pub lesser_none : (a : Option ℕ) → lesser_number a None ≡ a
lesser_none None = refl
lesser_none (Some m) = refl
