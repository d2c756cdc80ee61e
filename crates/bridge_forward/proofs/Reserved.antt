-- Addresses that aren't reserved.
use Rattle.std.proofs.Common.{◌≡◌, ℕ, false, nat_eq, List, [], ◌∷◌, refl}
use Rattle.std.specs.Prelude.{slice_index}
use Rattle.bridge_forward.specs.Forward.{is_reserved}

-- An address whose first octet isn't 01 isn't reserved.
pub is_not_reserved : (da : List ℕ) → nat_eq (slice_index da 0) 1 ≡ false → is_reserved da ≡ false
is_not_reserved [] h = refl
is_not_reserved (d ∷ ds) h = rw h refl
