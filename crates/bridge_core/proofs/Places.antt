-- Lists by index.
use Rattle.std.proofs.Common.{◌≡◌, ℕ, zero, suc, ◌+◌, ◌<◌, ◌≤◌, List, [], ◌∷◌, slice_get, slice_set, sum_by, arith, subst, Some}
use Rattle.std.proofs.Common.{get_or}
use Rattle.std.proofs.lemmas.Option.{get_or_from_slice_get, slice_get_within, same_Some}
use Rattle.std.proofs.lemmas.List.Sums.{get_or-le-sum_by, sum_by-set}
use Rattle.bridge_limits.specs.Members.{IsOrdered}
use Rattle.bridge_limits.proofs.Members.{after_at}

pub sum_set : {X : Type 0} (f : X → ℕ) (xs : List X) (i : ℕ) (x v : X) → slice_get xs i ≡ Some x → sum_by f (slice_set xs i v) + f x ≡ sum_by f xs + f v
sum_set f xs i x v e =
    let within = slice_get_within xs i x e in
    let here : get_or xs i x ≡ x = get_or_from_slice_get xs i x x e in
    subst (λ y. sum_by f (slice_set xs i v) + f y ≡ sum_by f xs + f v) here (sum_by-set f xs i v x within)

pub sum_at : {X : Type 0} (f : X → ℕ) (xs : List X) (i : ℕ) (x : X) → slice_get xs i ≡ Some x → f x ≤ sum_by f xs
sum_at f xs i x e = subst (λ y. f y ≤ sum_by f xs) (get_or_from_slice_get xs i x x e) (get_or-le-sum_by f xs i x (slice_get_within xs i x e))

-- In an ordered list, items rise with their indices.

pub rising_at : {X : Type 0} (R : X → X → Type 0) (xs : List X) (i j : ℕ) (x y : X) → IsOrdered R xs → slice_get xs i ≡ Some x → slice_get xs j ≡ Some y → i < j → R x y
rising_at R [] i j x y r e f l = absurd (cc)
rising_at R (z ∷ xs) i zero x y r e f l = absurd (omega (arith, l))
rising_at {X} R (z ∷ xs) zero (suc j) x y r e f l = subst (λ (w : X). R w y) (same_Some z x e) (after_at R z xs j y r.0 f)
rising_at R (z ∷ xs) (suc i) (suc j) x y r e f l = rising_at R xs i j x y r.1 e f (omega (arith, l))
