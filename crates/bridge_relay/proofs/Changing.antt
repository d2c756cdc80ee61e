-- The recorder of one number changes.
use Rattle.std.proofs.Common.{◌≡◌, ℕ, true, false, zero, suc, List, [], ◌∷◌, arith, refl, ap, ◌∙◌, sym, subst, Some}
use Rattle.std.specs.Prelude.{OnOk, OnErr, Option, Result, Ok, Err, nat_eq, slice_get, length, is_some, IsSome, ◌<◌}
use Rattle.std.specs.Cmp.{nat_eq_equiv}
use Rattle.std.specs.List.{AllByRecursion, IsDistinct}
use Rattle.std.specs.Map.{keys_of, lookup, set_value}
use Rattle.std.proofs.lemmas.Map.Keys.{IsDistinct-head, IsDistinct-tail}
use Rattle.std.proofs.lemmas.Option.{same_Some}
use Rattle.bridge_limits.proofs.Cases.{by_bool}
use Rattle.bridge_limits.proofs.Orders.{same_eq}
use Rattle.indexmap.specs.IndexMap.{IndexMap, IsUnique}
use Rattle.indexmap.specs.Layout.{set_value_at}
use Rattle.bridge_filter.proofs.Numbered.{found_at, number_is}
use Rattle.bridge_relay.specs.Recorders.{update_number}

pub change_is : {X : Type 0} (n : ℕ) (f : X → X) (xs : List (ℕ × X)) (x y : X) → lookup (nat_eq n) xs ≡ Some x → y ≡ f x → set_value (nat_eq n) xs y ≡ update_number n f xs
change_is n f [] x y h k = refl
change_is {X} n f (e ∷ xs) x y h k = by_bool (nat_eq n e.0)
    (λ t.
    let it : e.1 ≡ x = same_Some e.1 x (rw t at h) in
    let is : y ≡ f e.1 = k ∙ ap f (sym it) in
    rw t (ap (λ (z : X). (e.0, z) ∷ xs) is))
    (λ t. let there : lookup (nat_eq n) xs ≡ Some x = rw t at h in rw t (ap (λ (z : List (ℕ × X)). e ∷ z) (change_is n f xs x y there k)))

pub change_same : {X : Type 0} (n : ℕ) (xs : List (ℕ × X)) (x y : X) → lookup (nat_eq n) xs ≡ Some x → y ≡ x → set_value (nat_eq n) xs y ≡ xs
change_same n [] x y h k = refl
change_same {X} n (e ∷ xs) x y h k = by_bool (nat_eq n e.0)
    (λ t.
    let it : e.1 ≡ x = same_Some e.1 x (rw t at h) in
    rw t (ap (λ (z : X). (e.0, z) ∷ xs) (k ∙ sym it)))
    (λ t. let there : lookup (nat_eq n) xs ≡ Some x = rw t at h in rw t (ap (λ (z : List (ℕ × X)). e ∷ z) (change_same n xs x y there k)))

pub on_ok : {V E P Q : Type 0} (r : Result V E) → (P → Q) → OnOk r P → OnOk r Q
on_ok (Ok v) f h = f h
on_ok (Err e) f h = h

pub on_err : {V E P Q : Type 0} (r : Result V E) → (P → Q) → OnErr r P → OnErr r Q
on_err (Ok v) f h = h
on_err (Err e) f h = f h

apart_at : {X : Type 0} (xs : List (ℕ × X)) (i n k : ℕ) (x : X) → AllByRecursion (λ y. nat_eq k y ≡ false) (keys_of xs) → slice_get xs i ≡ Some (n, x) → nat_eq k n ≡ false
apart_at [] i n k x apart at = absurd (cc)
apart_at {X} (e ∷ es) zero n k x apart at = subst (λ (p : ℕ × X). nat_eq k p.0 ≡ false) (same_Some e (n, x) at) apart.0
apart_at (e ∷ es) (suc i) n k x apart at = apart_at es i n k x apart.1 at

set_first : {X : Type 0} (xs : List (ℕ × X)) (i n : ℕ) (x y : X) → IsDistinct nat_eq (keys_of xs) → slice_get xs i ≡ Some (n, x) → set_value_at xs i y ≡ set_value (nat_eq n) xs y
set_first [] i n x y distinct at = refl
set_first {X} (e ∷ es) zero n x y distinct at =
    let own : nat_eq n e.0 ≡ true = ap (λ (p : ℕ × X). nat_eq n p.0) (same_Some e (n, x) at) ∙ same_eq n in
    rw own refl
set_first {X} (e ∷ es) (suc i) n x y distinct at =
    let other : nat_eq n e.0 ≡ false = nat_eq_equiv.symm n e.0 ∙ apart_at es i n e.0 x (IsDistinct-head nat_eq e.0 (keys_of es) distinct) at in
    rw other (ap (λ (z : List (ℕ × X)). e ∷ z) (set_first es i n x y (IsDistinct-tail nat_eq e.0 (keys_of es) distinct) at))

-- The value of a number at its index.
pub own_at : {X S : Type 0} (m : IndexMap ℕ X S) (i k n : ℕ) (x : X) → IsUnique nat_eq m → slice_get m.entries i ≡ Some (k, x) → slice_get (keys_of m.entries) i ≡ Some n → lookup (nat_eq n) m.entries ≡ Some x
own_at m i k n x unique at is = subst (λ (j : ℕ). lookup (nat_eq j) m.entries ≡ Some x) (number_is m.entries i k n x at is) (found_at m i k x unique at)

set_at : {X S : Type 0} (m : IndexMap ℕ X S) (i k n : ℕ) (x y : X) → IsUnique nat_eq m → slice_get m.entries i ≡ Some (k, x) → slice_get (keys_of m.entries) i ≡ Some n → set_value_at m.entries i y ≡ set_value (nat_eq n) m.entries y
set_at m i k n x y unique at is = subst (λ (j : ℕ). set_value_at m.entries i y ≡ set_value (nat_eq j) m.entries y) (number_is m.entries i k n x at is) (set_first m.entries i k x y unique at)

-- The value of the number changes at its index.
pub change_at : {X S : Type 0} (m : IndexMap ℕ X S) (i k n : ℕ) (f : X → X) (x y : X) → IsUnique nat_eq m → slice_get m.entries i ≡ Some (k, x) → slice_get (keys_of m.entries) i ≡ Some n → y ≡ f x → set_value_at m.entries i y ≡ update_number n f m.entries
change_at m i k n f x y unique at is h = set_at m i k n x y unique at is ∙ change_is n f m.entries x y (own_at m i k n x unique at is) h

-- An unchanged value leaves the map unchanged.
pub same_at : {X S : Type 0} (m : IndexMap ℕ X S) (i k n : ℕ) (x y : X) → IsUnique nat_eq m → slice_get m.entries i ≡ Some (k, x) → slice_get (keys_of m.entries) i ≡ Some n → y ≡ x → set_value_at m.entries i y ≡ m.entries
same_at m i k n x y unique at is h = set_at m i k n x y unique at is ∙ change_same n m.entries x y (own_at m i k n x unique at is) h

pub there_by : {X : Type 0} (o : Option X) (x : X) → o ≡ Some x → IsSome o
there_by o x e = ap is_some e

-- The index of a number is within the list.
pub place_within : {X : Type 0} (xs : List (ℕ × X)) (i n : ℕ) → slice_get (keys_of xs) i ≡ Some n → i < length xs
place_within [] i n e = absurd (cc)
place_within (x ∷ xs) zero n e = omega arith
place_within (x ∷ xs) (suc i) n e = let h : i < length xs = place_within xs i n e in omega arith
