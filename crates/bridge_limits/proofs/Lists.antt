-- Lists with an added item, lists with an item replaced, and slices that were lent.
use Rattle.std.proofs.Common.{◌≡◌, ◌≢◌, ℕ, zero, suc, ◌+◌, ◌<◌, Bool, true, false, not, List, [], ◌∷◌, ◌++◌, length, take, drop, Some, All, slice_get, slice_set, ◌⊎◌, inl, inr, refl, ap, ◌∙◌, arith, append-nil, drop_of_length-le, take_all}
use Rattle.std.specs.List.{list_any}
use Rattle.std.proofs.lemmas.Bool.{and_parts, or_parts}
use Rattle.std.proofs.lemmas.Grind.{common_steps}
use Rattle.std.proofs.lemmas.List.{length-append}
use Rattle.std.proofs.lemmas.List.Elements.{All-append, All-cons, All-nil}
use Rattle.std.proofs.lemmas.List.Folds.{list_any-append}
use Rattle.std.proofs.lemmas.Option.{same_Some}
use Rattle.bridge_limits.specs.Members.{has_no_duplicate}

pub one_longer : {X : Type 0} (xs : List X) (x : X) → length (xs ++ x ∷ []) ≡ length xs + 1
one_longer xs x = length-append xs (x ∷ [])

pub each_push : {X : Type 0} (P : X → Type 0) (xs : List X) (x : X) → All P xs → P x → All P (xs ++ x ∷ [])
each_push P xs x each one = All-append P xs (x ∷ []) each (All-cons P x [] one (All-nil P))

-- A list without duplicates stays without duplicates if no member equals the added item.
pub are_own-push : {X : Type 0} (same : X → X → Bool) (xs : List X) (y : X) → has_no_duplicate same xs ≡ true → list_any (λ x. same x y) xs ≡ false → has_no_duplicate same (xs ++ y ∷ []) ≡ true
are_own-push same [] y own new = refl
are_own-push same (x ∷ xs) y own new =
    let (here, more) = and_parts (not (list_any (λ z. same x z) xs)) (has_no_duplicate same xs) own in
    let (other, others) = or_parts (same x y) (list_any (λ z. same z y) xs) new in
    let none : list_any (λ z. same x z) xs ≡ false = grind (arith, common_steps) in
    rw (list_any-append (λ z. same x z) xs (y ∷ []), none, other, are_own-push same xs y more others) refl

-- The item at an index of a list with an added item is an earlier item or the added item.
pub pushed : {X : Type 0} (xs : List X) (x y : X) (b : ℕ) → slice_get (xs ++ x ∷ []) b ≡ Some y → (slice_get xs b ≡ Some y) ⊎ ((b ≡ length xs) × (x ≡ y))
pushed [] x y zero e = inr (refl, same_Some x y e)
pushed [] x y (suc b) e = absurd (cc)
pushed (z ∷ xs) x y zero e = inl e
pushed (z ∷ xs) x y (suc b) e = elim (pushed xs x y b e) [ inl there ↦ inl there | inr here ↦ inr (ap suc here.0, here.1) ]

-- A list has an item at each index below its length.
pub there_is : {X : Type 0} (xs : List X) (i : ℕ) → i < length xs → (x : X) × (slice_get xs i ≡ Some x)
there_is [] i l = absurd (omega (arith, l))
there_is (x ∷ xs) zero l = (x, refl)
there_is (x ∷ xs) (suc i) l = there_is xs i (omega (arith, l))

-- The item at a written index is the written value; items at other indices stay.
pub set_here : {X : Type 0} (xs : List X) (i : ℕ) (v : X) → i < length xs → slice_get (slice_set xs i v) i ≡ Some v
set_here [] i v l = absurd (omega arith)
set_here (x ∷ xs) zero v l = refl
set_here (x ∷ xs) (suc i) v l = set_here xs i v (omega arith)

pub set_there : {X : Type 0} (xs : List X) (i j : ℕ) (v : X) → j ≢ i → slice_get (slice_set xs i v) j ≡ slice_get xs j
set_there [] i j v n = refl
set_there (x ∷ xs) zero zero v n = absurd (n refl)
set_there (x ∷ xs) zero (suc j) v n = refl
set_there (x ∷ xs) (suc i) zero v n = refl
set_there (x ∷ xs) (suc i) (suc j) v n = set_there xs i j v (λ e. n (ap suc e))

-- A lent slice that returns with its length replaces all items of the old list.
pub lent : {X : Type 0} (old new : List X) (n : ℕ) → n ≡ length old → length new ≡ length old → take n (new ++ drop (length new) old) ≡ new
lent old new n many same =
    ap (λ l. take n (new ++ l)) (drop_of_length-le old (omega (arith, same))) ∙ ap (take n) (append-nil new) ∙ take_all n new (omega (arith, many, same))

-- A value read at a written index is the written value.
pub set_is : {X : Type 0} (xs : List X) (i : ℕ) (x y : X) → slice_get (slice_set xs i x) i ≡ Some y → x ≡ y
set_is [] i x y h = absurd (cc)
set_is (z ∷ xs) zero x y h = same_Some x y h
set_is (z ∷ xs) (suc i) x y h = set_is xs i x y h

-- Equal lists have equal heads and equal tails.
pub heads : {X : Type 0} (a b : X) (xs ys : List X) → a ∷ xs ≡ b ∷ ys → a ≡ b
heads a b xs ys h = cc

pub tails : {X : Type 0} (a b : X) (xs ys : List X) → a ∷ xs ≡ b ∷ ys → xs ≡ ys
tails a b xs ys h = cc
