-- Members of joined lists, and ordered lists to which an item is added.
use Rattle.std.proofs.Common.{◌≡◌, ℕ, zero, suc, Bool, true, List, [], ◌∷◌, ◌++◌, All, map, Some, slice_get, ◌⊎◌, inl, inr, refl, sym, ap, ◌∙◌, subst, arith}
use Rattle.std.specs.List.{list_all, list_any}
use Rattle.std.proofs.Math.Bool.{or-true}
use Rattle.std.proofs.lemmas.Bool.{and_parts}
use Rattle.std.proofs.lemmas.Option.{same_Some}
use Rattle.bridge_limits.specs.Members.{IsMember, RelatesToEach, IsOrdered}

pub in_left : {X : Type 0} (x : X) (xs ys : List X) → IsMember x xs → IsMember x (xs ++ ys)
in_left x [] ys i = absurd i
in_left x (z ∷ xs) ys (inl e) = inl e
in_left x (z ∷ xs) ys (inr i) = inr (in_left x xs ys i)

pub in_right : {X : Type 0} (x : X) (xs ys : List X) → IsMember x ys → IsMember x (xs ++ ys)
in_right x [] ys i = i
in_right x (z ∷ xs) ys i = inr (in_right x xs ys i)

pub in_either : {X : Type 0} (x : X) (xs ys : List X) → IsMember x (xs ++ ys) → IsMember x xs ⊎ IsMember x ys
in_either x [] ys i = inr i
in_either x (z ∷ xs) ys (inl e) = inl (inl e)
in_either x (z ∷ xs) ys (inr i) = elim (in_either x xs ys i) [ inl a ↦ inl (inr a) | inr b ↦ inr b ]

pub in_end : {X : Type 0} (x : X) (xs : List X) → IsMember x (xs ++ x ∷ [])
in_end x [] = inl refl
in_end x (z ∷ xs) = inr (in_end x xs)

-- Each member of a list with an added item is a member of the list or equals the item.
pub in_push : {X : Type 0} (x y : X) (xs : List X) → IsMember x (xs ++ y ∷ []) → IsMember x xs ⊎ (x ≡ y)
in_push x y [] i = elim i [ inl e ↦ inr e | inr l ↦ absurd l ]
in_push x y (z ∷ xs) i = elim i [ inl e ↦ inl (inl e) | inr l ↦ elim (in_push x y xs l) [ inl k ↦ inl (inr k) | inr k ↦ inr k ] ]

after_push : {X : Type 0} (R : X → X → Type 0) (x y : X) (xs : List X) → RelatesToEach R x xs → R x y → RelatesToEach R x (xs ++ y ∷ [])
after_push R x y [] a r = (r, tt)
after_push R x y (z ∷ xs) a r = (a.0, after_push R x y xs a.1 r)

pub rising_push : {X : Type 0} (R : X → X → Type 0) (xs : List X) (y : X) → IsOrdered R xs → ((x : X) → IsMember x xs → R x y) → IsOrdered R (xs ++ y ∷ [])
rising_push R [] y a r = (tt, tt)
rising_push R (x ∷ xs) y a r = (after_push R x y xs a.0 (r x (inl refl)), rising_push R xs y a.1 (λ z i. r z (inr i)))

-- If `x` is related to each member, `x` is related to the member at index `i`.
pub after_at : {X : Type 0} (R : X → X → Type 0) (x : X) (xs : List X) (i : ℕ) (y : X) → RelatesToEach R x xs → slice_get xs i ≡ Some y → R x y
after_at R x [] i y h e = absurd (cc)
after_at R x (z ∷ xs) zero y h e = subst (R x) (same_Some z y e) h.0
after_at R x (z ∷ xs) (suc i) y h e = after_at R x xs i y h.1 e

-- The item at index `i` is a member.
pub in_at : {X : Type 0} (xs : List X) (i : ℕ) (x : X) → slice_get xs i ≡ Some x → IsMember x xs
in_at [] i x e = absurd (cc)
in_at (y ∷ ys) zero x e = inl (sym (same_Some _ _ e))
in_at (y ∷ ys) (suc i) x e = inr (in_at ys i x e)

-- `f x` is a member of the mapped list if `x` is a member.
pub in_map : {X Y : Type 0} (f : X → Y) (xs : List X) (x : X) → IsMember x xs → IsMember (f x) (map f xs)
in_map f [] x i = absurd i
in_map f (z ∷ zs) x (inl e) = inl (ap f e)
in_map f (z ∷ zs) x (inr i) = inr (in_map f zs x i)

-- A property of each item holds for a member.
pub each_in : {X : Type 0} (P : X → Type 0) (xs : List X) (x : X) → All P xs → IsMember x xs → P x
each_in P [] x all i = absurd i
each_in P (y ∷ ys) x all (inl e) = subst P (sym e) (all 0 y (omega arith))
each_in P (y ∷ ys) x all (inr i) = each_in P ys x (λ k d lt. all (suc k) d (omega (arith, lt))) i

-- A member passes a test that all items pass.
pub each_passes : {X : Type 0} (t : X → Bool) (xs : List X) (x : X) → list_all t xs ≡ true → IsMember x xs → t x ≡ true
each_passes t [] x h i = absurd i
each_passes t (y ∷ ys) x h (inl e) = let (here, rest) = and_parts (t y) (list_all t ys) h in ap t e ∙ here
each_passes t (y ∷ ys) x h (inr i) = let (here, rest) = and_parts (t y) (list_all t ys) h in each_passes t ys x rest i

-- A list has an item that passes a test if a member passes the test.
pub passes_any : {X : Type 0} (t : X → Bool) (xs : List X) (x : X) → IsMember x xs → t x ≡ true → list_any t xs ≡ true
passes_any t [] x i h = absurd i
passes_any t (y ∷ ys) x (inl e) h = rw (sym (ap t e) ∙ h) refl
passes_any t (y ∷ ys) x (inr i) h = rw (passes_any t ys x i h) (or-true (t y))
