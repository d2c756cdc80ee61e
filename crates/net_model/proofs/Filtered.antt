-- Members of lists and of filtered lists.
use Rattle.std.proofs.Common.{◌≡◌, ◌<◌, ◌≤◌, ◌+◌, ◌⊎◌, ℕ, zero, suc, take, get_or, Bool, true, List, [], ◌∷◌, length, map, refl, sym, subst, inl, inr, arith}
use Rattle.std.specs.List.{filter, list_any}
use Rattle.bridge_limits.specs.Members.{IsMember}
use Rattle.bridge_limits.proofs.Cases.{by_bool}

-- A member that passes a test is kept.
pub kept : {X : Type 0} (p : X → Bool) (xs : List X) (x : X) → IsMember x xs → p x ≡ true → IsMember x (filter p xs)
kept p [] x i t = i
kept p (y ∷ ys) x (inl e) t = let py : p y ≡ true = subst (λ z. p z ≡ true) e t in rw py (inl e)
kept p (y ∷ ys) x (inr i) t = by_bool (p y) (λ a. rw a (inr (kept p ys x i t))) (λ a. rw a (kept p ys x i t))

-- A kept item is a member that passes.
pub was : {X : Type 0} (p : X → Bool) (xs : List X) (x : X) → IsMember x (filter p xs) → IsMember x xs × (p x ≡ true)
was p [] x i = absurd i
was p (y ∷ ys) x i = by_bool (p y)
    (λ a. elim (rw a at i) [
      | inl e ↦ (inl e, subst (λ z. p z ≡ true) (sym e) a)
      | inr j ↦ let w = was p ys x j in (inr w.0, w.1)
    ])
    (λ a. let w = was p ys x (rw a at i) in (inr w.0, w.1))

-- The filtered list is no longer than the list.
pub shorter : {X : Type 0} (p : X → Bool) (xs : List X) → length (filter p xs) ≤ length xs
shorter p [] = omega arith
shorter p (y ∷ ys) = let rest = shorter p ys in by_bool (p y) (λ a. rw a (omega (arith, rest))) (λ a. rw a (omega (arith, rest)))

-- If the filtered list is as long as the list, each member passes.
pub whole : {X : Type 0} (p : X → Bool) (xs : List X) (x : X) → length (filter p xs) ≡ length xs → IsMember x xs → p x ≡ true
whole p [] x same i = absurd i
whole p (y ∷ ys) x same i = by_bool (p y)
    (λ a. elim i [
      | inl e ↦ subst (λ z. p z ≡ true) (sym e) a
      | inr j ↦ let less = rw a at same in whole p ys x (omega (arith, less)) j
    ])
    (λ a. let less = rw a at same in let most = shorter p ys in absurd (omega (arith, less, most)))

-- The found item is a member that passes.
pub record IsFound {X : Type 0} (p : X → Bool) (xs : List X) : Type 0 where
  pub item : X
  pub listed : IsMember item xs
  pub passes : p item ≡ true

pub found : {X : Type 0} (p : X → Bool) (xs : List X) → list_any p xs ≡ true → IsFound p xs
found p [] t = absurd (cc)
found p (y ∷ ys) t = by_bool (p y)
    (λ a. record { item = y; listed = inl refl; passes = a })
    (λ a. let f = found p ys (rw a at t) in record { item = f.item; listed = inr f.listed; passes = f.passes })

pub record IsImage {X Y : Type 0} (f : X → Y) (xs : List X) (y : Y) : Type 0 where
  pub item : X
  pub listed : IsMember item xs
  pub is : y ≡ f item

pub of_map : {X Y : Type 0} (f : X → Y) (xs : List X) (y : Y) → IsMember y (map f xs) → IsImage f xs y
of_map f [] y i = absurd i
of_map f (z ∷ zs) y (inl e) = record { item = z; listed = inl refl; is = e }
of_map f (z ∷ zs) y (inr i) = let w = of_map f zs y i in record { item = w.item; listed = inr w.listed; is = w.is }

-- A member of the first `i + 1` items is one of the first `i`, or the item at index `i`.
pub in_take : {X : Type 0} (xs : List X) (i : ℕ) (d x : X) → i < length xs → IsMember x (take (i + 1) xs) → IsMember x (take i xs) ⊎ (x ≡ get_or xs i d)
in_take [] i d x less j = absurd (omega (arith, less))
in_take (y ∷ ys) zero d x less (inl e) = inr e
in_take (y ∷ ys) zero d x less (inr j) = absurd j
in_take (y ∷ ys) (suc i) d x less j =
    let e : suc i + 1 ≡ suc (i + 1) = omega arith in
    elim (rw e at j) [
      | inl here ↦ inl (inl here)
      | inr there ↦ elim (in_take ys i d x (omega (arith, less)) there) [
        | inl a ↦ inl (inr a)
        | inr b ↦ inr b
      ]
    ]

-- If the list has at most `i` items, all are among the first `i`.
pub in_all : {X : Type 0} (xs : List X) (i : ℕ) (x : X) → length xs ≤ i → IsMember x xs → IsMember x (take i xs)
in_all [] i x most j = absurd j
in_all (y ∷ ys) zero x most j = absurd (omega (arith, most))
in_all (y ∷ ys) (suc i) x most (inl e) = inl e
in_all (y ∷ ys) (suc i) x most (inr j) = inr (in_all ys i x (omega (arith, most)) j)
