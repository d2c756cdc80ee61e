-- Filters by rising number.
use Rattle.std.proofs.Common.{◌≡◌, ◌∙◌, sym, ℕ, ◌<◌, true, List, [], ◌∷◌, map, nat_eq, arith, refl, Option, Some, None, AllPairs}
use Rattle.std.specs.List.{IsDistinct}
use Rattle.std.specs.List.Sorted.{IsPermutation, IsStrictlyIncreasing, IsNonDecreasingBy}
use Rattle.std.specs.Map.{lookup}
use Rattle.std.proofs.lemmas.List.Kept.{AllPairs-from_increasing}
use Rattle.std.proofs.lemmas.List.Sorted.{Contains-permutation, IsPermutation-map, IsPermutation-sym}
use Rattle.std.proofs.lemmas.Map.Keys.{IsDistinct-IsPermutation, IsStrictlyIncreasing-from_distinct}
use Rattle.std.proofs.lemmas.Map.Views.{Contains-from_lookup, lookup-from_Contains}
use Rattle.bridge_limits.specs.Members.{RelatesToEach, IsOrdered}
use Rattle.bridge_config.proofs.InOrder.{numbers_differ}
use Rattle.bridge_filter.specs.Plans.{are_numbers_distinct}
use Rattle.std.proofs.Common.{suc, length, slice_index_or}
use Rattle.std.proofs.lemmas.Cmp.{nat_eq_equiv}
use Rattle.std.proofs.lemmas.List.{get_or-map, length-map}
use Rattle.std.proofs.lemmas.Bool.{eqb-true}
use Rattle.std.proofs.lemmas.Option.{none-some}

after_from : (x : ℕ) (xs : List ℕ) → ((j d : ℕ) → j < length xs → x < slice_index_or xs j d) → RelatesToEach (λ a b. a < b) x xs
after_from x [] h = tt
after_from x (y ∷ xs) h = (h 0 x (omega arith), after_from x xs (λ j d l. h (suc j) d (omega arith)))

rising_from : (xs : List ℕ) → AllPairs (λ a b. a < b) xs → IsOrdered (λ a b. a < b) xs
rising_from [] h = tt
rising_from (x ∷ xs) h = (after_from x xs (λ j d l. h 0 (suc j) d (omega arith) (omega arith)), rising_from xs (λ i j d l m. h (suc i) (suc j) d (omega arith) (omega arith)))

pub rising_numbers : (ns : List ℕ) → IsStrictlyIncreasing ns → IsOrdered (λ a b. a < b) ns
rising_numbers ns h = rising_from ns (AllPairs-from_increasing ns h)

after_keys : {X : Type 0} (x : ℕ × X) (xs : List (ℕ × X)) → RelatesToEach (λ a b. a < b) x.0 (map (λ y. y.0) xs) → RelatesToEach (λ a b. a.0 < b.0) x xs
after_keys x [] h = tt
after_keys x (y ∷ xs) h = (h.0, after_keys x xs h.1)

rising_keys : {X : Type 0} (xs : List (ℕ × X)) → IsOrdered (λ a b. a < b) (map (λ y. y.0) xs) → IsOrdered (λ a b. a.0 < b.0) xs
rising_keys [] h = tt
rising_keys (x ∷ xs) h = (after_keys x xs h.0, rising_keys xs h.1)

pub keys_differ : {X : Type 0} (xs ys : List (ℕ × X)) → are_numbers_distinct xs ≡ true → IsPermutation xs ys → IsDistinct nat_eq (map (λ y. y.0) ys)
keys_differ {X} xs ys d p = IsDistinct-IsPermutation nat_eq nat_eq_equiv.symm (map (λ (y : ℕ × X). y.0) xs) (map (λ (y : ℕ × X). y.0) ys) (IsPermutation-map (λ (y : ℕ × X). y.0) xs ys p) (numbers_differ xs d)

keys_sorted : {X : Type 0} (ys : List (ℕ × X)) → IsNonDecreasingBy (λ y. y.0) ys → IsNonDecreasingBy (λ n. n) (map (λ y. y.0) ys)
keys_sorted {X} [] h i j d l m = absurd (omega (arith, m))
keys_sorted {X} (y ∷ ys) h i j d l m =
    let key : (ℕ × X) → ℕ = λ z. z.0 in
    let long = length-map (y ∷ ys) key in
    let below : j < length (y ∷ ys) = omega (arith, m, long) in
    let a = get_or-map key (y ∷ ys) i y d (omega (arith, below, l)) in
    let b = get_or-map key (y ∷ ys) j y d below in
    let c = h i j y l below in
    omega (arith, a, b, c)

-- Filters with distinct numbers are strictly increasing when sorted.
pub rising_sorted : {X : Type 0} (xs ys : List (ℕ × X)) → are_numbers_distinct xs ≡ true → IsPermutation xs ys → IsNonDecreasingBy (λ y. y.0) ys → IsOrdered (λ a b. a.0 < b.0) ys
rising_sorted {X} xs ys d p s = rising_keys ys (rising_numbers (map (λ (y : ℕ × X). y.0) ys) (IsStrictlyIncreasing-from_distinct (map (λ (y : ℕ × X). y.0) ys) (keys_sorted ys s) (keys_differ xs ys d p)))

kept : {X : Type 0} (n : ℕ) (v : X) (xs ys : List (ℕ × X)) → IsPermutation xs ys → IsDistinct nat_eq (map (λ y. y.0) ys) → lookup (nat_eq n) xs ≡ Some v → lookup (nat_eq n) ys ≡ Some v
kept {X} n v xs ys p d e = lookup-from_Contains nat_eq_equiv n v ys d (Contains-permutation xs ys (n, v) p (Contains-from_lookup (λ x y h. eqb-true x y h) n v xs e))

no_other : {X : Type 0} (n : ℕ) (xs ys : List (ℕ × X)) (o : Option X) → IsPermutation xs ys → IsDistinct nat_eq (map (λ y. y.0) xs) → lookup (nat_eq n) xs ≡ None → lookup (nat_eq n) ys ≡ o → o ≡ None
no_other n xs ys None p d e f = refl
no_other n xs ys (Some v) p d e f = absurd (none-some v (sym e ∙ kept n v ys xs (IsPermutation-sym xs ys p) d f))

same_by : {X : Type 0} (n : ℕ) (xs ys : List (ℕ × X)) (o : Option X) → are_numbers_distinct xs ≡ true → IsPermutation xs ys → lookup (nat_eq n) xs ≡ o → lookup (nat_eq n) ys ≡ o
same_by n xs ys None d p e = no_other n xs ys (lookup (nat_eq n) ys) p (numbers_differ xs d) e refl
same_by n xs ys (Some v) d p e = kept n v xs ys p (keys_differ xs ys d p) e

-- Sorting changes no look-up.
pub same_lookup : {X : Type 0} (n : ℕ) (xs ys : List (ℕ × X)) → are_numbers_distinct xs ≡ true → IsPermutation xs ys → lookup (nat_eq n) ys ≡ lookup (nat_eq n) xs
same_lookup n xs ys d p = same_by n xs ys (lookup (nat_eq n) xs) d p refl
