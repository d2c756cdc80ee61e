-- Numbers in rising order.
use Rattle.std.proofs.Common.{◌≡◌, ℕ, true, false, not, List, [], ◌∷◌, map, nat_eq, refl, sym, inl, inr}
use Rattle.std.specs.List.{list_any, IsDistinct, AllByRecursion}
use Rattle.std.specs.List.Sorted.{IsPermutation, IsSorted}
use Rattle.std.specs.Map.{lookup}
use Rattle.std.specs.Ordering.{nat_cmp}
use Rattle.std.proofs.lemmas.Bool.{and_parts, or_parts, cases_eq, eq-eqb, ne_eqb, not-true}
use Rattle.std.proofs.lemmas.List.Sorted.{IsNonDecreasingBy-from_sort}
use Rattle.std.proofs.lemmas.Map.Keys.{IsDistinct-IsPermutation, IsStrictlyIncreasing-from_distinct}
use Rattle.bridge_limits.specs.Members.{has_no_duplicate}
use Rattle.bridge_filter.specs.Plans.{are_numbers_distinct, is_listed}
use Rattle.bridge_config.specs.declared.ports.PortPlan.{PortPlan}
use Rattle.bridge_config.specs.Rules.{IsSortedCopy}
use Rattle.bridge_config.proofs.Own.{past_head}

flips : (x y : ℕ) → nat_eq x y ≡ nat_eq y x
flips x y = elim (cases_eq x y) [
  | inl e ↦ rw (eq-eqb x y e, eq-eqb y x (sym e)) refl
  | inr n ↦ rw (ne_eqb x y n, ne_eqb y x (λ e. n (sym e))) refl
]

-- Different numbers are strictly increasing when sorted.
pub in_order : (all ns : List ℕ) → IsDistinct nat_eq all → IsPermutation all ns → IsSorted nat_cmp ns → IsSortedCopy all ns
in_order all ns distinct same sorted = record {
  rises = IsStrictlyIncreasing-from_distinct ns (IsNonDecreasingBy-from_sort (λ n. n) ns sorted) (IsDistinct-IsPermutation nat_eq flips all ns same distinct);
  same = same;
}

none_alike : {A : Type 0} (p : PortPlan A) (ps : List (PortPlan A)) → list_any (λ q. nat_eq p.number q.number) ps ≡ false → AllByRecursion (λ n. nat_eq p.number n ≡ false) (map (λ q. q.number) ps)
none_alike p [] h = tt
none_alike p (q ∷ qs) h = let (here, rest) = or_parts (nat_eq p.number q.number) (list_any (λ q. nat_eq p.number q.number) qs) h in (here, none_alike p qs rest)

-- If no two ports have one number, the list of port numbers has no duplicates.
pub ports_differ : {A : Type 0} (ps : List (PortPlan A)) → has_no_duplicate (λ p q. nat_eq p.number q.number) ps ≡ true → IsDistinct nat_eq (map (λ p. p.number) ps)
unfolding IsDistinct
ports_differ [] h = tt
ports_differ (p ∷ ps) h =
    let (here, rest) = and_parts (not (list_any (λ q. nat_eq p.number q.number) ps)) (has_no_duplicate (λ p q. nat_eq p.number q.number) ps) h in
    (none_alike p ps (not-true (list_any (λ q. nat_eq p.number q.number) ps) here), ports_differ ps rest)

none_there : {X : Type 0} (n : ℕ) (xs : List (ℕ × X)) → is_listed n xs ≡ false → AllByRecursion (λ m. nat_eq n m ≡ false) (map (λ x. x.0) xs)
none_there n [] h = tt
none_there n (x ∷ xs) h = let (here, rest) = past_head (nat_eq n x.0) x.1 (lookup (nat_eq n) xs) h in (here, none_there n xs rest)

-- If the numbers of instances are distinct, their list has no duplicates.
pub numbers_differ : {X : Type 0} (xs : List (ℕ × X)) → are_numbers_distinct xs ≡ true → IsDistinct nat_eq (map (λ x. x.0) xs)
unfolding IsDistinct
numbers_differ [] h = tt
numbers_differ (x ∷ xs) h =
    let (here, rest) = and_parts (not (is_listed x.0 xs)) (are_numbers_distinct xs) h in
    (none_there x.0 xs (not-true (is_listed x.0 xs) here), numbers_differ xs rest)
