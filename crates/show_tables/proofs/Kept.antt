-- The copies of one frame in a list sorted by frame number.
use Rattle.std.proofs.Common.{◌≡◌, ◌∙◌, ◌⊎◌, inl, inr, ℕ, suc, ◌+◌, ◌-◌, ◌≤◌, ◌<◌, Bool, true, false, not, ◌&&◌, List, [], ◌∷◌, ◌++◌, length, take, drop, get_or, ap, sym, refl, arith}
use Rattle.std.specs.Prelude.{nat_eq}
use Rattle.std.specs.List.{filter}
use Rattle.std.specs.List.Sorted.{IsPartitionPoint, IsStableByKey, ties}
use Rattle.std.specs.Ordering.{is_lt, nat_cmp}
use Rattle.std.proofs.Math.Dec.{eqb, leb, ltb}
use Rattle.std.proofs.lemmas.Bool.{leb-true, ltb-true, ltb-false, ne_eqb}
use Rattle.std.proofs.lemmas.Bool.Decides.{nat_tests}
use Rattle.std.proofs.lemmas.List.{append-nil, get_or-drop, get_or-take, length-drop, length-take, take-append-drop}
use Rattle.std.proofs.lemmas.List.Elements.{filter-append, filter_agree}

-- Two numbers are equal if neither is less.
tie : (a b : ℕ) → nat_eq b a ≡ not (is_lt (nat_cmp a b)) && not (is_lt (nat_cmp b a))
tie a b = grind (arith, nat_tests)

-- A stable sort by a number keeps the order of items with equal numbers.
pub same_of : {X : Type 0} (key : X → ℕ) (x : X) (xs ys : List X) → IsStableByKey key nat_cmp xs ys → filter (λ d. nat_eq (key d) (key x)) ys ≡ filter (λ d. nat_eq (key d) (key x)) xs
same_of {X} key x xs ys stable =
    let by : X → X → Bool = λ a b. is_lt (nat_cmp (key a) (key b)) in
    let agree : (d : X) → nat_eq (key d) (key x) ≡ ties by x d = λ d. tie (key x) (key d) in
    filter_agree (λ d. nat_eq (key d) (key x)) (ties by x) agree ys ∙ (stable x ∙ sym (filter_agree (λ d. nat_eq (key d) (key x)) (ties by x) agree xs))

module _ {X : Type 0} (p : X → Bool) where
  none_pass : (xs : List X) → ((k : ℕ) (d : X) → k < length xs → p (get_or xs k d) ≡ false) → filter p xs ≡ []
  none_pass [] h = refl
  none_pass (x ∷ xs) h = rw (h 0 x (omega arith)) (none_pass xs (λ k d l. h (suc k) d (omega arith)))

  all_pass : (xs : List X) → ((k : ℕ) (d : X) → k < length xs → p (get_or xs k d) ≡ true) → filter p xs ≡ xs
  all_pass [] h = refl
  all_pass (x ∷ xs) h = rw (h 0 x (omega arith)) (ap (λ l. x ∷ l) (all_pass xs (λ k d l. h (suc k) d (omega arith))))

module _ {X : Type 0} (key : X → ℕ) (n first end : ℕ) (xs : List X) where
  -- Holds if items before index `first` have smaller numbers, and items from it have at least the number.
  abbrev pub IsFirst : Type 0
  IsFirst = IsPartitionPoint (λ y. ltb (key y) n ≡ true) (λ y. ltb (key y) n ≡ false) xs first

  -- Holds if items before index `end` have at most the number, and items from it have greater numbers.
  abbrev pub IsEnd : Type 0
  IsEnd = IsPartitionPoint (λ y. leb (key y) n ≡ true) (λ y. leb (key y) n ≡ false) xs end

  not_leb : (a : ℕ) → leb a n ≡ false → n < a
  not_leb a h = grind (arith, nat_tests)

  pub in_order : X → first ≤ length xs → IsFirst → IsEnd → first ≤ end
  in_order d within begins ends = elim (order_of end first) [
    | inl less ↦ absurd (omega (arith, ltb-true _ _ (begins.0 end d (omega arith) less), not_leb _ (ends.1 end d (omega arith) (omega (arith, less, within)))))
    | inr le ↦ le
  ]
    where
      order_of : (a b : ℕ) → (a < b) ⊎ (b ≤ a)
      order_of a b = grind (arith)

  -- The items between both indices are the items with the number.
  pub run_of : first ≤ end → end ≤ length xs → IsFirst → IsEnd → take (end - first) (drop first xs) ≡ filter (λ d. nat_eq (key d) n) xs
  run_of ordered within begins ends =
      let same : X → Bool = λ d. nat_eq (key d) n in
      let rest = drop first xs in
      let long_before = length-take first xs in
      let long_rest = length-drop first xs in
      let long_mid = length-take (end - first) rest in
      let long_behind = length-drop (end - first) rest in
      let before : filter same (take first xs) ≡ [] = none_pass same (take first xs) (λ k d l.
      ap same (get_or-take first xs k d (omega (arith, long_before, l))) ∙ ne_eqb _ n (λ e. omega (arith, e, ltb-true _ _ (begins.0 k d (omega arith) (omega (arith, long_before, l)))))) in
      let inside : filter same (take (end - first) rest) ≡ take (end - first) rest = all_pass same (take (end - first) rest) (λ k d l.
      ap same (get_or-take (end - first) rest k d (omega (arith, long_mid, l)) ∙ get_or-drop first xs k d)
      ∙ is_n _ (ltb-false _ _ (begins.1 (first + k) d (omega arith) (omega (arith, long_mid, long_rest, l, ordered, within))))
      (leb-true _ _ (ends.0 (first + k) d (omega arith) (omega (arith, long_mid, l, ordered))))) in
      let behind : filter same (drop (end - first) rest) ≡ [] = none_pass same (drop (end - first) rest) (λ k d l.
      ap same (get_or-drop (end - first) rest k d ∙ get_or-drop first xs (end - first + k) d)
      ∙ ne_eqb _ n (λ e. omega (arith, e, not_leb _ (ends.1 (first + (end - first + k)) d (omega (arith, ordered)) (omega (arith, long_behind, long_rest, l, ordered, within)))))) in
      let whole : take first xs ++ (take (end - first) rest ++ drop (end - first) rest) ≡ xs = ap (λ l. take first xs ++ l) (take-append-drop (end - first) rest) ∙ take-append-drop first xs in
      sym (ap (filter same) (sym whole) ∙ (filter-append same (take first xs) (take (end - first) rest ++ drop (end - first) rest)
      ∙ (ap (λ l. l ++ filter same (take (end - first) rest ++ drop (end - first) rest)) before
      ∙ (filter-append same (take (end - first) rest) (drop (end - first) rest)
      ∙ (ap (λ l. l ++ filter same (drop (end - first) rest)) inside
      ∙ (ap (λ l. take (end - first) rest ++ l) behind ∙ append-nil (take (end - first) rest)))))))
    where
      is_n : (a : ℕ) → n ≤ a → a ≤ n → nat_eq a n ≡ true
      is_n a low high = grind (arith, nat_tests)
