-- Lookup of the first pair with a number, by a loop over the pairs.
use Rattle.std.proofs.Common.{◌≡◌, ℕ, ◌+◌, ◌<◌, ◌≤◌, Some, None, List, ◌∷◌, nat_eq, length, drop, get_or, ap, sym, ◌∙◌}
use Rattle.std.proofs.lemmas.Bool.{cond-true, cond-false, eq-eqb, ne_eqb}
use Rattle.std.proofs.lemmas.List.{drop_all, drop_more}
use Rattle.std.specs.Map.{lookup}

module _ {V : Type 0} (n : ℕ) (xs all : List (ℕ × V)) (i : ℕ) where
  -- The rest of a list is its first pair and the pairs after it.
  at_place : (x : ℕ × V) → i < length xs → x ≡ get_or xs i x → drop i xs ≡ x ∷ drop (i + 1) xs
  at_place x within is = drop_more xs i x within ∙ ap (λ y. y ∷ drop (i + 1) xs) (sym is)

  pub found : (x : ℕ × V) → xs ≡ all → i < length xs → x ≡ get_or xs i x → x.0 ≡ n → lookup (nat_eq n) (drop i xs) ≡ lookup (nat_eq n) xs → Some x.1 ≡ lookup (nat_eq n) all
  found x same within is key before =
      let here : lookup (nat_eq n) (x ∷ drop (i + 1) xs) ≡ Some x.1 = cond-true _ _ _ (eq-eqb n x.0 (sym key)) in
      sym here ∙ sym (ap (lookup (nat_eq n)) (at_place x within is)) ∙ before ∙ ap (lookup (nat_eq n)) same

  pub passed : (x : ℕ × V) → i < length xs → x ≡ get_or xs i x → (x.0 ≡ n → ⊥) → lookup (nat_eq n) (drop i xs) ≡ lookup (nat_eq n) xs → lookup (nat_eq n) (drop (i + 1) xs) ≡ lookup (nat_eq n) xs
  passed x within is differs before =
      let behind : lookup (nat_eq n) (x ∷ drop (i + 1) xs) ≡ lookup (nat_eq n) (drop (i + 1) xs) = cond-false _ _ _ (ne_eqb n x.0 (λ e. differs (sym e))) in
      sym behind ∙ sym (ap (lookup (nat_eq n)) (at_place x within is)) ∙ before

  pub found_none : xs ≡ all → length xs ≤ i → lookup (nat_eq n) (drop i xs) ≡ lookup (nat_eq n) xs → None ≡ lookup (nat_eq n) all
  found_none same past before = sym (ap (lookup (nat_eq n)) (drop_all i xs past)) ∙ before ∙ ap (lookup (nat_eq n)) same
