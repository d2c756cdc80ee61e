-- Searches through ports: the first port with a number, and the list of numbers.
use Rattle.std.proofs.Common.{◌≡◌, ℕ, ◌+◌, ◌<◌, ◌≤◌, ◌++◌, Some, None, List, [], ◌∷◌, length, drop, take, map, get_or, ap, sym, ◌∙◌}
use Rattle.std.proofs.lemmas.Bool.{cond-true, cond-false, eq-eqb, ne_eqb}
use Rattle.std.proofs.lemmas.List.{drop_all, drop_more, map-append, take_more}
use Rattle.bridge_config.specs.declared.ports.PortPlan.{PortPlan}
use Rattle.bridge_config.specs.Rules.{find_port}

module _ {A : Type 0} (n : ℕ) (xs : List (PortPlan A)) (i : ℕ) where
  -- Splits the list at index `i` into this port and the later ports.
  at_place : (x : PortPlan A) → i < length xs → x ≡ get_or xs i x → drop i xs ≡ x ∷ drop (i + 1) xs
  at_place x within is = drop_more xs i x within ∙ ap (λ y. y ∷ drop (i + 1) xs) (sym is)

  pub found : (x : PortPlan A) → i < length xs → x ≡ get_or xs i x → x.number ≡ n → find_port (drop i xs) n ≡ find_port xs n → Some x ≡ find_port xs n
  found x within is key before =
      let here : find_port (x ∷ drop (i + 1) xs) n ≡ Some x = cond-true _ _ _ (eq-eqb x.number n key) in
      sym here ∙ sym (ap (λ ys. find_port ys n) (at_place x within is)) ∙ before

  pub passed : (x : PortPlan A) → i < length xs → x ≡ get_or xs i x → (x.number ≡ n → ⊥) → find_port (drop i xs) n ≡ find_port xs n → find_port (drop (i + 1) xs) n ≡ find_port xs n
  passed x within is differs before =
      let behind : find_port (x ∷ drop (i + 1) xs) n ≡ find_port (drop (i + 1) xs) n = cond-false _ _ _ (ne_eqb x.number n differs) in
      sym behind ∙ sym (ap (λ ys. find_port ys n) (at_place x within is)) ∙ before

  pub found_none : length xs ≤ i → find_port (drop i xs) n ≡ find_port xs n → None ≡ find_port xs n
  found_none past before = sym (ap (λ ys. find_port ys n) (drop_all i xs past)) ∙ before

-- Appends the number of the port at index `i` to the numbers of the earlier ports.
pub one_more : {A : Type 0} (xs : List (PortPlan A)) (i : ℕ) (x : PortPlan A) (before after : List ℕ) → i < length xs → x ≡ get_or xs i x → before ≡ map (λ p. p.number) (take i xs) → after ≡ before ++ (x.number ∷ []) → after ≡ map (λ p. p.number) (take (i + 1) xs)
one_more {A} xs i x before after within is so put =
    let number : PortPlan A → ℕ = λ p. p.number in
    let more : take (i + 1) xs ≡ take i xs ++ (x ∷ []) = take_more xs i x within ∙ ap (λ y. take i xs ++ (y ∷ [])) (sym is) in
    put ∙ ap (λ ns. ns ++ (x.number ∷ [])) so ∙ sym (map-append number (take i xs) (x ∷ [])) ∙ sym (ap (map number) more)
