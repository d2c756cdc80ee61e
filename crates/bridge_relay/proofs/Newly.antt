-- One more item.
use Rattle.std.proofs.Common.{◌≡◌, ℕ, ◌+◌, ◌++◌, ◌∷◌, [], ◌∙◌, List, length, ap}
use Rattle.std.proofs.lemmas.List.{length_push}

pub one_longer : {X : Type 0} (xs ys : List X) (x : X) (n : ℕ) → length xs ≡ n → ys ≡ xs ++ x ∷ [] → length ys ≡ n + 1
one_longer xs ys x n at is = ap length is ∙ (length_push xs x ∙ ap (λ (k : ℕ). k + 1) at)
