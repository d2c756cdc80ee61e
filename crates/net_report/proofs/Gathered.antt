-- A loop that adds values of each item, one item more.
use Rattle.std.proofs.Common.{◌≡◌, ℕ, ◌+◌, ◌<◌, List, [], ◌∷◌, ◌++◌, length, take, get_or, sym, ap, ◌∙◌}
use Rattle.std.specs.Prelude.{flat_map}
use Rattle.std.proofs.lemmas.Grind.{flat_map-append}
use Rattle.std.proofs.lemmas.List.{append-nil, take_more}

pub flat_more : {X Y : Type 0} (f : X → List Y) (xs : List X) (i : ℕ) (d : X) (old : List Y) → old ≡ flat_map f (take i xs) → i < length xs → old ++ f (get_or xs i d) ≡ flat_map f (take (i + 1) xs)
flat_more f xs i d old before within =
    ap (λ l. l ++ f (get_or xs i d)) before
    ∙ sym (ap (flat_map f) (take_more xs i d within) ∙ flat_map-append f (take i xs) (get_or xs i d ∷ []) ∙ ap (λ l. flat_map f (take i xs) ++ l) (append-nil (f (get_or xs i d))))
