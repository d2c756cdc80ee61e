-- A loop that makes a value of each item, one item more.
use Rattle.std.proofs.Common.{◌≡◌, ℕ, ◌+◌, ◌<◌, List, [], ◌∷◌, ◌++◌, length, map, take, get_or, sym, ap, ◌∙◌}
use Rattle.std.proofs.lemmas.List.{map-append, take_more}

-- The values of the items up to now, and of one more.
pub made_more : {X Y Z : Type 0} (read : Y → Z) (make : X → Z) (xs : List X) (i : ℕ) (d : X) (ys : List Y) (y : Y)
    → map read ys ≡ map make (take i xs) → i < length xs → read y ≡ make (get_or xs i d) → map read (ys ++ y ∷ []) ≡ map make (take (i + 1) xs)
made_more read make xs i d ys y before within own =
    map-append read ys (y ∷ [])
    ∙ (ap (λ l. l ++ read y ∷ []) before ∙ ap (λ z. map make (take i xs) ++ z ∷ []) own)
    ∙ sym (ap (map make) (take_more xs i d within) ∙ map-append make (take i xs) (get_or xs i d ∷ []))
