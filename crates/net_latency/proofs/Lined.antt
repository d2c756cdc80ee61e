-- One more step of loops that build a list.
use Rattle.std.proofs.Common.{◌≡◌, ℕ, ◌+◌, ◌<◌, ◌≤◌, ◌++◌, ◌∷◌, [], List, length, map, get_or, take, take_all, ap, sym, ◌∙◌}
use Rattle.std.specs.Prelude.{flat_map}
use Rattle.std.proofs.lemmas.List.{flat_map_more, map_more, take_more}

pub piece_more : {X A : Type 0} (f : X → List A) (old : List A) (xs : List X) (i : ℕ) (d : X) (now new : List A) → i < length xs → now ≡ old ++ flat_map f (take i xs) → new ≡ now ++ f (get_or xs i d) → new ≡ old ++ flat_map f (take (i + 1) xs)
piece_more f old xs i d now new there so_far is =
    is ∙ ap (λ l. l ++ f (get_or xs i d)) so_far ∙ flat_map_more f old (take i xs) (get_or xs i d) ∙ ap (λ l. old ++ flat_map f l) (sym (take_more xs i d there))

pub all_pieces : {X A : Type 0} (f : X → List A) (old : List A) (xs : List X) (i : ℕ) (now : List A) → length xs ≤ i → now ≡ old ++ flat_map f (take i xs) → now ≡ old ++ flat_map f xs
all_pieces f old xs i now end so_far = so_far ∙ ap (λ l. old ++ flat_map f l) (take_all i xs end)

-- One more step that appends an item.
pub one_more : {X Y : Type 0} (f : X → Y) (xs : List X) (i : ℕ) (d : X) (now new : List Y) → i < length xs → now ≡ map f (take i xs) → new ≡ now ++ f (get_or xs i d) ∷ [] → new ≡ map f (take (i + 1) xs)
one_more f xs i d now new there so_far is = is ∙ ap (λ l. l ++ f (get_or xs i d) ∷ []) so_far ∙ sym (map_more f xs i d there)

pub all_ones : {X Y : Type 0} (f : X → Y) (xs : List X) (i : ℕ) (now : List Y) → length xs ≤ i → now ≡ map f (take i xs) → now ≡ map f xs
all_ones f xs i now end so_far = so_far ∙ ap (λ l. map f l) (take_all i xs end)
