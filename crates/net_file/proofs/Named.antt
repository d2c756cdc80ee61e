-- The search for the first item with a name.
use Rattle.std.proofs.Common.{◌≡◌, ℕ, suc, ◌+◌, ◌<◌, ◌≤◌, Bool, true, false, ◌||◌, cond, List, ◌∷◌, Some, None, length, drop, get_or, ap, sym, subst, ◌∙◌, add-one}
use Rattle.std.specs.List.{list_any}
use Rattle.std.specs.Str.{bytes_eq}
use Rattle.std.proofs.lemmas.List.{at_drop_more, at_drop_all}
use Rattle.net_file.specs.Model.{Bridge}
use Rattle.net_file.specs.Names.{bridge_index_from_start}

-- The item at index `i` passes the test.
pub any_here : {X : Type 0} (f : X → Bool) (xs : List X) (i : ℕ) (x : X) → i < length xs → x ≡ get_or xs i x → true ≡ f x → list_any f (drop i xs) ≡ true
any_here f xs i x there is holds = at_drop_more (list_any f) xs i x there ∙ ap (λ t. t || list_any f (drop (i + 1) xs)) (ap f (sym is) ∙ sym holds)

-- The item at index `i` fails the test.
pub any_later : {X : Type 0} (f : X → Bool) (xs : List X) (i : ℕ) (x : X) → i < length xs → x ≡ get_or xs i x → false ≡ f x → list_any f (drop (i + 1) xs) ≡ list_any f (drop i xs)
any_later f xs i x there is fails = sym (at_drop_more (list_any f) xs i x there ∙ ap (λ t. t || list_any f (drop (i + 1) xs)) (ap f (sym is) ∙ sym fails))

-- No item is left to test.
pub any_none : {X : Type 0} (f : X → Bool) (xs : List X) (i : ℕ) → length xs ≤ i → list_any f (drop i xs) ≡ false
any_none f xs i all = at_drop_all (list_any f) xs i all

pub place_here : (bridges : List Bridge) (i : ℕ) (b : Bridge) (name : List ℕ) → i < length bridges → b ≡ get_or bridges i b → true ≡ bytes_eq b.name name → bridge_index_from_start i (drop i bridges) name ≡ Some i
place_here bridges i b name there is holds =
    at_drop_more (λ l. bridge_index_from_start i l name) bridges i b there
    ∙ ap (λ t. cond t (Some i) (bridge_index_from_start (suc i) (drop (i + 1) bridges) name)) (ap (λ (x : Bridge). bytes_eq x.name name) (sym is) ∙ sym holds)

pub place_later : (bridges : List Bridge) (i : ℕ) (b : Bridge) (name : List ℕ) → i < length bridges → b ≡ get_or bridges i b → false ≡ bytes_eq b.name name → bridge_index_from_start (i + 1) (drop (i + 1) bridges) name ≡ bridge_index_from_start i (drop i bridges) name
place_later bridges i b name there is fails =
    let one : bridge_index_from_start i (get_or bridges i b ∷ drop (i + 1) bridges) name ≡ bridge_index_from_start (suc i) (drop (i + 1) bridges) name = ap (λ t. cond t (Some i) (bridge_index_from_start (suc i) (drop (i + 1) bridges) name)) (ap (λ (x : Bridge). bytes_eq x.name name) (sym is) ∙ sym fails) in
    subst (λ k. bridge_index_from_start k (drop (i + 1) bridges) name ≡ bridge_index_from_start i (drop i bridges) name) (sym (add-one i)) (sym (at_drop_more (λ l. bridge_index_from_start i l name) bridges i b there ∙ one))

pub place_none : (bridges : List Bridge) (i : ℕ) (name : List ℕ) → length bridges ≤ i → bridge_index_from_start i (drop i bridges) name ≡ None
place_none bridges i name all = at_drop_all (λ l. bridge_index_from_start i l name) bridges i all
