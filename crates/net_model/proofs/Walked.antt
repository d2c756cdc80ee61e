-- The first result among a list's items, index by index.
use Rattle.std.proofs.Common.{◌≡◌, ◌<◌, ◌≤◌, ◌+◌, ℕ, Bool, true, false, List, Option, Some, None, refl, sym, ap, ◌∙◌, subst, length, get_or, drop}
use Rattle.std.specs.Prelude.{is_some, ◌||◌, slice_get}
use Rattle.std.specs.List.{list_any}
use Rattle.std.proofs.lemmas.List.{drop_all, drop_more}
use Rattle.std.proofs.lemmas.Bool.{or_left}
use Rattle.bridge_check.specs.Faults.{first_option}
use Rattle.net_model.specs.FrameSearch.{find_first}
use Rattle.net_model.specs.Faults.{if_some}

first_some : {Y : Type 0} (a b : Option Y) → is_some a ≡ true → first_option a b ≡ a
first_some None b h = absurd (cc)
first_some (Some y) b h = refl

first_none : {Y : Type 0} (a b : Option Y) → is_some a ≡ false → first_option a b ≡ b
first_none None b h = refl
first_none (Some y) b h = absurd (cc)

module _ {X Y : Type 0} (tell : X → Option Y) (items xs : List X) (i : ℕ) (same : items ≡ xs) where
  front : (d : X) → i < length items → find_first tell (drop i xs) ≡ first_option (tell (get_or items i d)) (find_first tell (drop (i + 1) xs))
  front d inside =
      ap (find_first tell) (drop_more xs i d (subst (λ (l : List X). i < length l) same inside))
      ∙ ap (λ (l : List X). first_option (tell (get_or l i d)) (find_first tell (drop (i + 1) xs))) (sym same)

  -- If no earlier item has a result, the result of the item at index `i` is the first.
  pub told : (d : X) (r : Option Y) → r ≡ tell (get_or items i d) → i < length items → is_some r ≡ true → find_first tell (drop i xs) ≡ find_first tell xs → r ≡ find_first tell xs
  told d r is inside some before =
      is ∙ (sym (first_some (tell (get_or items i d)) (find_first tell (drop (i + 1) xs)) (ap is_some (sym is) ∙ some)) ∙ (sym (front d inside) ∙ before))

  -- If the item at index `i` has no result either, the search continues after it.
  pub passed : (d : X) (r : Option Y) → r ≡ tell (get_or items i d) → i < length items → is_some r ≡ false → find_first tell (drop i xs) ≡ find_first tell xs → find_first tell (drop (i + 1) xs) ≡ find_first tell xs
  passed d r is inside none before = sym (first_none (tell (get_or items i d)) (find_first tell (drop (i + 1) xs)) (ap is_some (sym is) ∙ none)) ∙ (sym (front d inside) ∙ before)

  -- No item has a result.
  pub untold : length items ≤ i → find_first tell (drop i xs) ≡ find_first tell xs → None ≡ find_first tell xs
  untold past before = sym (ap (find_first tell) (drop_all i xs (subst (λ (l : List X). length l ≤ i) same past))) ∙ before

or_false : (a b : Bool) → a ≡ false → (a || b) ≡ b
or_false true b h = absurd (cc)
or_false false b h = refl

module _ {X : Type 0} (test : X → Bool) (items xs : List X) (i : ℕ) (same : items ≡ xs) where
  tested_front : (d : X) → i < length items → list_any test (drop i xs) ≡ (test (get_or items i d) || list_any test (drop (i + 1) xs))
  tested_front d inside =
      ap (list_any test) (drop_more xs i d (subst (λ (l : List X). i < length l) same inside))
      ∙ ap (λ (l : List X). test (get_or l i d) || list_any test (drop (i + 1) xs)) (sym same)

  pub passes : (d : X) (r : Bool) → r ≡ test (get_or items i d) → i < length items → r ≡ true → list_any test (drop i xs) ≡ list_any test xs → true ≡ list_any test xs
  passes d r is inside holds before = sym (or_left (test (get_or items i d)) (list_any test (drop (i + 1) xs)) (sym is ∙ holds)) ∙ (sym (tested_front d inside) ∙ before)

  pub fails : (d : X) (r : Bool) → r ≡ test (get_or items i d) → i < length items → r ≡ false → list_any test (drop i xs) ≡ list_any test xs → list_any test (drop (i + 1) xs) ≡ list_any test xs
  fails d r is inside refuted before = sym (or_false (test (get_or items i d)) (list_any test (drop (i + 1) xs)) (sym is ∙ refuted)) ∙ (sym (tested_front d inside) ∙ before)

  pub all_fail : length items ≤ i → list_any test (drop i xs) ≡ list_any test xs → false ≡ list_any test xs
  all_fail past before = sym (ap (list_any test) (drop_all i xs (subst (λ (l : List X). length l ≤ i) same past))) ∙ before

-- If no earlier item has a result, the first result up to index `i` is the result of this item.
pub or_told : {X Y : Type 0} (before r : Option Y) (tell : X → Option Y) (xs : List X) (i : ℕ) (x : X) → is_some before ≡ false → r ≡ tell x → slice_get xs i ≡ Some x → r ≡ first_option before (if_some tell (slice_get xs i))
or_told None r tell xs i x none is there = is ∙ ap (if_some tell) (sym there)
or_told (Some y) r tell xs i x none is there = absurd (cc)
