-- The rest of a list after the items that a loop has passed.
use Rattle.std.proofs.Common.{◌≡◌, ◌<◌, ◌≤◌, ◌+◌, ℕ, Bool, true, false, List, [], ◌∷◌, length, drop, get_or, nat_eq, Option, Some, None, cond, refl, sym, ap, ◌∙◌, arith}
use Rattle.std.proofs.lemmas.Bool.{eqb-true, false_from_ne_true}
use Rattle.std.proofs.lemmas.List.{at_drop_more, at_drop_all}
use Rattle.std.specs.Map.{lookup}
use Rattle.bridge_limits.proofs.Orders.{same_eq}
use Rattle.bridge_cycle.specs.Cyclic.{interval_sum}
use Rattle.bridge_check.specs.Windows.{is_shared, shared_phase}

-- LOOKUP BY NUMBER

looked_at : {V : Type 0} (n : ℕ) (xs : List (ℕ × V)) (k : ℕ) (x : ℕ × V) → k < length xs → x ≡ get_or xs k x → lookup (nat_eq n) (drop k xs) ≡ cond (nat_eq n x.0) (Some x.1) (lookup (nat_eq n) (drop (k + 1) xs))
looked_at {V} n xs k x inside is = at_drop_more (lookup (nat_eq n)) xs k x inside ∙ ap (λ (y : ℕ × V). lookup (nat_eq n) (y ∷ drop (k + 1) xs)) (sym is)

-- If the item at index `k` has the number, the lookup finds it.
pub looked_up : {V : Type 0} (n : ℕ) (xs : List (ℕ × V)) (k : ℕ) (x : ℕ × V) → k < length xs → x ≡ get_or xs k x → x.0 ≡ n → lookup (nat_eq n) (drop k xs) ≡ lookup (nat_eq n) xs → Some x.1 ≡ lookup (nat_eq n) xs
looked_up {V} n xs k x inside is same kept =
    let own : nat_eq n x.0 ≡ true = rw same (same_eq n) in
    sym (looked_at n xs k x inside is ∙ ap (λ (b : Bool). cond b (Some x.1) (lookup (nat_eq n) (drop (k + 1) xs))) own) ∙ kept

-- If the item at index `k` has another number, the lookup goes on after it.
pub looked_past : {V : Type 0} (n : ℕ) (xs : List (ℕ × V)) (k : ℕ) (x : ℕ × V) → k < length xs → x ≡ get_or xs k x → ¬ (x.0 ≡ n) → lookup (nat_eq n) (drop k xs) ≡ lookup (nat_eq n) xs → lookup (nat_eq n) (drop (k + 1) xs) ≡ lookup (nat_eq n) xs
looked_past {V} n xs k x inside is other kept =
    let not_own : nat_eq n x.0 ≡ false = false_from_ne_true (nat_eq n x.0) (λ e. other (sym (eqb-true n x.0 e))) in
    sym (looked_at n xs k x inside is ∙ ap (λ (b : Bool). cond b (Some x.1) (lookup (nat_eq n) (drop (k + 1) xs))) not_own) ∙ kept

-- If no item has the number, the lookup finds nothing.
pub looked_through : {V : Type 0} (n : ℕ) (xs : List (ℕ × V)) (k : ℕ) → length xs ≤ k → lookup (nat_eq n) (drop k xs) ≡ lookup (nat_eq n) xs → None ≡ lookup (nat_eq n) xs
looked_through n xs k all kept = sym (at_drop_all (lookup (nat_eq n)) xs k all) ∙ kept

-- A WINDOW THAT CLASSES SHARE

abbrev item : List (ℕ × ℕ) → ℕ → ℕ × ℕ
item es k = get_or es k (0, 0)

-- The first shared entry gives the offset at which it begins.
pub shared_here : (es : List (ℕ × ℕ)) (start c k : ℕ) (all : Option ℕ) → k < length es → true ≡ is_shared (item es k).0 c → shared_phase (drop k es) start c ≡ all → Some start ≡ all
shared_here es start c k all inside is kept =
    sym (at_drop_more (λ l. shared_phase l start c) es k (0, 0) inside ∙ ap (λ (b : Bool). cond b (Some start) (shared_phase (drop (k + 1) es) (start + (item es k).1) c)) (sym is)) ∙ kept

-- An entry that isn't shared leaves the result unchanged.
pub shared_later : (es : List (ℕ × ℕ)) (start c k : ℕ) (all : Option ℕ) → k < length es → false ≡ is_shared (item es k).0 c → shared_phase (drop k es) start c ≡ all → shared_phase (drop (k + 1) es) (start + (item es k).1) c ≡ all
shared_later es start c k all inside is kept =
    sym (at_drop_more (λ l. shared_phase l start c) es k (0, 0) inside ∙ ap (λ (b : Bool). cond b (Some start) (shared_phase (drop (k + 1) es) (start + (item es k).1) c)) (sym is)) ∙ kept

-- If no entry is shared, the result is `None`.
pub never_shared : (es : List (ℕ × ℕ)) (start c k : ℕ) (all : Option ℕ) → length es ≤ k → shared_phase (drop k es) start c ≡ all → None ≡ all
never_shared es start c k all through kept = sym (at_drop_all (λ l. shared_phase l start c) es k through) ∙ kept

-- The total duration of the passed entries stays within the limit.
pub total_more : (es : List (ℕ × ℕ)) (start k most : ℕ) → k < length es → start + interval_sum (drop k es) ≤ most → start + (item es k).1 + interval_sum (drop (k + 1) es) ≤ most
total_more es start k most inside fits = omega (arith, at_drop_more interval_sum es k (0, 0) inside, fits)
