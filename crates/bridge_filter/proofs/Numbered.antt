use Rattle.std.proofs.Common.{◌≡◌, ℕ, false, List, [], ◌∷◌, ◌<◌, refl, ap, ◌∙◌, sym, subst, Some, length}
use Rattle.std.specs.Prelude.{nat_eq, slice_get}
use Rattle.std.specs.Option.{option_map}
use Rattle.std.specs.List.{list_any}
use Rattle.std.specs.Cmp.{nat_eq_equiv}
use Rattle.std.specs.Map.{lookup, keys_of}
use Rattle.std.proofs.lemmas.Option.{same_Some, slice_get-map, slice_get_within}
use Rattle.std.proofs.lemmas.Map.Entries.{lookup_from_place, length-keys_of}
use Rattle.indexmap.specs.IndexMap.{IndexMap, IsUnique}
use Rattle.indexmap.specs.Layout.{set_value_at}
use Rattle.indexmap.proofs.CallerLemmas.{updates-with_value_at}
use Rattle.bridge_filter.specs.Plans.{KeepsNumbers, is_listed}
use Rattle.std.proofs.lemmas.Bool.{eqb-true, eqb-false}
use Rattle.bridge_limits.proofs.Cases.{by_bool}

apart : (n k : ℕ) → (k ≡ n → ⊥) → nat_eq n k ≡ false
apart n k differ = by_bool (nat_eq n k) (λ e. absurd (differ (sym (eqb-true n k e)))) (λ e. e)

-- Holds if the two lists differ only in the value of number `n`: `x` became `y`.
pub record Changes {X : Type 0} (old new : List (ℕ × X)) (n : ℕ) (x y : X) : Type 0 where
  pub there : lookup (nat_eq n) old ≡ Some x
  pub own : lookup (nat_eq n) new ≡ Some y
  pub others : (k : ℕ) → (k ≡ n → ⊥) → lookup (nat_eq k) new ≡ lookup (nat_eq k) old

-- A property of all values survives the change if the new value has it.
pub each_after : {X : Type 0} (old new : List (ℕ × X)) (n : ℕ) (x y : X) (P Q : ℕ → X → Type 0) → Changes old new n x y → ((k : ℕ) (z : X) → lookup (nat_eq k) old ≡ Some z → P k z) → (P n x → Q n y) → ((k : ℕ) (z : X) → nat_eq n k ≡ false → P k z → Q k z) → (k : ℕ) (z : X) → lookup (nat_eq k) new ≡ Some z → Q k z
each_after {X} old new n x y P Q h each own others k z found = by_bool (nat_eq n k)
    (λ same.
    let at : n ≡ k = eqb-true n k same in
    let it : y ≡ z = same_Some y z (sym h.own ∙ subst (λ (m : ℕ). lookup (nat_eq m) new ≡ Some z) (sym at) found) in
    subst (λ (w : X). Q k w) it (subst (λ (m : ℕ). Q m y) at (own (each n x h.there))))
    (λ differ. others k z differ (each k z (sym (h.others k (λ e. eqb-false n k differ (sym e))) ∙ found)))

-- Values by index.

-- Writing a value at an index changes only the value of the number there.
pub changes_at : {X S : Type 0} (m : IndexMap ℕ X S) (i n : ℕ) (x y : X) → IsUnique nat_eq m → slice_get m.entries i ≡ Some (n, x) → Changes m.entries (set_value_at m.entries i y) n x y
changes_at m i n x y unique at =
    let u = updates-with_value_at m i y nat_eq_equiv unique n x at in
    record {
      there = lookup_from_place nat_eq_equiv m.entries i n x unique at;
      own = u.1;
      others = λ k differ. u.2 k (apart n k differ);
    }

-- Writing a value at the index of number `n` changes only the value of `n`.
pub changes_of : {X S : Type 0} (m : IndexMap ℕ X S) (i k n : ℕ) (x y : X) → k ≡ n → IsUnique nat_eq m → slice_get m.entries i ≡ Some (k, x) → Changes m.entries (set_value_at m.entries i y) n x y
changes_of m i k n x y e unique at = subst (λ (j : ℕ). Changes m.entries (set_value_at m.entries i y) j x y) e (changes_at m i k x y unique at)

pub found_at : {X S : Type 0} (m : IndexMap ℕ X S) (i n : ℕ) (x : X) → IsUnique nat_eq m → slice_get m.entries i ≡ Some (n, x) → lookup (nat_eq n) m.entries ≡ Some x
found_at m i n x unique at = lookup_from_place nat_eq_equiv m.entries i n x unique at

pub number_is : {X : Type 0} (xs : List (ℕ × X)) (i k n : ℕ) (x : X) → slice_get xs i ≡ Some (k, x) → slice_get (keys_of xs) i ≡ Some n → k ≡ n
number_is {X} xs i k n x at h =
    let number : ℕ × X → ℕ = λ e. e.0 in
    same_Some k n (sym (slice_get-map number xs i ∙ ap (option_map number) at) ∙ h)

pub place_within : {X : Type 0} (xs : List (ℕ × X)) (i n : ℕ) → slice_get (keys_of xs) i ≡ Some n → i < length xs
place_within xs i n h = subst (λ (m : ℕ). i < m) (length-keys_of xs) (slice_get_within (keys_of xs) i n h)

some_lookup : {X : Type 0} (n : ℕ) (xs : List (ℕ × X)) → is_listed n xs ≡ list_any (nat_eq n) (keys_of xs)
some_lookup n [] = refl
some_lookup n (x ∷ xs) = by_bool (nat_eq n x.0) (λ e. rw e refl) (λ e. rw e (some_lookup n xs))

-- Two lists with the same numbers.
pub keeps_numbers : {X Y : Type 0} (xs : List (ℕ × X)) (ys : List (ℕ × Y)) → keys_of ys ≡ keys_of xs → KeepsNumbers xs ys
keeps_numbers xs ys e n there = some_lookup n ys ∙ (ap (list_any (nat_eq n)) e ∙ (sym (some_lookup n xs) ∙ there))
