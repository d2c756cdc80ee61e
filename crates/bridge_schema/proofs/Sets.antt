-- Set of numbers, one more number at a time.
use Rattle.std.proofs.Common.{◌≡◌, ℕ, suc, ◌+◌, ◌-◌, ◌*◌, ◌^◌, ◌%◌, ◌<◌, ◌≤◌, true, ◌&&◌, nat_le, List, [], ◌∷◌, bit_or, length, get_or, drop, take, set, ◌++◌, append_assoc, append-nil, refl, sym, ap, ◌∙◌, arith, pos, negsuc}
use Rattle.std.proofs.lemmas.List.{take_more_set, take_all, drop_all}
use Rattle.std.proofs.lemmas.Bool.{and_parts, false≢true}
use Rattle.std.proofs.lemmas.Bool.Decides.{nat_tests}
use Rattle.std.proofs.lemmas.Nat.{or_lt}
use Rattle.std.proofs.Math.Pow.{pow-lt}
use Rattle.toml.specs.Data.{Data, string, integer, float, boolean, datetime, array, table, Items, no_items, item}
use Rattle.toml.specs.View.{view, items_view}
use Rattle.toml.specs.declared.value.Value.{Value}
use Rattle.toml.proofs.Views.{items_view-drop}
use Rattle.bridge_schema.specs.Readers.{are_in_range, are_numbers_in_range, value_number, item_numbers, add_to_set}

pub record Front (low high : ℕ) (d : Data) (ds : Items) : Type 0 where
  pub above : low ≤ value_number d
  pub below : value_number d ≤ high
  pub rest : are_in_range low high ds ≡ true

within : (low high n : ℕ) → (nat_le low n && nat_le n high) ≡ true → (low ≤ n) × (n ≤ high)
within low high n h = let (a, b) = and_parts (nat_le low n) (nat_le n high) h in (grind (arith, nat_tests), grind (arith, nat_tests))

pub front : (low high : ℕ) (d : Data) (ds : Items) → are_in_range low high (item d ds) ≡ true → Front low high d ds
front low high (integer (pos n)) ds h =
    let (here, more) = and_parts (nat_le low n && nat_le n high) (are_in_range low high ds) h in
    let (a, b) = within low high n here in
    record { above = a; below = b; rest = more }
front low high (integer (negsuc n)) ds h = absurd (false≢true h)
front low high (string s) ds h = absurd (false≢true h)
front low high (float x) ds h = absurd (false≢true h)
front low high (boolean b) ds h = absurd (false≢true h)
front low high (datetime t) ds h = absurd (false≢true h)
front low high (array es) ds h = absurd (false≢true h)
front low high (table ms) ds h = absurd (false≢true h)

-- Bits of the set with one more number.
pub bit_fits : (k m : ℕ) → k < m → 2 ^ k < 2 ^ m
bit_fits k m h = pow-lt h

pub shifted : (k : ℕ) → k < 16 → 1 * 2 ^ k % 2 ^ 16 ≡ 2 ^ k
shifted k h = let below = bit_fits k 16 h in grind (arith)

pub more_fits : (bits k m : ℕ) → bits < 2 ^ m → k < m → bit_or bits (2 ^ k) < 2 ^ m
more_fits bits k m h below = or_lt m bits (2 ^ k) h (pow-lt below)

-- Item at an index, and the set with this item.
pub front_at : (low high i : ℕ) (vs : List Value) (v : Value) → i < length vs → get_or vs i v ≡ v → are_in_range low high (items_view (drop i vs)) ≡ true → Front low high (view v) (items_view (drop (i + 1) vs))
front_at low high i vs v h at known =
    let opened : are_in_range low high (items_view (drop i vs)) ≡ are_in_range low high (item (view v) (items_view (drop (i + 1) vs))) = rw (items_view-drop vs i v h, at) refl in
    front low high (view v) (items_view (drop (i + 1) vs)) (sym opened ∙ known)

pub set_at : (low bits i : ℕ) (vs : List Value) (v : Value) → i < length vs → get_or vs i v ≡ v →
    add_to_set low bits (item_numbers (items_view (drop i vs))) ≡ add_to_set low (bit_or bits (2 ^ (value_number (view v) - low))) (item_numbers (items_view (drop (i + 1) vs)))
set_at low bits i vs v h at = rw (items_view-drop vs i v h, at) refl

-- An array has as many numbers as items.
pub count_of_view : (vs : List Value) → length (item_numbers (items_view vs)) ≡ length vs
count_of_view [] = refl
count_of_view (v ∷ vs) = ap suc (count_of_view vs)

pub numbers_at : (i : ℕ) (vs : List Value) (v : Value) → i < length vs → get_or vs i v ≡ v →
    item_numbers (items_view (drop i vs)) ≡ value_number (view v) ∷ item_numbers (items_view (drop (i + 1) vs))
numbers_at i vs v h at = rw (items_view-drop vs i v h, at) refl

pub put_number : (out all : List ℕ) (i n : ℕ) (vs : List Value) (v : Value) → i < length vs → i < length out → get_or vs i v ≡ v → n ≡ value_number (view v) →
    take i out ++ item_numbers (items_view (drop i vs)) ≡ all → take (i + 1) (set out i n) ++ item_numbers (items_view (drop (i + 1) vs)) ≡ all
put_number out all i n vs v h room at is same =
    let opened = numbers_at i vs v h at in
    let grown : take (i + 1) (set out i n) ++ item_numbers (items_view (drop (i + 1) vs)) ≡ take i out ++ (value_number (view v) ∷ item_numbers (items_view (drop (i + 1) vs))) = rw (take_more_set out i n room, is) (append_assoc (take i out) (value_number (view v) ∷ []) (item_numbers (items_view (drop (i + 1) vs)))) in
    grown ∙ sym (ap (λ t. take i out ++ t) opened) ∙ same

pub no_numbers_left : (i : ℕ) (vs : List Value) → length vs ≤ i → item_numbers (items_view (drop i vs)) ≡ []
no_numbers_left i vs h = rw (drop_all i vs h) refl

pub all_put : (out all : List ℕ) (i : ℕ) (vs : List Value) → length out ≡ length vs → length vs ≤ i → take i out ++ item_numbers (items_view (drop i vs)) ≡ all → out ≡ all
all_put out all i vs e h same =
    let whole : take i out ++ item_numbers (items_view (drop i vs)) ≡ out = rw (no_numbers_left i vs h, take_all i out (omega arith)) (append-nil out) in
    sym whole ∙ same

-- If the items of an array are in range, its numbers are in range.
pub numbers_within : (low high : ℕ) (ds : Items) → are_in_range low high ds ≡ true → are_numbers_in_range low high (item_numbers ds) ≡ true
numbers_within low high no_items h = refl
numbers_within low high (item (integer (pos n)) ds) h =
    let (here, more) = and_parts (nat_le low n && nat_le n high) (are_in_range low high ds) h in
    rw (here, numbers_within low high ds more) refl
numbers_within low high (item (integer (negsuc n)) ds) h = absurd (false≢true h)
numbers_within low high (item (string s) ds) h = absurd (false≢true h)
numbers_within low high (item (float x) ds) h = absurd (false≢true h)
numbers_within low high (item (boolean b) ds) h = absurd (false≢true h)
numbers_within low high (item (datetime t) ds) h = absurd (false≢true h)
numbers_within low high (item (array es) ds) h = absurd (false≢true h)
numbers_within low high (item (table ms) ds) h = absurd (false≢true h)
