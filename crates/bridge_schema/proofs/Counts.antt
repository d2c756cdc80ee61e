-- Numbers of items in an array and of instances in a section.
use Rattle.std.proofs.Common.{◌≡◌, ℕ, suc, ◌+◌, ◌==◌, true, List, [], ◌∷◌, ◌++◌, length, Result, Ok, Err, refl, ap, ◌∙◌, arith}
use Rattle.std.proofs.lemmas.Bool.{false≢true}
use Rattle.std.proofs.lemmas.Bool.Decides.{nat_tests}
use Rattle.bridge_limits.proofs.Orders.{more_by_one}
use Rattle.bridge_limits.proofs.Lists.{one_longer}
use Rattle.toml.specs.Data.{string, integer, float, boolean, datetime, array, table, Items, no_items, item, Members}
use Rattle.toml.specs.View.{items_view}
use Rattle.toml.specs.declared.value.Value.{Value}
use Rattle.bridge_schema.specs.Readers.{is_empty}
use Rattle.bridge_schema.specs.Reading.{◌>>=◌, are_tables, count_items, further_instances}

pub count_of_view : (vs : List Value) → count_items (items_view vs) ≡ length vs
count_of_view [] = refl
count_of_view (v ∷ vs) = ap suc (count_of_view vs)

pub is_empty_view : (vs : List Value) → is_empty (items_view vs) ≡ (length vs == 0)
is_empty_view [] = refl
is_empty_view (v ∷ vs) = grind (arith, nat_tests)

ok_parts : {X Y E : Type 0} (r : Result X E) (k : X → Result Y E) (y : Y) → (r >>= k) ≡ Ok y → (x : X) × (k x ≡ Ok y)
ok_parts (Ok x) k y h = (x, h)
ok_parts (Err e) k y h = absurd (cc)

ok_is : {X E : Type 0} (x y : X) (r : Result X E) → r ≡ Ok x → r ≡ Ok y → x ≡ y
ok_is x y r g h = cc

-- Each table of an array is one instance.
pub counted : {A E : Type 0} (read : List A → ℕ → Members → Result A E) (earlier : List A) (i : ℕ) (ds : Items) (xs : List A) → are_tables ds ≡ true → further_instances read earlier i ds ≡ Ok xs → length xs ≡ length earlier + count_items ds
counted {E = E} read earlier i no_items xs tables h =
    let ok : Result (List _) E = Ok earlier in
    let e : length earlier ≡ length xs = ap length (ok_is earlier xs ok refl h) in omega (arith, e)
counted read earlier i (item (table ms) ds) xs tables h =
    let (x, more) = ok_parts (read earlier i ms) (λ x. further_instances read (earlier ++ x ∷ []) (i + 1) ds) xs h in
    let rest : length xs ≡ length (earlier ++ x ∷ []) + count_items ds = counted read (earlier ++ x ∷ []) (i + 1) ds xs tables more in
    more_by_one (length xs) (count_items ds) (length earlier) (rest ∙ ap (λ n. n + count_items ds) (one_longer earlier x))
counted read earlier i (item (integer z) ds) xs tables h = absurd (false≢true tables)
counted read earlier i (item (string s) ds) xs tables h = absurd (false≢true tables)
counted read earlier i (item (float x) ds) xs tables h = absurd (false≢true tables)
counted read earlier i (item (boolean b) ds) xs tables h = absurd (false≢true tables)
counted read earlier i (item (datetime t) ds) xs tables h = absurd (false≢true tables)
counted read earlier i (item (array es) ds) xs tables h = absurd (false≢true tables)
