-- Entries of a list, table by table.
use Rattle.std.proofs.Common.{◌≡◌, List, [], ◌∷◌, ◌++◌, append_assoc, refl, sym, ap, subst, ◌∙◌, Some, None, Result, Ok, Err}
use Rattle.std.proofs.lemmas.Option.{same_Some, none-some}
use Rattle.toml.specs.Data.{Data, string, integer, float, boolean, datetime, array, table, Items, item, Members, as_table}
use Rattle.bridge_schema.specs.declared.plan_fault.PlanFault.{PlanFault}
use Rattle.bridge_schema.specs.Readers.{◌>>=◌, IsReadFault, read_entries, with_prefix}
use Rattle.bridge_schema.proofs.Faults.{fails_on}

each_table : {A : Type 0} (entry : Members → Result A PlanFault) (d : Data) (ms : Members) (ds : Items) → as_table d ≡ Some ms → read_entries entry (item d ds) ≡ (entry ms >>= λ x. read_entries entry ds >>= λ xs. Ok (x ∷ xs))
each_table entry (table m) ms ds is = ap (λ (n : Members). entry n >>= λ x. read_entries entry ds >>= λ xs. Ok (x ∷ xs)) (same_Some m ms is)
each_table entry (string s) ms ds is = absurd (none-some ms is)
each_table entry (integer z) ms ds is = absurd (none-some ms is)
each_table entry (float x) ms ds is = absurd (none-some ms is)
each_table entry (boolean b) ms ds is = absurd (none-some ms is)
each_table entry (datetime t) ms ds is = absurd (none-some ms is)
each_table entry (array xs) ms ds is = absurd (none-some ms is)

each_other : {A : Type 0} (entry : Members → Result A PlanFault) (d : Data) (ds : Items) → as_table d ≡ None → read_entries entry (item d ds) ≡ read_entries entry ds
each_other entry (table m) ds is = absurd (none-some m (sym is))
each_other entry (string s) ds is = refl
each_other entry (integer z) ds is = refl
each_other entry (float x) ds is = refl
each_other entry (boolean b) ds is = refl
each_other entry (datetime t) ds is = refl
each_other entry (array xs) ds is = refl

front_more : {A : Type 0} (front : List A) (x : A) (read : Result (List A) PlanFault) → with_prefix front (read >>= λ xs. Ok (x ∷ xs)) ≡ with_prefix (front ++ x ∷ []) read
front_more front x (Ok xs) = ap (λ l. Ok l) (sym (append_assoc front (x ∷ []) xs))
front_more front x (Err e) = refl

-- The next table was read.
pub table_more : {A : Type 0} (entry : Members → Result A PlanFault) (front : List A) (from : Items) (d : Data) (ms : Members) (ds : Items) (x : A) (whole : Result (List A) PlanFault) → from ≡ item d ds → as_table d ≡ Some ms → entry ms ≡ Ok x
    → with_prefix front (read_entries entry from) ≡ whole → with_prefix (front ++ x ∷ []) (read_entries entry ds) ≡ whole
table_more {A} entry front from d ms ds x whole cut is read before =
    let gives : read_entries entry from ≡ (read_entries entry ds >>= λ xs. Ok (x ∷ xs)) =
    ap (read_entries entry) cut ∙ (each_table entry d ms ds is ∙ ap (λ (r : Result A PlanFault). r >>= λ y. read_entries entry ds >>= λ xs. Ok (y ∷ xs)) read) in
    sym (front_more front x (read_entries entry ds)) ∙ (ap (with_prefix front) (sym gives) ∙ before)

-- The next item isn't a table and is skipped.
pub other_more : {A : Type 0} (entry : Members → Result A PlanFault) (front : List A) (from : Items) (d : Data) (ds : Items) (whole : Result (List A) PlanFault) → from ≡ item d ds → as_table d ≡ None
    → with_prefix front (read_entries entry from) ≡ whole → with_prefix front (read_entries entry ds) ≡ whole
other_more entry front from d ds whole cut is before = ap (with_prefix front) (sym (ap (read_entries entry) cut ∙ each_other entry d ds is)) ∙ before

-- The next table has a fault.
pub table_fails : {A : Type 0} (entry : Members → Result A PlanFault) (front : List A) (e : PlanFault) (from : Items) (d : Data) (ms : Members) (ds : Items) (whole : Result (List A) PlanFault) → from ≡ item d ds → as_table d ≡ Some ms → IsReadFault e (entry ms)
    → with_prefix front (read_entries entry from) ≡ whole → IsReadFault e whole
table_fails entry front e from d ms ds whole cut is fails before =
    let gives : read_entries entry from ≡ (entry ms >>= λ x. read_entries entry ds >>= λ xs. Ok (x ∷ xs)) = ap (read_entries entry) cut ∙ each_table entry d ms ds is in
    subst (IsReadFault e) (sym (ap (with_prefix front) gives) ∙ before)
    (fails_on e (entry ms >>= λ x. read_entries entry ds >>= λ xs. Ok (x ∷ xs)) (λ xs. Ok (front ++ xs)) (fails_on e (entry ms) (λ x. read_entries entry ds >>= λ xs. Ok (x ∷ xs)) fails))
