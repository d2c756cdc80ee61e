-- Readers for parts of a TOML document, for any types of faults, sections and keys.
use Rattle.std.specs.Prelude.{ℕ, suc, ◌+◌, ◌≡◌, Bool, true, false, ◌&&◌, List, [], ◌∷◌, ◌++◌, length, Option, Some, None, Result, Ok, Err, nat_le, nat_lt, nat_eq, if◌then◌else◌}
use Rattle.std.specs.List.{list_any}
use Rattle.std.specs.Cmp.Lexicographic.{pointwise}
use Rattle.std.specs.Str.Lossy.{utf8_valid_len}
use Rattle.toml.specs.Data.{Data, array, table, Items, no_items, item, Members, no_members, member, get_member}
use Rattle.toml.specs.Parse.{parse_document}
use Rattle.bridge_schema.specs.declared.plan_fault.Flaw.{Flaw}

-- Sequence of two readers: the first fault is the result.
infixl 10 ◌>>=◌
-- Result of the next reader, or the first fault.
abbrev pub ◌>>=◌ : {A B E : Type 0} → Result A E → (A → Result B E) → Result B E
(Ok x) >>= f = f x
(Err e) >>= f = Err e

-- Holds if the property holds, or the flag is true. A true flag means that memory ran out.
abbrev pub Unless : Bool → Type 0 → Type 0
Unless true Holds = Unit {0}
Unless false Holds = Holds

-- Holds if the reader's fault `e` is the fault of its definition `read`. If `e` means that memory ran out, any `read`
-- is allowed.
abbrev pub Fails : {Y E : Type 0} → (E → Bool) → E → Result Y E → Type 0
Fails is_memory e read = Unless (is_memory e) (read ≡ Err e)

-- Holds if a reader returns the result `read` of its definition: the same fault, or a value that `view` maps to the
-- value of `read`. If memory ran out, any `read` is allowed.
abbrev pub GivesAs : {X Y E : Type 0} → (E → Bool) → (X → Y) → Result X E → Result Y E → Type 0
GivesAs is_memory view (Ok x) read = read ≡ Ok (view x)
GivesAs is_memory view (Err e) read = Fails is_memory e read

-- Holds if a reader returns the result `read` of its definition: the same value or the same fault. If memory ran out,
-- any `read` is allowed.
abbrev pub Gives : {X E : Type 0} → (E → Bool) → Result X E → Result X E → Type 0
Gives is_memory = GivesAs is_memory (λ x. x)

-- Ok if the boolean is true, otherwise the fault. Readers use it for rules such as known keys and different numbers.
abbrev pub provided : {E : Type 0} → Bool → E → Result Bool E
provided true e = Ok true
provided false e = Err e

-- Document.

-- Document that the TOML parser returned; the fault `syntax` if the parser returned `None`.
abbrev pub document_in : {E : Type 0} → E → Option Members → Result Members E
document_in syntax None = Err syntax
document_in syntax (Some members) = Ok members

-- Document in a text of at most 1,048,576 octets of UTF-8; otherwise the fault `too_long` or `syntax`.
abbrev pub document_of : {E : Type 0} → E → E → List ℕ → Result Members E
document_of too_long syntax text =
    if nat_lt 1048576 (length text) then Err too_long
    else if nat_eq (utf8_valid_len text) (length text) then document_in syntax (parse_document text)
    else Err syntax

-- Presence.

-- Result of reading the value at a location: the value, or the fault that names the location.
abbrev pub at_place : {A P E : Type 0} → (P → Flaw → E) → P → Result A Flaw → Result A E
at_place flawed place (Ok x) = Ok x
at_place flawed place (Err e) = Err (flawed place e)

-- Value of a required key; the fault `missing` if the key is absent, or the fault of a refused value.
abbrev pub required_in : {A P E : Type 0} → (P → E) → (P → Flaw → E) → P → (Data → Result A Flaw) → Option Data → Result A E
required_in missing flawed place kind None = Err (missing place)
required_in missing flawed place kind (Some d) = at_place flawed place (kind d)

-- Value of an optional key; `None` if the key is absent, or the fault of a refused value.
abbrev pub optional_in : {A P E : Type 0} → (P → Flaw → E) → P → (Data → Result A Flaw) → Option Data → Result (Option A) E
optional_in flawed place kind None = Ok None
optional_in flawed place kind (Some d) = at_place flawed place (kind d) >>= λ x. Ok (Some x)

-- Value of an optional key; the default if the key is absent, or the fault of a refused value.
abbrev pub default_in : {A P E : Type 0} → (P → Flaw → E) → A → P → (Data → Result A Flaw) → Option Data → Result A E
default_in flawed default place kind None = Ok default
default_in flawed default place kind (Some d) = at_place flawed place (kind d)

-- Known keys.

-- True if the text is the spelling of one of the words.
abbrev pub is_among : {W : Type 0} → (W → List ℕ) → List W → List ℕ → Bool
is_among spelling words k = list_any (λ w. pointwise nat_eq (spelling w) k) words

-- True if each key of the table is the spelling of one of the words.
abbrev pub are_known : {W : Type 0} → (W → List ℕ) → List W → Members → Bool
are_known spelling words no_members = true
are_known spelling words (member k d ms) = is_among spelling words k && are_known spelling words ms

-- Sections.

-- True if each item of an array is a table.
abbrev pub are_tables : Items → Bool
are_tables no_items = true
are_tables (item (table ms) ds) = are_tables ds
are_tables (item _ ds) = false

-- Number of items of an array in a plan.
abbrev pub count_items : Items → ℕ
count_items no_items = 0
count_items (item d ds) = suc (count_items ds)

-- Items of a section if it is an array of tables within the limit; no items if it is absent.
abbrev pub items_in : {S E : Type 0} → (S → E) → (S → E) → (S → ℕ) → S → Option Data → Result Items E
items_in not_a_list too_many limit section None = Ok no_items
items_in not_a_list too_many limit section (Some (array items)) =
    if are_tables items then (if nat_le (count_items items) (limit section) then Ok items else Err (too_many section))
    else Err (not_a_list section)
items_in not_a_list too_many limit section (Some _) = Err (not_a_list section)

-- Items of a section of a document: an array of tables within the limit; no items if the section is absent.
abbrev pub items_of : {S E : Type 0} → (S → E) → (S → E) → (S → ℕ) → (S → List ℕ) → S → Members → Result Items E
items_of not_a_list too_many limit spelling section members = items_in not_a_list too_many limit section (get_member (spelling section) members)

-- The instances `earlier`, followed by the instances of the items; the first item has index `index`. If the reader
-- refuses a table, the result is its fault.
abbrev pub further_instances : {A E : Type 0} → (List A → ℕ → Members → Result A E) → List A → ℕ → Items → Result (List A) E
further_instances read earlier index no_items = Ok earlier
further_instances read earlier index (item (table ms) ds) = read earlier index ms >>= λ x. further_instances read (earlier ++ x ∷ []) (index + 1) ds
further_instances read earlier index (item _ ds) = further_instances read earlier (index + 1) ds

-- Instances of a section, read table by table with indexes from 1; or the first fault.
abbrev pub instances : {A E : Type 0} → (List A → ℕ → Members → Result A E) → Items → Result (List A) E
instances read items = further_instances read [] 1 items
