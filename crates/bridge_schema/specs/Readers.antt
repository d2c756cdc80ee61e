-- Readers of a table's keys: kinds of values, presence, and known keys.
use Rattle.std.specs.Prelude.{ℕ, pos, negsuc, ◌-◌, ◌^◌, Bool, true, false, not, ◌&&◌, List, [], ◌∷◌, ◌++◌, length, Option, Some, None, is_some, Result, Ok, Err, nat_le, nat_eq, bit_and, bit_or, if◌then◌else◌}
use Rattle.std.specs.List.{list_all}
use Rattle.toml.specs.Data.{Data, string, integer, boolean, array, table, Items, no_items, item, Members, get_member}
use Rattle.bridge_frame.specs.declared.Speed.{Speed}
use Rattle.bridge_frame.specs.Link.{speed_by_mbps}
use Rattle.bridge_schema.specs.declared.plan_fault.Field.{Field}
use Rattle.bridge_schema.specs.declared.plan_fault.Flaw.{Flaw}
use Rattle.bridge_schema.specs.declared.plan_fault.Flaw.TheVariants as flaw
use Rattle.bridge_schema.specs.declared.plan_fault.KeyLocation.{KeyLocation}
use Rattle.bridge_schema.specs.declared.plan_fault.PlanFault.{PlanFault}
use Rattle.bridge_schema.specs.declared.plan_fault.PlanFault.TheVariants as fault
use Rattle.bridge_schema.specs.Keys.{key_name}
use Rattle.bridge_schema.specs.Reading as reading
pub use Rattle.bridge_schema.specs.Reading.{◌>>=◌, are_tables, count_items, instances, further_instances}

-- True if the fault of a plan is `NoMemory`, which depends on the system and not on the text.
abbrev pub is_no_memory : PlanFault → Bool
is_no_memory fault.NoMemory = true
is_no_memory _ = false

-- Holds if a reader of plans returns the fault of its definition. If memory ran out, any definition is allowed.
abbrev pub IsReadFault : {Y : Type 0} → PlanFault → Result Y PlanFault → Type 0
IsReadFault = reading.Fails is_no_memory

-- Holds if a reader of plans returns the result of its definition: the same fault, or a value that the function maps to
-- its value. If memory ran out, any definition is allowed.
abbrev pub MatchesReadingView : {X Y : Type 0} → (X → Y) → Result X PlanFault → Result Y PlanFault → Type 0
MatchesReadingView = reading.GivesAs is_no_memory

-- Holds if a reader of plans returns the result of its definition: the same value or the same fault. If memory ran out,
-- any definition is allowed.
abbrev pub MatchesReading : {X : Type 0} → Result X PlanFault → Result X PlanFault → Type 0
MatchesReading = reading.Gives is_no_memory

-- Kinds of values.

-- Reads an integer from `low` to `high`; any other integer is OutOfRange.
unfoldable pub number_in_range : ℕ → ℕ → Data → Result ℕ Flaw
number_in_range low high (integer (pos n)) = if nat_le low n && nat_le n high then Ok n else Err flaw.OutOfRange
number_in_range low high (integer (negsuc n)) = Err flaw.OutOfRange
number_in_range low high _ = Err flaw.WrongKind

-- Reads a boolean; any other value has a wrong kind.
unfoldable pub switch : Data → Result Bool Flaw
switch (boolean b) = Ok b
switch _ = Err flaw.WrongKind

-- Integer from `low` to `high` that already exists in the plan; each other integer is Unresolved.
unfoldable pub known_number : (ℕ → Bool) → ℕ → ℕ → Data → Result ℕ Flaw
known_number has low high (integer (pos n)) = if (nat_le low n && nat_le n high) && has n then Ok n else Err flaw.Unresolved
known_number has low high (integer (negsuc n)) = Err flaw.Unresolved
known_number has low high _ = Err flaw.WrongKind

-- Value of the option; the reason OutOfRange for `None`. Readers of speeds and texts use it.
abbrev pub or_out_of_range : {A : Type 0} → Option A → Result A Flaw
or_out_of_range (Some x) = Ok x
or_out_of_range None = Err flaw.OutOfRange

-- Reads the speed of a port in Mb/s; an integer that isn't a speed is OutOfRange.
unfoldable pub speed : Data → Result Speed Flaw
speed (integer (pos n)) = or_out_of_range (speed_by_mbps n)
speed (integer (negsuc n)) = Err flaw.OutOfRange
speed _ = Err flaw.WrongKind

-- Reads a text whose meaning the function gives; a text without meaning is OutOfRange.
unfoldable pub text_value : {A : Type 0} → (List ℕ → Option A) → Data → Result A Flaw
text_value meaning (string s) = or_out_of_range (meaning s)
text_value meaning _ = Err flaw.WrongKind

-- True if each item of an array is an integer.
abbrev pub are_integers : Items → Bool
are_integers no_items = true
are_integers (item (integer z) ds) = are_integers ds
are_integers (item _ ds) = false

-- True if each item is an integer from `low` to `high`.
abbrev pub are_in_range : ℕ → ℕ → Items → Bool
are_in_range low high no_items = true
are_in_range low high (item (integer (pos n)) ds) = (nat_le low n && nat_le n high) && are_in_range low high ds
are_in_range low high (item _ ds) = false

-- True if an array has no items.
abbrev pub is_empty : Items → Bool
is_empty no_items = true
is_empty _ = false

-- Why an array of numbers is refused: wrong kinds come before numbers out of range. `None` if all items are in range.
abbrev pub numbers_flaw : ℕ → ℕ → Items → Option Flaw
numbers_flaw low high items = if not (are_integers items) then Some flaw.WrongKind else if not (are_in_range low high items) then Some flaw.OutOfRange else None

-- Integer of at least 0 in an item; 0 for any other item.
abbrev pub value_number : Data → ℕ
value_number (integer (pos n)) = n
value_number _ = 0

-- Integers in the items, in order; an item that isn't an integer gives 0. Readers first test that all items are
-- integers.
abbrev pub item_numbers : Items → List ℕ
item_numbers no_items = []
item_numbers (item d ds) = value_number d ∷ item_numbers ds

-- Result of a reader: the value, or the reason of its refusal if there is one.
abbrev pub unless_flaw : {A : Type 0} → Option Flaw → A → Result A Flaw
unless_flaw None x = Ok x
unless_flaw (Some e) x = Err e

-- Reads an array whose items are integers from `low` to `high`. Returns the integers, or why the value is refused.
unfoldable pub number_array : ℕ → ℕ → Data → Result (List ℕ) Flaw
number_array low high (array items) = unless_flaw (numbers_flaw low high items) (item_numbers items)
number_array low high _ = Err flaw.WrongKind

-- The set `bits` with each number n of the list added: bit n - `low` of the set becomes 1.
abbrev pub add_to_set : ℕ → ℕ → List ℕ → ℕ
add_to_set low bits [] = bits
add_to_set low bits (n ∷ ns) = add_to_set low (bit_or bits (2 ^ (n - low))) ns

-- Reads an array whose items are integers from `low` to `high` as a set: bit n - `low` is 1 if the array has n.
unfoldable pub number_set : ℕ → ℕ → Data → Result ℕ Flaw
number_set low high d = number_array low high d >>= λ ns. Ok (add_to_set low 0 ns)

-- True if `set` is a subset of `all`. Each set is a number: a bit is 1 for each member.
abbrev pub is_subset : ℕ → ℕ → Bool
is_subset set all = nat_eq (bit_and set all) set

-- Reads an array of port numbers as a set: bit n - 1 is 1 if the array has port n. A port outside the set `all` is
-- Unresolved.
unfoldable pub known_ports : ℕ → Data → Result ℕ Flaw
known_ports all (array items) = if not (are_integers items) then Err flaw.WrongKind else if are_in_range 1 16 items && is_subset (add_to_set 1 0 (item_numbers items)) all then Ok (add_to_set 1 0 (item_numbers items)) else Err flaw.Unresolved
known_ports all _ = Err flaw.WrongKind

-- Reads an array of exactly eight integers from `low` to `high`.
unfoldable pub eight_in_range : ℕ → ℕ → Data → Result (List ℕ) Flaw
eight_in_range low high d = number_array low high d >>= λ ns. if nat_eq (length ns) 8 then Ok ns else Err flaw.OutOfRange

-- True if every number of the list `ns` is at least `low` and at most `high`; true for the empty list.
abbrev pub are_numbers_in_range : ℕ → ℕ → List ℕ → Bool
are_numbers_in_range low high ns = list_all (λ n. nat_le low n && nat_le n high) ns

-- Presence.

-- Fault of a plan for the value at a location, by the reason of its refusal.
abbrev pub flaw_fault : KeyLocation → Flaw → PlanFault
flaw_fault place flaw.WrongKind = fault.WrongKind place
flaw_fault place flaw.OutOfRange = fault.OutOfRange place
flaw_fault place flaw.Unresolved = fault.Unresolved place

-- Result of reading the value at a location: the value, or the plan's fault that names the location.
abbrev pub read_at_key : {A : Type 0} → KeyLocation → Result A Flaw → Result A PlanFault
read_at_key = reading.at_place flaw_fault

-- Value of a required key; Missing if the key is absent, or the fault of a refused value.
abbrev pub required_value : {A : Type 0} → KeyLocation → (Data → Result A Flaw) → Option Data → Result A PlanFault
required_value = reading.required_in fault.Missing flaw_fault

-- Value of an optional key; `None` if the key is absent, or the fault of a refused value.
abbrev pub optional_value : {A : Type 0} → KeyLocation → (Data → Result A Flaw) → Option Data → Result (Option A) PlanFault
optional_value = reading.optional_in flaw_fault

-- Value of an optional key; the default if the key is absent, or the fault of a refused value.
abbrev pub value_or_default : {A : Type 0} → A → KeyLocation → (Data → Result A Flaw) → Option Data → Result A PlanFault
value_or_default = reading.default_in flaw_fault

-- Reads a required key of a table; Missing if the table lacks it.
unfoldable pub read_required : {A : Type 0} → KeyLocation → Field → (Data → Result A Flaw) → Members → Result A PlanFault
read_required place key kind members = required_value place kind (get_member (key_name key) members)

-- Reads an optional key of a table; `None` if the table lacks it.
unfoldable pub read_optional : {A : Type 0} → KeyLocation → Field → (Data → Result A Flaw) → Members → Result (Option A) PlanFault
read_optional place key kind members = optional_value place kind (get_member (key_name key) members)

-- Reads an optional key of a table; the default if the table lacks it.
unfoldable pub read_or_default : {A : Type 0} → A → KeyLocation → Field → (Data → Result A Flaw) → Members → Result A PlanFault
read_or_default default place key kind members = value_or_default default place kind (get_member (key_name key) members)

-- True if a table of a plan has the key `key`.
abbrev pub has_key : Field → Members → Bool
has_key key members = is_some (get_member (key_name key) members)

-- The result `read` if the table has the key; otherwise the value `absent`.
abbrev pub read_if_present : {A : Type 0} → Field → A → Result A PlanFault → Members → Result A PlanFault
read_if_present key absent read members = if has_key key members then read else Ok absent

-- The result `read` if the table lacks the key; otherwise the value `absent`.
abbrev pub read_if_absent : {A : Type 0} → Field → A → Result A PlanFault → Members → Result A PlanFault
read_if_absent key absent read members = if has_key key members then Ok absent else read

-- Known keys.

-- True if the text is the name of one of the keys.
abbrev pub is_key_name : List Field → List ℕ → Bool
is_key_name = reading.is_among key_name

-- True if the table has only keys of the list.
abbrev pub has_known_keys : List Field → Members → Bool
has_known_keys = reading.are_known key_name

-- True if each table among the items has only keys of the list.
abbrev pub have_known_keys : List Field → Items → Bool
have_known_keys keys no_items = true
have_known_keys keys (item (table ms) ds) = has_known_keys keys ms && have_known_keys keys ds
have_known_keys keys (item _ ds) = have_known_keys keys ds

-- True if the value isn't an array, or each table in it has only keys of the list.
abbrev pub has_known_entry_keys : List Field → Option Data → Bool
has_known_entry_keys keys (Some (array items)) = have_known_keys keys items
has_known_entry_keys keys _ = true

-- The list `keys` if the table has the key `key`, otherwise no keys: the keys that are allowed only next to `key`.
abbrev pub keys_if_present : Field → List Field → Members → List Field
keys_if_present key keys members = if has_key key members then keys else []

-- The list `keys` if the table lacks the key `key`, otherwise no keys.
abbrev pub keys_if_absent : Field → List Field → Members → List Field
keys_if_absent key keys members = if has_key key members then [] else keys

-- Arrays of tables.

-- Values of the tables in order, or the first fault.
abbrev pub read_entries : {A : Type 0} → (Members → Result A PlanFault) → Items → Result (List A) PlanFault
read_entries entry no_items = Ok []
read_entries entry (item (table ms) ds) = entry ms >>= λ x. read_entries entry ds >>= λ xs. Ok (x ∷ xs)
read_entries entry (item _ ds) = read_entries entry ds

-- Reads an array of tables as entries, in order; WrongKind if the value isn't an array of tables.
unfoldable pub read_list : {A : Type 0} → KeyLocation → (Members → Result A PlanFault) → Data → Result (List A) PlanFault
read_list place entry (array items) = if are_tables items then read_entries entry items else Err (fault.WrongKind place)
read_list place entry _ = Err (fault.WrongKind place)

-- Entries of an optional array of tables, or the first fault; `None` if the key is absent.
abbrev pub read_optional_list : {A : Type 0} → KeyLocation → (Members → Result A PlanFault) → Option Data → Result (Option (List A)) PlanFault
read_optional_list place entry None = Ok None
read_optional_list place entry (Some d) = read_list place entry d >>= λ xs. Ok (Some xs)

-- The list `front` followed by the values of the result `read`, or the fault of `read`. Proofs about lists use it.
abbrev pub with_prefix : {A : Type 0} → List A → Result (List A) PlanFault → Result (List A) PlanFault
with_prefix front read = read >>= λ xs. Ok (front ++ xs)
