-- Examples of kinds of values, presence and known keys: first and last value, values out of range, values of other kinds.
use Rattle.std.specs.Prelude.{◌≡◌, ◌+◌, ℕ, true, false, nat_eq, List, [], ◌∷◌, codes, Some, None, Result, Ok, Err, pos, negsuc, refl}
use Rattle.toml.specs.Data.{Data, string, integer, boolean, array, table, Items, no_items, item, Members, no_members, member}
use Rattle.bridge_frame.specs.declared.Speed.TheVariants.{Mbps10, Mbps10000}
use Rattle.bridge_schema.specs.declared.plan_fault.Section.TheVariants as section
use Rattle.bridge_schema.specs.declared.plan_fault.Field.TheVariants as field
use Rattle.bridge_schema.specs.declared.plan_fault.Flaw.TheVariants as flaw
use Rattle.bridge_schema.specs.declared.plan_fault.KeyLocation.{KeyLocation}
use Rattle.bridge_schema.specs.declared.plan_fault.PlanFault.{PlanFault}
use Rattle.bridge_schema.specs.declared.plan_fault.PlanFault.TheVariants as fault
use Rattle.bridge_schema.specs.declared.keys.AllowedValue.TheVariants as allowed
use Rattle.bridge_schema.specs.declared.keys.KeyRule.{KeyRule}
use Rattle.bridge_schema.specs.declared.keys.Presence.TheVariants as presence
use Rattle.bridge_schema.specs.Readers.{number_in_range, switch, speed, known_number, text_value, number_array, number_set, known_ports, eight_in_range, read_required, read_optional, read_or_default, read_if_present, read_if_absent, has_known_keys, has_known_entry_keys, keys_if_present, keys_if_absent, read_list, read_optional_list, instances}
use Rattle.bridge_schema.specs.AllowedKeys.{allowed_keys, has_allowed_keys, has_allowed_entry_keys}
use Rattle.bridge_schema.specs.Texts.{parse_address, parse_openness}

-- Integer of TOML.
abbrev n : ℕ → Data
n k = integer (pos k)

-- Array of integers.
abbrev items_of : List ℕ → Items
items_of [] = no_items
items_of (k ∷ ks) = item (n k) (items_of ks)

abbrev ns : List ℕ → Data
ns ks = array (items_of ks)

-- Number from 1 to 16.

number_first : number_in_range 1 16 (n 1) ≡ Ok 1
unfolding number_in_range
number_first = refl

number_last : number_in_range 1 16 (n 16) ≡ Ok 16
unfolding number_in_range
number_last = refl

number_below : number_in_range 1 16 (n 0) ≡ Err flaw.OutOfRange
unfolding number_in_range
number_below = refl

number_above : number_in_range 1 16 (n 17) ≡ Err flaw.OutOfRange
unfolding number_in_range
number_above = refl

number_negative : number_in_range 0 16 (integer (negsuc 0)) ≡ Err flaw.OutOfRange
unfolding number_in_range
number_negative = refl

number_of_text : number_in_range 1 16 (string (codes "1")) ≡ Err flaw.WrongKind
unfolding number_in_range
number_of_text = refl

-- Switch.

switch_on : switch (boolean true) ≡ Ok true
unfolding switch
switch_on = refl

switch_off : switch (boolean false) ≡ Ok false
unfolding switch
switch_off = refl

switch_of_number : switch (n 1) ≡ Err flaw.WrongKind
unfolding switch
switch_of_number = refl

-- Speed.

slowest : speed (n 10) ≡ Ok Mbps10
unfolding speed
slowest = refl

fastest : speed (n 10000) ≡ Ok Mbps10000
unfolding speed
fastest = refl

no_speed : speed (n 10001) ≡ Err flaw.OutOfRange
unfolding speed
no_speed = refl

negative_speed : speed (integer (negsuc 9)) ≡ Err flaw.OutOfRange
unfolding speed
negative_speed = refl

speed_of_text : speed (string (codes "1000")) ≡ Err flaw.WrongKind
unfolding speed
speed_of_text = refl

-- Number that already exists in the plan; here only 3 exists.

known_there : known_number (nat_eq 3) 1 16 (n 3) ≡ Ok 3
unfolding known_number
known_there = refl

known_absent : known_number (nat_eq 3) 1 16 (n 4) ≡ Err flaw.Unresolved
unfolding known_number
known_absent = refl

known_of_no_range : known_number (nat_eq 3) 1 16 (n 17) ≡ Err flaw.Unresolved
unfolding known_number
known_of_no_range = refl

known_of_switch : known_number (nat_eq 3) 1 16 (boolean true) ≡ Err flaw.WrongKind
unfolding known_number
known_of_switch = refl

-- Texts.

text_open : text_value parse_openness (string (codes "open")) ≡ Ok true
unfolding text_value
text_open = refl

text_closed : text_value parse_openness (string (codes "closed")) ≡ Ok false
unfolding text_value
text_closed = refl

text_in_capitals : text_value parse_openness (string (codes "Open")) ≡ Err flaw.OutOfRange
unfolding text_value
text_in_capitals = refl

text_of_switch : text_value parse_openness (boolean true) ≡ Err flaw.WrongKind
unfolding text_value
text_of_switch = refl

address_in_either_case : text_value parse_address (string (codes "01-80-C2-00-00-0f")) ≡ Ok (0x01 ∷ 0x80 ∷ 0xc2 ∷ 0x00 ∷ 0x00 ∷ 0x0f ∷ [])
unfolding text_value parse_address
address_in_either_case = refl

address_of_five : text_value parse_address (string (codes "01-80-C2-00-00")) ≡ Err flaw.OutOfRange
unfolding text_value parse_address
address_of_five = refl

address_of_seven : text_value parse_address (string (codes "01-80-C2-00-00-0F-00")) ≡ Err flaw.OutOfRange
unfolding text_value parse_address
address_of_seven = refl

address_with_colons : text_value parse_address (string (codes "01:80:C2:00:00:0F")) ≡ Err flaw.OutOfRange
unfolding text_value parse_address
address_with_colons = refl

address_past_the_digits : text_value parse_address (string (codes "01-80-C2-00-00-0G")) ≡ Err flaw.OutOfRange
unfolding text_value parse_address
address_past_the_digits = refl

address_of_number : text_value parse_address (n 1) ≡ Err flaw.WrongKind
unfolding text_value parse_address
address_of_number = refl

-- Arrays of numbers.

set_of_classes : number_set 0 7 (ns (0 ∷ 7 ∷ [])) ≡ Ok (1 + 128)
unfolding number_set number_array
set_of_classes = refl

set_of_ports : number_set 1 16 (ns (1 ∷ 16 ∷ [])) ≡ Ok (1 + 32768)
unfolding number_set number_array
set_of_ports = refl

set_with_repetitions : number_set 0 7 (ns (2 ∷ 2 ∷ 2 ∷ [])) ≡ Ok 4
unfolding number_set number_array
set_with_repetitions = refl

set_of_none : number_set 0 7 (ns []) ≡ Ok 0
unfolding number_set number_array
set_of_none = refl

set_past_the_last : number_set 0 7 (ns (7 ∷ 8 ∷ [])) ≡ Err flaw.OutOfRange
unfolding number_set number_array
set_past_the_last = refl

set_before_the_first : number_set 1 16 (ns (0 ∷ [])) ≡ Err flaw.OutOfRange
unfolding number_set number_array
set_before_the_first = refl

kinds_before_the_range : number_set 0 7 (array (item (n 8) (item (boolean true) no_items))) ≡ Err flaw.WrongKind
unfolding number_set number_array
kinds_before_the_range = refl

set_of_a_number : number_set 0 7 (n 3) ≡ Err flaw.WrongKind
unfolding number_set number_array
set_of_a_number = refl

ports_there : known_ports 5 (ns (1 ∷ 3 ∷ [])) ≡ Ok 5
unfolding known_ports
ports_there = refl

no_ports_there : known_ports 5 (ns []) ≡ Ok 0
unfolding known_ports
no_ports_there = refl

port_absent : known_ports 5 (ns (1 ∷ 2 ∷ [])) ≡ Err flaw.Unresolved
unfolding known_ports
port_absent = refl

no_such_port : known_ports 5 (ns (1 ∷ 17 ∷ [])) ≡ Err flaw.Unresolved
unfolding known_ports
no_such_port = refl

eight_numbers : eight_in_range 0 7 (ns (0 ∷ 1 ∷ 2 ∷ 3 ∷ 4 ∷ 5 ∷ 6 ∷ 7 ∷ [])) ≡ Ok (0 ∷ 1 ∷ 2 ∷ 3 ∷ 4 ∷ 5 ∷ 6 ∷ 7 ∷ [])
unfolding eight_in_range number_array
eight_numbers = refl

seven_numbers : eight_in_range 0 7 (ns (0 ∷ 1 ∷ 2 ∷ 3 ∷ 4 ∷ 5 ∷ 6 ∷ [])) ≡ Err flaw.OutOfRange
unfolding eight_in_range number_array
seven_numbers = refl

nine_numbers : eight_in_range 0 7 (ns (0 ∷ 1 ∷ 2 ∷ 3 ∷ 4 ∷ 5 ∷ 6 ∷ 7 ∷ 0 ∷ [])) ≡ Err flaw.OutOfRange
unfolding eight_in_range number_array
nine_numbers = refl

room_past_the_last : eight_in_range 1 4096 (ns (1 ∷ 1 ∷ 1 ∷ 1 ∷ 1 ∷ 1 ∷ 1 ∷ 4097 ∷ [])) ≡ Err flaw.OutOfRange
unfolding eight_in_range number_array
room_past_the_last = refl

eight_of_text : eight_in_range 1 4096 (string (codes "64")) ≡ Err flaw.WrongKind
unfolding eight_in_range number_array
eight_of_text = refl

-- Presence: the key `vid` of the second port.

abbrev place : KeyLocation
place = record { section = section.Port; index = 2; field = field.Vid }

-- Table with one key.
abbrev one_key : List ℕ → Data → Members
one_key key d = member key d no_members

required_there : read_required place field.Vid (number_in_range 1 4094) (one_key (codes "vid") (n 4094)) ≡ Ok 4094
unfolding read_required number_in_range
required_there = refl

required_absent : read_required place field.Vid (number_in_range 1 4094) no_members ≡ Err (fault.Missing place)
unfolding read_required number_in_range
required_absent = refl

required_past_the_last : read_required place field.Vid (number_in_range 1 4094) (one_key (codes "vid") (n 4095)) ≡ Err (fault.OutOfRange place)
unfolding read_required number_in_range
required_past_the_last = refl

required_of_another_kind : read_required place field.Vid (number_in_range 1 4094) (one_key (codes "vid") (boolean true)) ≡ Err (fault.WrongKind place)
unfolding read_required number_in_range
required_of_another_kind = refl

required_unresolved : read_required place field.Vid (known_number (nat_eq 3) 1 4094) (one_key (codes "vid") (n 4)) ≡ Err (fault.Unresolved place)
unfolding read_required known_number
required_unresolved = refl

optional_there : read_optional place field.Vid (number_in_range 1 4094) (one_key (codes "vid") (n 1)) ≡ Ok (Some 1)
unfolding read_optional number_in_range
optional_there = refl

optional_absent : read_optional place field.Vid (number_in_range 1 4094) no_members ≡ Ok None
unfolding read_optional number_in_range
optional_absent = refl

optional_before_the_first : read_optional place field.Vid (number_in_range 1 4094) (one_key (codes "vid") (n 0)) ≡ Err (fault.OutOfRange place)
unfolding read_optional number_in_range
optional_before_the_first = refl

default_absent : read_or_default 1 place field.Vid (number_in_range 1 4094) no_members ≡ Ok 1
unfolding read_or_default number_in_range
default_absent = refl

default_there : read_or_default 1 place field.Vid (number_in_range 1 4094) (one_key (codes "vid") (n 7)) ≡ Ok 7
unfolding read_or_default number_in_range
default_there = refl

default_of_another_kind : read_or_default 1 place field.Vid (number_in_range 1 4094) (one_key (codes "vid") (string (codes "7"))) ≡ Err (fault.WrongKind place)
unfolding read_or_default number_in_range
default_of_another_kind = refl

read_beside_another_key : read_if_present {A = ℕ} field.Vid 0 (Ok 5) (one_key (codes "vid") (n 7)) ≡ Ok 5
read_beside_another_key = refl

not_read_without_it : read_if_present {A = ℕ} field.Vid 0 (Err (fault.Missing place)) no_members ≡ Ok 0
not_read_without_it = refl

not_read_beside_another_key : read_if_absent {A = ℕ} field.Vid 0 (Err (fault.Missing place)) (one_key (codes "vid") (n 7)) ≡ Ok 0
not_read_beside_another_key = refl

-- Known keys.

one_is_known : has_known_keys (field.Number ∷ field.Vid ∷ []) (one_key (codes "vid") (n 1)) ≡ true
one_is_known = refl

one_is_unknown : has_known_keys (field.Number ∷ field.Vid ∷ []) (one_key (codes "VID") (n 1)) ≡ false
one_is_unknown = refl

a_prefix_is_unknown : has_known_keys (field.Number ∷ field.Vid ∷ []) (one_key (codes "vi") (n 1)) ≡ false
a_prefix_is_unknown = refl

entry_with_an_unknown_key : has_known_entry_keys (field.Open ∷ field.Ns ∷ []) (Some (array (item (n 1) (item (table (one_key (codes "vid") (n 1))) no_items)))) ≡ false
entry_with_an_unknown_key = refl

allowed_beside_another_key : keys_if_present field.Gates (field.Base ∷ []) (one_key (codes "gates") (array no_items)) ≡ field.Base ∷ []
allowed_beside_another_key = refl

not_allowed_beside_another_key : keys_if_absent field.Gates (field.Base ∷ []) (one_key (codes "gates") (array no_items)) ≡ []
not_allowed_beside_another_key = refl

-- Allowed keys.

-- Keys: a number, a list, a key that excludes the list, and keys that need the list, a schedule change or the next list.
abbrev keys : List KeyRule
keys = record { 0 = field.Number; 1 = allowed.Switch; 2 = presence.Required } ∷ record { 0 = field.Gates; 1 = allowed.Tables; 2 = presence.Optional } ∷ record { 0 = field.Base; 1 = allowed.Length; 2 = presence.WithList field.Gates }
    ∷ record { 0 = field.NextGates; 1 = allowed.Tables; 2 = presence.WithListInChange field.Gates } ∷ record { 0 = field.NextBase; 1 = allowed.Length; 2 = presence.WithNextList field.Gates field.NextGates } ∷ record { 0 = field.State; 1 = allowed.State; 2 = presence.WithoutKey field.Gates } ∷ []

without_a_list : allowed_keys true (one_key (codes "number") (n 1)) keys ≡ field.Number ∷ field.Gates ∷ field.State ∷ []
without_a_list = refl

with_a_list : allowed_keys false (one_key (codes "gates") (array no_items)) keys ≡ field.Number ∷ field.Gates ∷ field.Base ∷ []
with_a_list = refl

with_a_change : allowed_keys true (one_key (codes "gates") (array no_items)) keys ≡ field.Number ∷ field.Gates ∷ field.Base ∷ field.NextGates ∷ []
with_a_change = refl

a_key_that_may_not_stand : has_allowed_keys true keys (one_key (codes "base") (n 1)) ≡ false
a_key_that_may_not_stand = refl

an_entry_with_its_key : has_allowed_entry_keys keys (Some (array (item (table (one_key (codes "number") (n 1))) no_items))) ≡ true
an_entry_with_its_key = refl

-- Arrays of tables.

abbrev vid_in : Members → Result ℕ PlanFault
vid_in ms = read_required place field.Vid (number_in_range 1 4094) ms

abbrev vid_after : List ℕ → ℕ → Members → Result ℕ PlanFault
vid_after earlier index ms = vid_in ms

two_entries : read_list place vid_in (array (item (table (one_key (codes "vid") (n 1))) (item (table (one_key (codes "vid") (n 2))) no_items))) ≡ Ok (1 ∷ 2 ∷ [])
unfolding read_list read_required number_in_range
two_entries = refl

second_entry_at_fault : read_list place vid_in (array (item (table (one_key (codes "vid") (n 1))) (item (table no_members) no_items))) ≡ Err (fault.Missing place)
unfolding read_list read_required number_in_range
second_entry_at_fault = refl

tables_before_their_keys : read_list place vid_in (array (item (table no_members) (item (n 1) no_items))) ≡ Err (fault.WrongKind place)
unfolding read_list read_required number_in_range
tables_before_their_keys = refl

no_list : read_optional_list place vid_in None ≡ Ok None
no_list = refl

a_table_is_no_list : read_optional_list place vid_in (Some (table no_members)) ≡ Err (fault.WrongKind place)
unfolding read_list
a_table_is_no_list = refl

two_instances : instances vid_after (item (table (one_key (codes "vid") (n 1))) (item (table (one_key (codes "vid") (n 2))) no_items)) ≡ Ok (1 ∷ 2 ∷ [])
unfolding read_required number_in_range
two_instances = refl

-- Reader that returns the index of an instance, counted from 1.
abbrev index_of : List ℕ → ℕ → Members → Result ℕ PlanFault
index_of earlier index ms = Ok index

indices_from_one : instances index_of (item (table no_members) (item (table no_members) no_items)) ≡ Ok (1 ∷ 2 ∷ [])
indices_from_one = refl
