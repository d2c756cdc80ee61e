-- Keys of network and traffic files: how they are read, and which are allowed.
use Rattle.std.specs.Prelude.{ℕ, Bool, true, false, List, Option, Result, Ok, Err, if◌then◌else◌}
use Rattle.toml.specs.Data.{Data, string, Items, Members, get_member}
use Rattle.bridge_schema.specs.declared.plan_fault.Flaw.{Flaw}
use Rattle.bridge_schema.specs.declared.plan_fault.Flaw.TheVariants as flaw
pub use Rattle.bridge_schema.specs.Reading.{instances, provided}
use Rattle.bridge_schema.specs.Reading as reading
use Rattle.net_file.specs.declared.fault.NetSection.{NetSection}
use Rattle.net_file.specs.declared.fault.NetSection.TheVariants as section
use Rattle.net_file.specs.declared.fault.NetField.{NetField}
use Rattle.net_file.specs.declared.fault.NetKeyLocation.{NetKeyLocation}
use Rattle.net_file.specs.declared.fault.NetFault.{NetFault}
use Rattle.net_file.specs.declared.fault.NetFault.TheVariants as fault
use Rattle.net_file.specs.Faults.{section_name, key_name}
use Rattle.net_file.specs.Names.{is_valid_name}

-- True if a fault is `NoMemory`, which no definition of a file's contents can predict.
abbrev pub is_no_memory : NetFault → Bool
is_no_memory fault.NoMemory = true
is_no_memory _ = false

-- Holds if the result of a call is the fault `e`, or memory ran out.
abbrev pub Fails : {Y : Type 0} → NetFault → Result Y NetFault → Type 0
Fails = reading.Fails is_no_memory

-- Holds if memory ran out, or the result of a call is the result that a definition gives. The function converts the call's value for the
-- comparison.
abbrev pub GivesAs : {X Y : Type 0} → (X → Y) → Result X NetFault → Result Y NetFault → Type 0
GivesAs = reading.GivesAs is_no_memory

-- Holds if the result of a call is the result that a definition gives, or memory ran out.
abbrev pub Gives : {X : Type 0} → Result X NetFault → Result X NetFault → Type 0
Gives = reading.Gives is_no_memory

-- TEXTS

-- Reads any text. Another kind of value is `WrongKind`.
unfoldable pub any_text : Data → Result (List ℕ) Flaw
any_text (string s) = Ok s
any_text _ = Err flaw.WrongKind

-- Reads a text that is a name. Another text is `OutOfRange`, another kind of value `WrongKind`.
unfoldable pub name_text : Data → Result (List ℕ) Flaw
name_text (string s) = if is_valid_name s then Ok s else Err flaw.OutOfRange
name_text _ = Err flaw.WrongKind

-- PRESENCE

-- The fault of the key at location `place` whose value has this flaw.
abbrev pub flaw_fault : NetKeyLocation → Flaw → NetFault
flaw_fault place flaw.WrongKind = fault.WrongKind place
flaw_fault place flaw.OutOfRange = fault.OutOfRange place
flaw_fault place flaw.Unresolved = fault.Unresolved place

-- The value of the key at a location, or the fault of this location if the value isn't allowed.
abbrev pub value_or_fault : {A : Type 0} → NetKeyLocation → Result A Flaw → Result A NetFault
value_or_fault = reading.at_place flaw_fault

-- The value of the required key at a location. The fault is `Missing` if the key is absent; a value that isn't allowed has its own
-- fault.
abbrev pub required_value : {A : Type 0} → NetKeyLocation → (Data → Result A Flaw) → Option Data → Result A NetFault
required_value = reading.required_in (λ place. fault.Missing place) flaw_fault

-- The value of the optional key at a location; `None` if the key is absent. A value that isn't allowed is a fault.
abbrev pub optional_value : {A : Type 0} → NetKeyLocation → (Data → Result A Flaw) → Option Data → Result (Option A) NetFault
optional_value = reading.optional_in flaw_fault

-- The value of a key, the default value if the key is absent, or the fault of a value that isn't allowed.
abbrev pub value_or_default : {A : Type 0} → A → NetKeyLocation → (Data → Result A Flaw) → Option Data → Result A NetFault
value_or_default = reading.default_in flaw_fault

-- Reads a required key of a table; an absent key is the fault `Missing`.
unfoldable pub read_required : {A : Type 0} → NetKeyLocation → (Data → Result A Flaw) → Members → Result A NetFault
read_required place kind members = required_value place kind (get_member (key_name place.field) members)

-- Reads an optional key of a table; an absent key gives `None`.
unfoldable pub read_optional : {A : Type 0} → NetKeyLocation → (Data → Result A Flaw) → Members → Result (Option A) NetFault
read_optional place kind members = optional_value place kind (get_member (key_name place.field) members)

-- Reads a key of a table; an absent key gives the value `default`.
unfoldable pub read_or_default : {A : Type 0} → A → NetKeyLocation → (Data → Result A Flaw) → Members → Result A NetFault
read_or_default default place kind members = value_or_default default place kind (get_member (key_name place.field) members)

-- KNOWN KEYS

-- True if a table has no key except the listed ones.
abbrev pub has_only_keys : List NetField → Members → Bool
has_only_keys = reading.are_known key_name

-- SECTIONS

-- Largest number of instances of a section; more are the fault `TooMany`.
abbrev pub max_instances : NetSection → ℕ
max_instances section.Top = 0
max_instances section.Bridge = 64
max_instances section.Link = 512
max_instances section.Stream = 1024
max_instances section.Traffic = 1024

-- The items of a section of a document, or the section's fault. An absent section has no items.
abbrev pub section_items : NetSection → Members → Result Items NetFault
section_items = reading.items_of (λ section. fault.NotAList section) (λ section. fault.TooMany section) max_instances section_name
