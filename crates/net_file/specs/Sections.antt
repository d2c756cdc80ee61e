-- Bridges, links and streams of a network file, as they are read key by key.
use Rattle.std.specs.Prelude.{ℕ, ◌-◌, ◌^◌, Bool, true, false, not, ◌&&◌, List, [], ◌∷◌, ◌++◌, Option, Some, None, Result, Ok, Err, nat_le, nat_lt, if◌then◌else◌}
use Rattle.std.specs.List.{list_any}
use Rattle.toml.specs.Data.{Data, string, array, Items, no_items, item, Members, get_member}
use Rattle.bridge_schema.specs.declared.plan_fault.Flaw.{Flaw}
use Rattle.bridge_schema.specs.declared.plan_fault.Flaw.TheVariants as flaw
use Rattle.bridge_limits.specs.declared.TheConstants.{END_OF_TIME, LONGEST_FRAME}
use Rattle.bridge_schema.specs.Readers.{◌>>=◌, number_in_range, count_items}
use Rattle.net_file.specs.declared.fault.NetSection.TheVariants as section
use Rattle.net_file.specs.declared.fault.NetField.{NetField}
use Rattle.net_file.specs.declared.fault.NetField.TheVariants as field
use Rattle.net_file.specs.declared.fault.NetKeyLocation.{NetKeyLocation}
use Rattle.net_file.specs.declared.fault.NetFault.{NetFault}
use Rattle.net_file.specs.declared.fault.NetFault.TheVariants as fault
use Rattle.net_file.specs.declared.link_row.LinkRow.{LinkRow}
use Rattle.net_file.specs.declared.talker.Talker.{Talker}
use Rattle.net_file.specs.Faults.{key_name}
use Rattle.net_file.specs.Model.{Bridge, Stream}
use Rattle.net_file.specs.Names.{resolve_numbered_name, is_numbered_name}
use Rattle.net_file.specs.Keys.{provided, any_text, name_text, value_or_fault, read_required, read_optional, read_or_default, has_only_keys}
use Rattle.net_file.specs.Rules.{has_bridge, has_stream}

-- The fault `e` if `stands` is true, which means that an earlier instance has the name or filter. Otherwise reading continues.
abbrev pub no_duplicate : Bool → NetFault → Result Bool NetFault
no_duplicate stands e = provided (not stands) e

-- BRIDGE

-- Reads bridge `index` from its table, or gives the table's first fault. No bridge in `earlier` may have the same name.
unfoldable pub read_bridge : List Bridge → ℕ → Members → Result Bridge NetFault
read_bridge earlier index members =
    let at : NetField → NetKeyLocation = λ key. record { section = section.Bridge; index = index; field = key } in do
      keys ← provided (has_only_keys (field.Name ∷ field.Plan ∷ []) members) (fault.UnknownKey section.Bridge index)
      name ← read_required (at field.Name) name_text members
      plan ← read_required (at field.Plan) any_text members
      own ← no_duplicate (has_bridge earlier name) (fault.Duplicate section.Bridge index)
      Ok (record { name = name; plan = plan })

-- LINK

-- Reads a port of one of these bridges: the bridge's name, a dot, and a number from 1 to 16.
unfoldable pub port_text : List Bridge → Data → Result (ℕ × ℕ) Flaw
port_text bridges (string s) = resolve_numbered_name bridges 1 16 s
port_text bridges _ = Err flaw.WrongKind

-- Reads link `index` from its table, or gives the table's first fault. The link's ends must be ports of `bridges`.
unfoldable pub read_link : List Bridge → ℕ → Members → Result LinkRow NetFault
read_link bridges index members =
    let at : NetField → NetKeyLocation = λ key. record { section = section.Link; index = index; field = key } in do
      keys ← provided (has_only_keys (field.One ∷ field.Other ∷ field.Delay ∷ []) members) (fault.UnknownKey section.Link index)
      one ← read_required (at field.One) (port_text bridges) members
      other ← read_required (at field.Other) (port_text bridges) members
      delay ← read_or_default 0 (at field.Delay) (number_in_range 0 (10 ^ 9)) members
      Ok (record { one = one; other = other; delay = delay })

-- Reads link `index` as one step of reading the section. Links don't depend on the `earlier` ones.
abbrev pub read_link_in_list : List Bridge → List LinkRow → ℕ → Members → Result LinkRow NetFault
read_link_in_list bridges earlier index members = read_link bridges index members

-- STREAM

-- True if each item of an array, such as a stream's hops, is a text.
abbrev pub are_texts : Items → Bool
are_texts no_items = true
are_texts (item (string s) ds) = are_texts ds
are_texts (item _ ds) = false

-- True if each item has a text, a dot and a filter number.
abbrev pub are_numbered_names : Items → Bool
are_numbered_names no_items = true
are_numbered_names (item (string s) ds) = is_numbered_name 0 (2 ^ 32 - 1) s && are_numbered_names ds
are_numbered_names (item _ ds) = false

-- Reads a filter of one of these bridges: the bridge's name, a dot, and the filter's number.
abbrev pub filter_text : List Bridge → Data → Result (ℕ × ℕ) Flaw
filter_text bridges (string s) = resolve_numbered_name bridges 0 (2 ^ 32 - 1) s
filter_text bridges _ = Err flaw.WrongKind

-- The hops in `front`, which were read before, followed by the filters that the items name. If an item isn't allowed, the fault of the
-- first such item.
abbrev pub resolve_more_hops : NetKeyLocation → List Bridge → List (ℕ × ℕ) → Items → Result (List (ℕ × ℕ)) NetFault
resolve_more_hops place bridges front no_items = Ok front
resolve_more_hops place bridges front (item d ds) = value_or_fault place (filter_text bridges d) >>= λ h. resolve_more_hops place bridges (front ++ h ∷ []) ds

-- The hops in the value of the key `hops`, or the fault of this key. Kind, number and form of all items are tested before any bridge is
-- looked up.
abbrev pub hops_value : NetKeyLocation → List Bridge → Option Data → Result (List (ℕ × ℕ)) NetFault
hops_value place bridges None = Err (fault.Missing place)
hops_value place bridges (Some (array items)) =
    if not (are_texts items) then Err (fault.WrongKind place)
    else if not ((nat_le 1 (count_items items) && nat_le (count_items items) 64) && are_numbered_names items) then Err (fault.OutOfRange place)
    else resolve_more_hops place bridges [] items
hops_value place bridges (Some _) = Err (fault.WrongKind place)

-- Keys of a stream's periodic talker: all or none are present.
abbrev pub talker_keys : List NetField
talker_keys = field.Period ∷ field.From ∷ field.To ∷ field.Least ∷ field.Longest ∷ []

-- Keys that a stream's table in a network file may have.
abbrev pub stream_keys : List NetField
stream_keys = field.Name ∷ field.Hops ∷ field.Period ∷ field.From ∷ field.To ∷ field.Least ∷ field.Longest ∷ field.Deadline ∷ []

-- True if the optional value of a key is present.
abbrev pub is_present : Option Data → Bool
is_present None = false
is_present (Some d) = true

-- True if a table has at least one of these keys.
abbrev pub has_any_key : List NetField → Members → Bool
has_any_key keys members = list_any (λ f. is_present (get_member (key_name f) members)) keys

-- Reads the traffic of stream `index`'s talker, or gives its first fault. If the first phase isn't less than the period, the fault names
-- the period.
unfoldable pub read_talker : ℕ → Members → Result Talker NetFault
read_talker index members =
    let at : NetField → NetKeyLocation = λ key. record { section = section.Stream; index = index; field = key } in do
      period ← read_required (at field.Period) (number_in_range 1 END_OF_TIME) members
      from ← read_required (at field.From) (number_in_range 0 (END_OF_TIME - 1)) members
      within ← provided (nat_lt from period) (fault.OutOfRange (at field.Period))
      to ← read_required (at field.To) (number_in_range from (period - 1)) members
      least ← read_required (at field.Least) (number_in_range 1 LONGEST_FRAME) members
      longest ← read_required (at field.Longest) (number_in_range least LONGEST_FRAME) members
      Ok (record { period = period; from = from; to = to; least = least; longest = longest })

-- Reads the talker of stream `index` if the table has one of its keys; then all are required. Without keys there is no periodic talker.
abbrev pub read_optional_talker : ℕ → Members → Result (Option Talker) NetFault
read_optional_talker index members = if has_any_key talker_keys members then (read_talker index members >>= λ t. Ok (Some t)) else Ok None

-- Reads stream `index` from its table, or gives the table's first fault. The hops are at `bridges`, and no stream in
-- `earlier` may have the same name.
unfoldable pub read_stream : List Bridge → List Stream → ℕ → Members → Result Stream NetFault
read_stream bridges earlier index members =
    let at : NetField → NetKeyLocation = λ key. record { section = section.Stream; index = index; field = key } in do
      keys ← provided (has_only_keys stream_keys members) (fault.UnknownKey section.Stream index)
      name ← read_required (at field.Name) name_text members
      hops ← hops_value (at field.Hops) bridges (get_member (key_name field.Hops) members)
      talker ← read_optional_talker index members
      deadline ← read_optional (at field.Deadline) (number_in_range 0 END_OF_TIME) members
      own ← no_duplicate (has_stream earlier name) (fault.Duplicate section.Stream index)
      Ok (record { name = name; hops = hops; talker = talker; deadline = deadline })
