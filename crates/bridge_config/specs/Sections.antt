-- Sections of a plan, key by key, in the order of the key rules.
use Rattle.std.specs.Prelude.{ℕ, ◌-◌, ◌^◌, Bool, false, not, ◌&&◌, List, [], ◌∷◌, ◌++◌, Option, Some, None, Result, Ok, Err, replicate}
use Rattle.toml.specs.Data.{Members, get_member}
use Rattle.bridge_limits.specs.declared.TheConstants.{END_OF_TIME}
use Rattle.bridge_cycle.specs.Cyclic.{Cyclic, first_fault}
use Rattle.bridge_cycle.specs.declared.gate_control_lists.Egress.{Egress}
use Rattle.bridge_cycle.specs.declared.gate_control_lists.Egress.TheVariants as egress
use Rattle.bridge_meter.specs.declared.TheConstants.{HIGHEST_RATE, LARGEST_BURST}
use Rattle.bridge_meter.specs.declared.MeterPlan.{MeterPlan}
use Rattle.bridge_gate.specs.declared.schedule.GateEntry.{GateEntry}
use Rattle.bridge_gate.specs.declared.schedule.GatePlan.{GatePlan}
use Rattle.bridge_gate.specs.declared.schedule.Schedule.{Schedule}
use Rattle.bridge_gate.specs.declared.schedule.Schedule.TheVariants as schedule
use Rattle.bridge_ident.specs.declared.StreamEntry.{StreamEntry}
use Rattle.bridge_filter.specs.declared.FilterPlan.{FilterPlan}
use Rattle.bridge_filter.specs.Plans.{is_listed}
use Rattle.bridge_forward.specs.declared.Vlan.{Vlan}
use Rattle.bridge_forward.specs.declared.StaticEntry.{StaticEntry}
use Rattle.bridge_schema.specs.declared.plan_fault.Section.{Section}
use Rattle.bridge_schema.specs.declared.plan_fault.Section.TheVariants as section
use Rattle.bridge_schema.specs.declared.plan_fault.Field.{Field}
use Rattle.bridge_schema.specs.declared.plan_fault.Field.TheVariants as field
use Rattle.bridge_schema.specs.declared.plan_fault.KeyLocation.{KeyLocation}
use Rattle.bridge_schema.specs.declared.plan_fault.PlanFault.{PlanFault}
use Rattle.bridge_schema.specs.declared.plan_fault.PlanFault.TheVariants as fault
use Rattle.bridge_schema.specs.Keys.{key_name}
use Rattle.bridge_schema.specs.Readers.{◌>>=◌, read_required, read_optional, read_or_default, read_if_present, read_if_absent, number_in_range, switch, speed, known_number, text_value, number_set, known_ports, eight_in_range, read_optional_list, has_known_keys, has_known_entry_keys, keys_if_present, keys_if_absent}
pub use Rattle.bridge_schema.specs.Reading.{provided}
use Rattle.bridge_schema.specs.Texts.{parse_address, parse_openness}
use Rattle.bridge_schema.specs.declared.ranges.TheConstants.{LARGEST_NUMBER}
use Rattle.bridge_config.specs.Texts.{parse_ident_kind, parse_tag_kind, parse_awareness}
use Rattle.bridge_config.specs.Rules.{has_port, has_vlan, has_static}
use Rattle.bridge_config.specs.declared.ports.PortPlan.{PortPlan}

-- Ok if the boolean is false, otherwise the fault Duplicate. True means that an earlier instance has equal identifying
-- keys.
abbrev pub no_duplicate : Section → ℕ → Bool → Result Bool PlanFault
no_duplicate section index stands = provided (not stands) (fault.Duplicate section index)

-- Parts of a gate control list: base time and cycle time in ns, and optional entries.
pub record ListParts (X : Type 0) : Type 0 where
  pub base : ℕ
  pub cycle : ℕ
  pub entries : Option (List X)

-- Reads the parts of a gate control list from three keys: base time, cycle time and entries.
unfoldable pub read_list_parts : {X : Type 0} → Section → ℕ → Field → Field → Field → (Members → Result X PlanFault) → Members → Result (ListParts X) PlanFault
read_list_parts section index base_key cycle_key entries_key entry members =
    let at : Field → KeyLocation = λ key. record { section = section; index = index; field = key } in do
      base ← read_or_default 0 (at base_key) base_key (number_in_range 0 (END_OF_TIME - 1)) members
      cycle ← read_if_present entries_key 0 (read_required (at cycle_key) cycle_key (number_in_range 0 (2 ^ 63 - 1)) members) members
      entries ← read_optional_list (at entries_key) entry (get_member (key_name entries_key) members)
      Ok (record { base = base; cycle = cycle; entries = entries })

-- Gate control list made from its parts; the fault BadList if the parts break a rule of lists.
abbrev pub checked_list : {S : Type 0} → Section → ℕ → ℕ → ℕ → List (S × ℕ) → Result (Cyclic S) PlanFault
checked_list section index base cycle entries = elim (first_fault cycle entries) [ None ↦ Ok (record { base = base; cycle = cycle; entries = entries }) | Some e ↦ Err (fault.BadList section index e) ]

-- Gate control list made from its parts, or its fault; `None` if there are no entries.
abbrev pub optional_list : {S : Type 0} → Section → ℕ → ListParts (S × ℕ) → Result (Option (Cyclic S)) PlanFault
optional_list section index parts = elim parts.entries [ None ↦ Ok None | Some entries ↦ checked_list section index parts.base parts.cycle entries >>= λ l. Ok (Some l) ]

-- True if an instance of the list has the number `n`.
abbrev pub has_number : {X : Type 0} → List (ℕ × X) → ℕ → Bool
has_number xs n = is_listed n xs

-- Schedule change.

-- True if the table has only keys of a schedule change.
abbrev pub has_change_keys : Members → Bool
has_change_keys members = has_known_keys (field.At ∷ []) members

-- Reads the time of the schedule change from the table with index `index`.
unfoldable pub read_change_time : ℕ → Members → Result ℕ PlanFault
read_change_time index members = do
  keys ← provided (has_change_keys members) (fault.UnknownKey section.Change index)
  read_required (record { section = section.Change; index = index; field = field.At }) field.At (number_in_range 0 (END_OF_TIME - 1)) members

-- Port.

-- Reads an entry of a port's list: open classes as bits, and the length of its intervals in ns.
abbrev pub read_port_entry : KeyLocation → Members → Result (ℕ × ℕ) PlanFault
read_port_entry place members = do
  classes ← read_required place field.Open (number_set 0 7) members
  ns ← read_required place field.Ns (number_in_range 0 (2 ^ 63 - 1)) members
  Ok (classes, ns)

-- Reads the parts of a port's list from three keys.
abbrev pub read_port_parts : ℕ → Field → Field → Field → Members → Result (ListParts (ℕ × ℕ)) PlanFault
read_port_parts index base_key cycle_key gates_key members =
    read_list_parts section.Port index base_key cycle_key gates_key (read_port_entry (record { section = section.Port; index = index; field = gates_key })) members

-- Keys that an entry of a port's list may have.
abbrev pub port_entry_keys : List Field
port_entry_keys = field.Open ∷ field.Ns ∷ []

-- Keys of the list after the schedule change that the table may have; no keys if the plan has no schedule change.
abbrev pub next_port_keys : Option ℕ → Members → List Field
next_port_keys None _ = []
next_port_keys (Some _) ms = field.NextGates ∷ keys_if_present field.NextGates (field.NextBase ∷ field.NextCycle ∷ []) ms

-- Keys that a port may have. Keys of lists depend on other keys, and on a schedule change.
abbrev pub port_keys : Option ℕ → Members → List Field
port_keys change members =
    field.Number ∷ field.Mbps ∷ field.Vid ∷ field.Priority ∷ field.Classes ∷ field.Rooms ∷ field.Gates
    ∷ keys_if_present field.Gates (field.Base ∷ field.Cycle ∷ next_port_keys change members) members

-- True if the table has only keys of a port, and the entries of its lists have only their keys.
abbrev pub has_port_keys : Option ℕ → Members → Bool
has_port_keys change members =
    has_known_keys (port_keys change members) members
    && (has_known_entry_keys port_entry_keys (get_member (key_name field.Gates) members) && has_known_entry_keys port_entry_keys (get_member (key_name field.NextGates) members))

-- Gate control lists of a port: no list, one list, or two lists with a schedule change.
abbrev pub port_lists : {A : Type 0} → Option (Cyclic ℕ) → Option ℕ → Option (Cyclic ℕ) → Option (Egress A)
port_lists None change new = None
port_lists (Some old) None new = Some (egress.Cyclic old)
port_lists (Some old) (Some moment) None = Some (egress.Cyclic old)
port_lists (Some old) (Some moment) (Some new) = Some (egress.Joined (record { old = old; new = new; at = moment }))

-- Reads the gate control lists: the parts of the first and of the next list, then both lists.
unfoldable pub read_port_lists : {A : Type 0} → Option ℕ → ℕ → Members → Result (Option (Egress A)) PlanFault
read_port_lists change index members = do
  first ← read_port_parts index field.Base field.Cycle field.Gates members
  next ← read_port_parts index field.NextBase field.NextCycle field.NextGates members
  old ← optional_list section.Port index first
  new ← optional_list section.Port index next
  Ok (port_lists old change new)

-- Reads a port. `is_port` is true for the numbers of the earlier ports: an earlier port's number is the fault
-- Duplicate.
unfoldable pub read_port_by_lookup : {A : Type 0} → Option ℕ → (ℕ → Bool) → ℕ → Members → Result (PortPlan A) PlanFault
read_port_by_lookup change is_port index members =
    let at : Field → KeyLocation = λ key. record { section = section.Port; index = index; field = key } in do
      keys ← provided (has_port_keys change members) (fault.UnknownKey section.Port index)
      number ← read_required (at field.Number) field.Number (number_in_range 1 16) members
      speed ← read_required (at field.Mbps) field.Mbps speed members
      vid ← read_or_default 1 (at field.Vid) field.Vid (number_in_range 1 4094) members
      priority ← read_or_default 0 (at field.Priority) field.Priority (number_in_range 0 7) members
      classes ← read_or_default (0 ∷ 1 ∷ 2 ∷ 3 ∷ 4 ∷ 5 ∷ 6 ∷ 7 ∷ []) (at field.Classes) field.Classes (eight_in_range 0 7) members
      rooms ← read_or_default (replicate 8 64) (at field.Rooms) field.Rooms (eight_in_range 1 4096) members
      list ← read_port_lists change index members
      own ← no_duplicate section.Port index (is_port number)
      Ok (record { number = number; speed = speed; vid = vid; priority = priority; classes = classes; rooms = rooms; list = list })

-- Reads a port, whose number none of the ports before it may have.
abbrev pub read_port : {A : Type 0} → Option ℕ → List (PortPlan A) → ℕ → Members → Result (PortPlan A) PlanFault
read_port change ports index members = read_port_by_lookup change (has_port ports) index members

-- VLAN.

-- True if the table has only keys of a VLAN.
abbrev pub has_vlan_keys : Members → Bool
has_vlan_keys members = has_known_keys (field.Vid ∷ field.Members ∷ []) members

-- Reads a VLAN, whose identifier no earlier VLAN may have; `all` is the set of the plan's ports.
unfoldable pub read_vlan : ℕ → List Vlan → ℕ → Members → Result Vlan PlanFault
read_vlan all vlans index members =
    let at : Field → KeyLocation = λ key. record { section = section.Vlan; index = index; field = key } in do
      keys ← provided (has_vlan_keys members) (fault.UnknownKey section.Vlan index)
      vid ← read_required (at field.Vid) field.Vid (number_in_range 1 4094) members
      set ← read_required (at field.Members) field.Members (known_ports all) members
      own ← no_duplicate section.Vlan index (has_vlan vlans vid)
      Ok (record { vid = vid; members = set })

-- Static filtering entry.

-- True if the table has only keys of a static entry.
abbrev pub has_static_keys : Members → Bool
has_static_keys members = has_known_keys (field.Vid ∷ field.Address ∷ field.Ports ∷ []) members

-- Reads a static entry, whose VLAN and address no earlier entry may have both; `all` is the set of the plan's ports.
unfoldable pub read_static : ℕ → List Vlan → List StaticEntry → ℕ → Members → Result StaticEntry PlanFault
read_static all vlans statics index members =
    let at : Field → KeyLocation = λ key. record { section = section.Static; index = index; field = key } in do
      keys ← provided (has_static_keys members) (fault.UnknownKey section.Static index)
      vid ← read_required (at field.Vid) field.Vid (known_number (has_vlan vlans) 1 4094) members
      address ← read_required (at field.Address) field.Address (text_value parse_address) members
      set ← read_required (at field.Ports) field.Ports (known_ports all) members
      own ← no_duplicate section.Static index (has_static statics vid address)
      Ok (record { vid = vid; address = address; ports = set })

-- Stream identification.

-- True if the table has only keys of a stream identification.
abbrev pub has_stream_keys : Members → Bool
has_stream_keys members = has_known_keys (field.Handle ∷ field.Port ∷ field.Kind ∷ field.Address ∷ field.Vid ∷ field.Tag ∷ []) members

-- Reads a stream identification. `is_port` is true for the numbers of the plan's ports: any other port is Unresolved.
unfoldable pub read_stream_by_lookup : (ℕ → Bool) → ℕ → Members → Result StreamEntry PlanFault
read_stream_by_lookup is_port index members =
    let at : Field → KeyLocation = λ key. record { section = section.Stream; index = index; field = key } in do
      keys ← provided (has_stream_keys members) (fault.UnknownKey section.Stream index)
      handle ← read_required (at field.Handle) field.Handle (number_in_range 0 LARGEST_NUMBER) members
      port ← read_required (at field.Port) field.Port (known_number is_port 1 16) members
      kind ← read_required (at field.Kind) field.Kind (text_value parse_ident_kind) members
      address ← read_required (at field.Address) field.Address (text_value parse_address) members
      vid ← read_required (at field.Vid) field.Vid (number_in_range 1 4094) members
      tag ← read_required (at field.Tag) field.Tag (text_value parse_tag_kind) members
      Ok (record { handle = handle; port = port; kind = kind; address = address; vid = vid; tag = tag })

-- Reads a stream identification, whose port must be one of these ports.
abbrev pub read_stream : {A : Type 0} → List (PortPlan A) → List StreamEntry → ℕ → Members → Result StreamEntry PlanFault
read_stream ports earlier index members = read_stream_by_lookup (has_port ports) index members

-- Stream gate.

-- Reads an entry of a stream gate's list: state, internal priority value, octet limit, and the length of its intervals
-- in ns.
abbrev pub read_gate_entry : KeyLocation → Members → Result (GateEntry × ℕ) PlanFault
read_gate_entry place members = do
  lets ← read_required place field.Open switch members
  ns ← read_required place field.Ns (number_in_range 0 (2 ^ 63 - 1)) members
  ipv ← read_optional place field.Ipv (number_in_range 0 7) members
  octets ← read_optional place field.Octets (number_in_range 0 LARGEST_NUMBER) members
  Ok (record { lets = lets; ipv = ipv; octets = octets }, ns)

-- Reads the parts of a stream gate's list from three keys.
abbrev pub read_gate_parts : ℕ → Field → Field → Field → Members → Result (ListParts (GateEntry × ℕ)) PlanFault
read_gate_parts index base_key cycle_key entries_key members =
    read_list_parts section.Gate index base_key cycle_key entries_key (read_gate_entry (record { section = section.Gate; index = index; field = entries_key })) members

-- Keys of the list after the schedule change that the table may have; no keys if the plan has no schedule change.
abbrev pub next_gate_keys : Option ℕ → Members → List Field
next_gate_keys None _ = []
next_gate_keys (Some _) ms = field.NextEntries ∷ keys_if_present field.NextEntries (field.NextBase ∷ field.NextCycle ∷ []) ms

-- Keys that a stream gate may have. Keys of lists depend on other keys, and on a schedule change.
abbrev pub gate_keys : Option ℕ → Members → List Field
gate_keys change members =
    field.Number ∷ field.ShutOnRx ∷ field.ShutOnOctets ∷ field.Entries
    ∷ (keys_if_absent field.Entries (field.State ∷ field.Ipv ∷ []) members ++ keys_if_present field.Entries (field.Base ∷ field.Cycle ∷ next_gate_keys change members) members)

-- Keys that an entry of a stream gate's list may have.
abbrev pub gate_entry_keys : List Field
gate_entry_keys = field.Open ∷ field.Ns ∷ field.Ipv ∷ field.Octets ∷ []

-- True if the table has only keys of a gate, and the entries of its lists have only their keys.
abbrev pub has_gate_keys : Option ℕ → Members → Bool
has_gate_keys change members =
    has_known_keys (gate_keys change members) members
    && (has_known_entry_keys gate_entry_keys (get_member (key_name field.Entries) members) && has_known_entry_keys gate_entry_keys (get_member (key_name field.NextEntries) members))

-- Lists of a stream gate: no list, one list, or two lists with a schedule change.
abbrev pub gate_schedule : {A : Type 0} → Option (Cyclic GateEntry) → Option ℕ → Option (Cyclic GateEntry) → Option (Schedule A)
gate_schedule None change new = None
gate_schedule (Some old) None new = Some (schedule.Cyclic old)
gate_schedule (Some old) (Some moment) None = Some (schedule.Cyclic old)
gate_schedule (Some old) (Some moment) (Some new) = Some (schedule.Joined (record { old = old; new = new; at = moment }))

-- Reads the lists of a stream gate: the parts of the first and of the next list, then both lists.
unfoldable pub read_gate_lists : {A : Type 0} → Option ℕ → ℕ → Members → Result (Option (Schedule A)) PlanFault
read_gate_lists change index members = do
  first ← read_gate_parts index field.Base field.Cycle field.Entries members
  next ← read_gate_parts index field.NextBase field.NextCycle field.NextEntries members
  old ← optional_list section.Gate index first
  new ← optional_list section.Gate index next
  Ok (gate_schedule old change new)

-- The lists of a stream gate; without a list, a fixed state with its internal priority value.
abbrev pub schedule_or_fixed : {A : Type 0} → Bool → Option ℕ → Option (Schedule A) → Schedule A
schedule_or_fixed lets ipv None = schedule.Fixed lets ipv
schedule_or_fixed lets ipv (Some lists) = lists

-- Reads a stream gate with its number, which no earlier gate may have.
unfoldable pub read_gate : {A : Type 0} → Option ℕ → List (ℕ × GatePlan A) → ℕ → Members → Result (ℕ × GatePlan A) PlanFault
read_gate change gates index members =
    let at : Field → KeyLocation = λ key. record { section = section.Gate; index = index; field = key } in do
      keys ← provided (has_gate_keys change members) (fault.UnknownKey section.Gate index)
      number ← read_required (at field.Number) field.Number (number_in_range 0 LARGEST_NUMBER) members
      shut_on_rx ← read_or_default false (at field.ShutOnRx) field.ShutOnRx switch members
      shut_on_octets ← read_or_default false (at field.ShutOnOctets) field.ShutOnOctets switch members
      lets ← read_if_absent field.Entries false (read_required (at field.State) field.State (text_value parse_openness) members) members
      ipv ← read_optional (at field.Ipv) field.Ipv (number_in_range 0 7) members
      list ← read_gate_lists change index members
      own ← no_duplicate section.Gate index (has_number gates number)
      Ok (number, record { shut_on_rx = shut_on_rx; shut_on_octets = shut_on_octets; schedule = schedule_or_fixed lets ipv list })

-- Meter.

-- True if the table has only keys of a meter.
abbrev pub has_meter_keys : Members → Bool
has_meter_keys members = has_known_keys (field.Number ∷ field.Cir ∷ field.Cbs ∷ field.Eir ∷ field.Ebs ∷ field.Coupling ∷ field.Colour ∷ field.DropYellow ∷ field.MarkAllRed ∷ []) members

-- Reads a meter with its number, which no earlier meter may have.
unfoldable pub read_meter : List (ℕ × MeterPlan) → ℕ → Members → Result (ℕ × MeterPlan) PlanFault
read_meter meters index members =
    let at : Field → KeyLocation = λ key. record { section = section.Meter; index = index; field = key } in do
      keys ← provided (has_meter_keys members) (fault.UnknownKey section.Meter index)
      number ← read_required (at field.Number) field.Number (number_in_range 0 LARGEST_NUMBER) members
      cir ← read_required (at field.Cir) field.Cir (number_in_range 0 HIGHEST_RATE) members
      cbs ← read_required (at field.Cbs) field.Cbs (number_in_range 0 LARGEST_BURST) members
      eir ← read_required (at field.Eir) field.Eir (number_in_range 0 HIGHEST_RATE) members
      ebs ← read_required (at field.Ebs) field.Ebs (number_in_range 0 LARGEST_BURST) members
      coupling ← read_or_default false (at field.Coupling) field.Coupling switch members
      aware ← read_or_default false (at field.Colour) field.Colour (text_value parse_awareness) members
      drop_yellow ← read_or_default false (at field.DropYellow) field.DropYellow switch members
      mark_all_red ← read_or_default false (at field.MarkAllRed) field.MarkAllRed switch members
      own ← no_duplicate section.Meter index (has_number meters number)
      Ok (number, record { cir = cir; cbs = cbs; eir = eir; ebs = ebs; coupling = coupling; aware = aware; drop_yellow = drop_yellow; mark_all_red = mark_all_red })

-- Filter.

-- True if the table has only keys of a filter. Only a table without the key `protected` may have the key `group`.
abbrev pub has_filter_keys : Members → Bool
has_filter_keys members =
    has_known_keys (field.Number ∷ field.Handle ∷ field.Priority ∷ field.Gate ∷ field.MaxSdu ∷ field.Meter ∷ field.BlockOversize ∷ field.Protected
    ∷ keys_if_absent field.Protected (field.Group ∷ []) members) members

-- Reads a filter with its number. `is_gate`, `is_meter` and `is_filter` are true for the numbers of the plan's gates,
-- its meters and the earlier filters.
unfoldable pub read_filter_by_lookup : (ℕ → Bool) → (ℕ → Bool) → (ℕ → Bool) → ℕ → Members → Result (ℕ × FilterPlan) PlanFault
read_filter_by_lookup is_gate is_meter is_filter index members =
    let at : Field → KeyLocation = λ key. record { section = section.Filter; index = index; field = key } in do
      keys ← provided (has_filter_keys members) (fault.UnknownKey section.Filter index)
      number ← read_required (at field.Number) field.Number (number_in_range 0 LARGEST_NUMBER) members
      handle ← read_optional (at field.Handle) field.Handle (number_in_range 0 LARGEST_NUMBER) members
      priority ← read_optional (at field.Priority) field.Priority (number_in_range 0 7) members
      gate ← read_required (at field.Gate) field.Gate (known_number is_gate 0 LARGEST_NUMBER) members
      max_sdu ← read_optional (at field.MaxSdu) field.MaxSdu (number_in_range 0 65535) members
      meter ← read_optional (at field.Meter) field.Meter (known_number is_meter 0 LARGEST_NUMBER) members
      block_oversize ← read_or_default false (at field.BlockOversize) field.BlockOversize switch members
      protected ← read_or_default false (at field.Protected) field.Protected switch members
      group ← read_optional (at field.Group) field.Group (number_in_range 0 LARGEST_NUMBER) members
      own ← no_duplicate section.Filter index (is_filter number)
      Ok (number, record { handle = handle; priority = priority; gate = gate; max_sdu = max_sdu; meter = meter; block_oversize = block_oversize; protected = protected; group = group })

-- Reads a filter with its number, which no earlier filter may have. The filter may name only these gates and meters.
abbrev pub read_filter : {A : Type 0} → List (ℕ × GatePlan A) → List (ℕ × MeterPlan) → List (ℕ × FilterPlan) → ℕ → Members → Result (ℕ × FilterPlan) PlanFault
read_filter gates meters filters index members = read_filter_by_lookup (has_number gates) (has_number meters) (has_number filters) index members
