-- The reachable queues of a filter: pairs of a port and a class.
use Rattle.std.specs.Prelude.{ℕ, zero, suc, Bool, true, false, not, ◌&&◌, ◌||◌, List, [], ◌∷◌, ◌++◌, map, Option, Some, None, nat_eq, slice_index}
use Rattle.std.specs.List.{list_any, list_all}
use Rattle.std.specs.Map.{lookup}
use Rattle.bridge_gate.specs.declared.schedule.GateEntry.{GateEntry}
use Rattle.bridge_gate.specs.declared.schedule.GatePlan.{GatePlan}
use Rattle.bridge_gate.specs.declared.schedule.Schedule.{Schedule}
use Rattle.bridge_gate.specs.declared.schedule.Schedule.TheVariants.{Fixed, Cyclic, Joined}
use Rattle.bridge_ident.specs.declared.Kind.{Kind}
use Rattle.bridge_ident.specs.declared.Kind.TheVariants.{Null, Source}
use Rattle.bridge_ident.specs.declared.StreamEntry.{StreamEntry}
use Rattle.bridge_filter.specs.declared.FilterPlan.{FilterPlan}
use Rattle.bridge_forward.specs.Ports.{has_port}
use Rattle.bridge_forward.specs.Database.{Database}
use Rattle.bridge_forward.specs.Forward.{forward}
use Rattle.bridge_config.specs.declared.ports.PortPlan.{PortPlan}
use Rattle.bridge_config.specs.Model.{Plan}
use Rattle.bridge_config.specs.Rules.{find_port}

-- True if stream entries of this kind compare the destination address (null stream identification). False if they
-- compare the source address (IEEE 802.1CB-2017, 6.4).
abbrev pub is_null_kind : Kind → Bool
is_null_kind Null = true
is_null_kind Source = false

-- True if every stream entry with handle `h` compares the destination address (null stream identification); true also
-- if the handle has no entry.
abbrev pub are_null_kinds : ℕ → List StreamEntry → Bool
are_null_kinds h streams = list_all (λ e. not (nat_eq e.handle h) || is_null_kind e.kind) streams

-- True if, for some stream entry with handle `h`, a frame from the entry's port and VLAN to its address is forwarded to
-- port `q`.
abbrev pub leads_through_port : Database → ℕ → ℕ → List StreamEntry → Bool
leads_through_port db h q streams = list_any (λ e. nat_eq e.handle h && has_port (forward db e.port e.vid e.address) q) streams

-- True if frames with this optional handle may leave by port `q`. True for every port if the handle is missing or has
-- an entry that compares source addresses.
abbrev pub reaches_port : {A : Type 0} → Plan A → Option ℕ → ℕ → Bool
reaches_port p None q = true
reaches_port p (Some h) q = not (are_null_kinds h p.streams) || leads_through_port p.database h q p.streams

-- All gate entries of a stream gate's schedule, the old list's before the new list's. A fixed state counts as one
-- entry.
abbrev pub schedule_entries : {A : Type 0} → Schedule A → List GateEntry
schedule_entries (Fixed lets ipv) = record { lets = lets; ipv = ipv; octets = None } ∷ []
schedule_entries (Cyclic l) = map (λ e. e.0) l.entries
schedule_entries (Joined j) = map (λ e. e.0) j.old.entries ++ map (λ e. e.0) j.new.entries

-- The gate entries of an optional stream gate; the empty list if the gate is missing (`None`).
abbrev pub optional_entries : {A : Type 0} → Option (GatePlan A) → List GateEntry
optional_entries None = []
optional_entries (Some g) = schedule_entries g.schedule

-- The gate entries of the stream gate with number `n` in the list `gates`; the empty list if this gate is missing.
abbrev pub gate_entries : {A : Type 0} → List (ℕ × GatePlan A) → ℕ → List GateEntry
gate_entries gates n = optional_entries (lookup (nat_eq n) gates)

-- True if priority `k` equals the internal priority value `ipv`, or, if that is absent, the filter's `priority`. True
-- for every `k` if both are absent.
abbrev pub has_priority_value : Option ℕ → Option ℕ → ℕ → Bool
has_priority_value (Some ipv) priority k = nat_eq ipv k
has_priority_value None (Some n) k = nat_eq n k
has_priority_value None None k = true

-- True if gate entry `e` is open and can pass a frame so that priority `k` selects the frame's queue. `priority` is the
-- filter's.
abbrev pub gives_priority : GateEntry → Option ℕ → ℕ → Bool
gives_priority e priority k = e.lets && has_priority_value e.ipv priority k

-- True if some gate entry in the list is open and can pass a frame so that priority `k` selects the frame's queue.
-- `priority` is the filter's.
abbrev pub lets : List GateEntry → Option ℕ → ℕ → Bool
lets entries priority k = list_any (λ e. gives_priority e priority k) entries

-- True if some open entry of the stream gate of filter `f` can pass a frame so that priority `k` selects the frame's
-- queue. An entry's internal priority value, if present, replaces the filter's priority.
abbrev pub reaches_priority : {A : Type 0} → Plan A → FilterPlan → ℕ → Bool
reaches_priority p f k = lets (gate_entries p.gates f.gate) f.priority k

-- True if the function `test` is true for at least one number from 0 to `n` - 1.
abbrev pub some_number_passes : ℕ → (ℕ → Bool) → Bool
some_number_passes zero test = false
some_number_passes (suc n) test = some_number_passes n test || test n

-- True if class `c` is the port's class for some priority that frames of filter `f` can have; false if the port is
-- missing.
abbrev pub reaches_class : {A : Type 0} → Plan A → FilterPlan → Option (PortPlan A) → ℕ → Bool
reaches_class p f None c = false
reaches_class p f (Some port) c = some_number_passes 8 (λ k. reaches_priority p f k && nat_eq (slice_index port.classes k) c)

-- True if the queue of class `c` at port `q` is reachable for filter `f`, which means that its frames may enter the
-- queue. The answer depends on the plan only.
abbrev pub reaches_queue : {A : Type 0} → Plan A → FilterPlan → ℕ → ℕ → Bool
reaches_queue p f q c = reaches_port p f.handle q && reaches_class p f (find_port p.ports q) c
