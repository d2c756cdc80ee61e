-- Rules that the instances of each section of a plan obey.
use Rattle.std.specs.Prelude.{◌≡◌, ◌≤◌, ◌<◌, ℕ, Bool, true, ◌&&◌, IsTrue, List, [], ◌∷◌, length, nat_eq, map, All, Option, Some, None, if◌then◌else◌}
use Rattle.std.specs.List.{list_any}
use Rattle.std.specs.List.Sorted.{IsPermutation, IsStrictlyIncreasing}
use Rattle.std.specs.Option.{ForSome}
use Rattle.bridge_limits.specs.declared.TheConstants.{END_OF_TIME}
use Rattle.bridge_limits.specs.Members.{has_no_duplicate}
use Rattle.bridge_cycle.specs.Cyclic.{Cyclic, IsLawful}
use Rattle.bridge_cycle.specs.declared.gate_control_lists.Egress.{Egress}
use Rattle.bridge_cycle.specs.declared.gate_control_lists.Egress.TheVariants as egress
use Rattle.bridge_meter.specs.declared.MeterPlan.{MeterPlan}
use Rattle.bridge_gate.specs.declared.schedule.GateEntry.{GateEntry}
use Rattle.bridge_gate.specs.declared.schedule.GatePlan.{GatePlan}
use Rattle.bridge_gate.specs.Schedules as schedules
use Rattle.bridge_ident.specs.declared.StreamEntry.{StreamEntry}
use Rattle.bridge_filter.specs.declared.FilterPlan.{FilterPlan}
use Rattle.bridge_filter.specs.Plans.{are_numbers_distinct, have_instances, all_have_priorities, all_within_limits}
use Rattle.std.specs.Str.{bytes_eq}
use Rattle.bridge_forward.specs.declared.Vlan.{Vlan}
use Rattle.bridge_forward.specs.declared.StaticEntry.{StaticEntry}
use Rattle.bridge_schema.specs.Readers.{are_numbers_in_range, is_subset, add_to_set}
use Rattle.bridge_config.specs.declared.ports.PortPlan.{PortPlan}
use Rattle.bridge_config.specs.Model.{Policing, Plan}

-- Holds if the list `ns` contains exactly the numbers of the list `all`, each once, in strictly increasing order.
pub record IsSortedCopy (all ns : List ℕ) : Type 0 where
  pub rises : IsStrictlyIncreasing ns
  pub same : IsPermutation all ns

-- Holds if the time of the schedule change, if there is one, is before END_OF_TIME.
abbrev pub IsChangeInTime : Option ℕ → Type 0
IsChangeInTime change = ForSome change (λ t. t < END_OF_TIME)

-- True if at least one port of the list has the number `n`.
abbrev pub has_port : {A : Type 0} → List (PortPlan A) → ℕ → Bool
has_port ports n = list_any (λ p. nat_eq p.number n) ports

-- First port of the list with the number `n`; `None` if no port has this number.
abbrev pub find_port : {A : Type 0} → List (PortPlan A) → ℕ → Option (PortPlan A)
find_port [] n = None
find_port (p ∷ ps) n = if nat_eq p.number n then Some p else find_port ps n

-- Holds if the gate control list is valid, and each gate state is a number below 256; bit c of a state opens class c.
pub record IsPortList (l : Cyclic ℕ) : Type 0 where
  pub lawful : IsLawful l
  pub classes : All (λ e. e.0 < 256) l.entries

-- Holds if the property `P` holds for each gate control list of the port: the only list, or both the old and the new
-- list.
abbrev pub HoldsOfLists : {A : Type 0} → (Cyclic ℕ → Type 0) → Egress A → Type 0
HoldsOfLists P (egress.Cyclic l) = P l
HoldsOfLists P (egress.Joined j) = P j.old × P j.new

-- Holds if the port's number, VLAN, priority, eight classes, eight queue capacities and gate control lists are within
-- the bounds that the fields state.
pub record IsPort {A : Type 0} (p : PortPlan A) : Type 0 where
  pub number_from : 1 ≤ p.number
  pub number_to : p.number ≤ 16
  pub vid_from : 1 ≤ p.vid
  pub vid_to : p.vid ≤ 4094
  pub priority : p.priority ≤ 7
  pub classes : are_numbers_in_range 0 7 p.classes ≡ true
  pub eight_classes : length p.classes ≡ 8
  pub rooms : are_numbers_in_range 1 4096 p.rooms ≡ true
  pub eight_rooms : length p.rooms ≡ 8
  pub list : ForSome p.list (HoldsOfLists IsPortList)

-- Holds if each port follows IsPort, and no two ports have the same number.
pub record ArePorts {A : Type 0} (ports : List (PortPlan A)) : Type 0 where
  pub each : All IsPort ports
  pub own : has_no_duplicate (λ p q. nat_eq p.number q.number) ports ≡ true

-- Set of the numbers of all ports in the list; bit n - 1 is set if a port has number n.
abbrev pub port_set : {A : Type 0} → List (PortPlan A) → ℕ
port_set ports = add_to_set 1 0 (map (λ p. p.number) ports)

-- True if at least one VLAN of the list has the identifier `n`.
abbrev pub has_vlan : List Vlan → ℕ → Bool
has_vlan vlans n = list_any (λ v. nat_eq v.vid n) vlans

-- Holds if the VLAN identifier is 1 to 4094, and every member port is in `all`, the set of the plan's ports.
pub record IsVlan (all : ℕ) (v : Vlan) : Type 0 where
  pub vid_from : 1 ≤ v.vid
  pub vid_to : v.vid ≤ 4094
  pub members : is_subset v.members all ≡ true

-- Holds if each VLAN follows IsVlan for `all`, the set of the plan's ports, and no two VLANs have the same
-- identifier.
pub record AreVlans (all : ℕ) (vlans : List Vlan) : Type 0 where
  pub each : All (IsVlan all) vlans
  pub own : has_no_duplicate (λ v w. nat_eq v.vid w.vid) vlans ≡ true

-- True if a static entry has this VLAN and this address.
abbrev pub has_static : List StaticEntry → ℕ → List ℕ → Bool
has_static statics vid address = list_any (λ s. nat_eq s.vid vid && bytes_eq s.address address) statics

-- Holds if the static entry has a VLAN of the plan, an address of six octets, and only ports of the plan (the set
-- `all`).
pub record IsStatic (all : ℕ) (vlans : List Vlan) (s : StaticEntry) : Type 0 where
  pub vlan : has_vlan vlans s.vid ≡ true
  pub address : length s.address ≡ 6
  pub ports : is_subset s.ports all ≡ true

-- Holds if each static entry follows IsStatic, and no two entries have the same VLAN and the same address.
pub record AreStatics (all : ℕ) (vlans : List Vlan) (statics : List StaticEntry) : Type 0 where
  pub each : All (IsStatic all vlans) statics
  pub own : has_no_duplicate (λ s t. nat_eq s.vid t.vid && bytes_eq s.address t.address) statics ≡ true

-- Holds if the stream entry has a port of the plan, a VLAN identifier from 1 to 4094, and an address of six octets.
pub record IsStream {A : Type 0} (ports : List (PortPlan A)) (s : StreamEntry) : Type 0 where
  pub port_from : 1 ≤ s.port
  pub port_to : s.port ≤ 16
  pub port : has_port ports s.port ≡ true
  pub vid_from : 1 ≤ s.vid
  pub vid_to : s.vid ≤ 4094
  pub address : length s.address ≡ 6

-- Holds if the stream gate's list is valid, and its internal priority values are 0 to 7 or absent.
pub record IsGateList (l : Cyclic GateEntry) : Type 0 where
  pub lawful : IsLawful l
  pub priorities : All (λ e. schedules.is_valid_priority e.0.ipv ≡ true) l.entries

-- Holds if the stream gates have different numbers, valid schedules, and internal priority values that are absent
-- (`None`) or at most 7.
pub record AreGates {A : Type 0} (gates : List (ℕ × GatePlan A)) : Type 0 where
  pub own : IsTrue (are_numbers_distinct gates)
  pub priorities : IsTrue (all_have_priorities gates)
  pub lawful : All (λ g. schedules.IsLawful g.1.schedule) gates

-- Holds if the meters have different numbers, rates up to 100 Gbit/s and burst sizes below 2^32 octets.
pub record AreMeters (meters : List (ℕ × MeterPlan)) : Type 0 where
  pub own : IsTrue (are_numbers_distinct meters)
  pub limits : IsTrue (all_within_limits meters)

-- Holds if the filter's priority is at most 7, and its maximum SDU is at most 65,535 octets; an absent value (`None`)
-- is allowed.
pub record IsFilter (f : ℕ × FilterPlan) : Type 0 where
  pub priority : ForSome f.1.priority (λ n. n ≤ 7)
  pub max_sdu : ForSome f.1.max_sdu (λ n. n ≤ 65535)

-- Holds if the filters follow IsFilter and have different numbers, and the plan has every gate and meter that a
-- filter names.
pub record AreFilters {A : Type 0} (gates : List (ℕ × GatePlan A)) (meters : List (ℕ × MeterPlan)) (filters : List (ℕ × FilterPlan)) : Type 0 where
  pub each : All IsFilter filters
  pub own : IsTrue (are_numbers_distinct filters)
  pub instances : IsTrue (have_instances filters gates meters)

-- Holds if the gates, meters and filters follow their rules, and there are at most 1,024 of each.
pub record IsPolicing {A : Type 0} (p : Policing A) : Type 0 where
  pub few_gates : length p.gates ≤ 1024
  pub few_meters : length p.meters ≤ 1024
  pub few_filters : length p.filters ≤ 1024
  pub gates : AreGates p.gates
  pub meters : AreMeters p.meters
  pub filters : AreFilters p.gates p.meters p.filters

-- Holds if the plan has 1 to 16 ports, no section has more instances than its limit, and each section follows its
-- rules.
pub record IsPlan {A : Type 0} (p : Plan A) : Type 0 where
  pub some_port : 0 < length p.ports
  pub few_ports : length p.ports ≤ 16
  pub few_vlans : length p.database.vlans ≤ 4094
  pub few_statics : length p.database.statics ≤ 4096
  pub few_streams : length p.streams ≤ 4096
  pub few_gates : length p.gates ≤ 1024
  pub few_meters : length p.meters ≤ 1024
  pub few_filters : length p.filters ≤ 1024
  pub ports : ArePorts p.ports
  pub vlans : AreVlans (port_set p.ports) p.database.vlans
  pub statics : AreStatics (port_set p.ports) p.database.vlans p.database.statics
  pub streams : All (IsStream p.ports) p.streams
  pub gates : AreGates p.gates
  pub meters : AreMeters p.meters
  pub filters : AreFilters p.gates p.meters p.filters
