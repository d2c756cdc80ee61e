-- Faults of a network: three tests of each link, then four of each hop, in order.
use Rattle.std.specs.Prelude.{ℕ, ◌+◌, Bool, true, false, not, ◌&&◌, ◌||◌, nat_eq, List, [], ◌∷◌, length, take, Vec}
use Rattle.std.specs.Prelude.{Option, Some, None, option_map, is_some, slice_get, if◌then◌else◌}
use Rattle.std.specs.List.{list_any}
use Rattle.bridge_frame.specs.declared.Speed.{Speed}
use Rattle.bridge_frame.specs.declared.Speed.TheVariants as speed
use Rattle.bridge_ident.specs.declared.StreamEntry.{StreamEntry}
use Rattle.bridge_filter.specs.declared.FilterPlan.{FilterPlan}
use Rattle.bridge_config.specs.declared.ports.PortPlan.{PortPlan}
use Rattle.bridge_config.specs.Model.{Plan}
use Rattle.bridge_config.specs.Rules.{find_port}
use Rattle.bridge_check.specs.Faults.{first_among_numbers}
use Rattle.net_model.specs.declared.links.BridgePort.{BridgePort}
use Rattle.net_model.specs.declared.links.Link.{Link}
use Rattle.net_model.specs.declared.links.StreamHop.{StreamHop}
use Rattle.net_model.specs.declared.sending_port.FoundFrames.{FoundFrames}
use Rattle.net_model.specs.declared.sending_port.FrameQuery.{FrameQuery}
use Rattle.net_model.specs.declared.sending_port.FrameQuery.TheVariants as question
use Rattle.net_model.specs.declared.fault.NetworkFault.{NetworkFault}
use Rattle.net_model.specs.declared.fault.NetworkFault.TheVariants as fault
use Rattle.net_model.specs.declared.network_tests.LinkTest.{LinkTest}
use Rattle.net_model.specs.declared.network_tests.LinkTest.TheVariants as link_test
use Rattle.net_model.specs.declared.network_tests.HopTest.{HopTest}
use Rattle.net_model.specs.declared.network_tests.HopTest.TheVariants as hop_test
use Rattle.net_model.specs.ClosedTest.{has_hop, is_protected}
use Rattle.net_model.specs.NetworkParts.{NetworkParts, peer_port, stream_value}
use Rattle.net_model.specs.FrameSearch.{find_first, first_taken_over_link}

-- Returns the network fault `e` if the test result is false, and `None` if the test result is true.
abbrev pub fault_unless : Bool → NetworkFault → Option NetworkFault
fault_unless true e = None
fault_unless false e = Some e

-- The result of function `tell` for an optional item; `None` if the item is missing.
abbrev pub if_some : {X Y : Type 0} → (X → Option Y) → Option X → Option Y
if_some tell None = None
if_some tell (Some x) = tell x

-- The first value that `tell index item` returns for the items of list `xs`, in order, with indexes from 0. `None` if
-- every call returns `None`.
abbrev pub first_by_index : {X Y : Type 0} → (ℕ → X → Option Y) → List X → Option Y
first_by_index tell xs = first_among_numbers (length xs) (λ i. if_some (tell i) (slice_get xs i))

-- LINKS

-- The port with number `q` of an optional plan; `None` if the plan or the port is missing.
abbrev pub plan_port : {A : Type 0} → Option (Plan A) → ℕ → Option (PortPlan A)
plan_port None q = None
plan_port (Some p) q = find_port p.ports q

-- The port that link end `e` names in the plans; `None` if the bridge or the port is missing.
abbrev pub end_port : {A : Type 0} → List (Plan A) → BridgePort → Option (PortPlan A)
end_port plans e = plan_port (slice_get plans e.bridge) e.port

-- True if some link in the list has link end `e` as one of its two ends.
abbrev pub is_linked : List Link → BridgePort → Bool
is_linked links e = is_some (peer_port links e.bridge e.port)

-- True if the link ends `a` and `b` are the same port of the same bridge.
abbrev pub is_same_port : BridgePort → BridgePort → Bool
is_same_port a b = nat_eq a.bridge b.bridge && nat_eq a.port b.port

-- The first end of link `l` whose port has a link in the list `before`. `None` if neither end is linked. If `l` links a
-- port with itself, the end `l.other` counts as linked.
abbrev pub doubly_linked_end : List Link → Link → Option BridgePort
doubly_linked_end before l =
    if is_linked before l.one then Some l.one
    else if is_linked before l.other || is_same_port l.one l.other then Some l.other
    else None

-- A link speed as a number of Mb/s, from 10 to 10,000 Mb/s.
abbrev pub speed_mbps : Speed → ℕ
speed_mbps speed.Mbps10 = 10
speed_mbps speed.Mbps100 = 100
speed_mbps speed.Mbps1000 = 1000
speed_mbps speed.Mbps2500 = 2500
speed_mbps speed.Mbps10000 = 10000

-- True if two optional ports have equal link speeds, or if at least one of the ports is missing.
abbrev pub is_one_speed : {A : Type 0} → Option (PortPlan A) → Option (PortPlan A) → Bool
is_one_speed (Some a) (Some b) = nat_eq (speed_mbps a.speed) (speed_mbps b.speed)
is_one_speed a b = true

-- The fault of test `test` for link `l` with index `i`. `None` if the link passes the test. The fault counts links from
-- 1.
--
-- Tests: both ends exist, no end has an earlier link, the speeds are equal.
abbrev pub link_test_fault : {A : Type 0} → NetworkParts A → LinkTest → ℕ → Link → Option NetworkFault
link_test_fault n link_test.PortsExist i l =
    fault_unless (is_some (end_port n.plans l.one) && is_some (end_port n.plans l.other)) (fault.Unresolved (i + 1))
link_test_fault n link_test.SingleLink i l = option_map (fault.LinkTwice (i + 1)) (doubly_linked_end (take i n.links) l)
link_test_fault n link_test.SameSpeed i l =
    fault_unless (is_one_speed (end_port n.plans l.one) (end_port n.plans l.other)) (fault.SpeedsDiffer (i + 1))

-- The first fault that the link test `test` finds among all links of the network, in list order. `None` if every link
-- passes the test.
abbrev pub link_fault : {A : Type 0} → NetworkParts A → LinkTest → Option NetworkFault
link_fault n test = first_by_index (link_test_fault n test) n.links

-- HOPS

-- True if the optional plan is present and has a protected filter with number `m`.
abbrev pub is_protected_hop : {A : Type 0} → Option (Plan A) → ℕ → Bool
is_protected_hop None m = false
is_protected_hop (Some p) m = is_protected p m

-- True if the list `hops` contains hop `h`; only bridge index and filter number are compared.
abbrev pub lists : List StreamHop → StreamHop → Bool
lists hops h = has_hop (stream_value hops) h.bridge h.filter

-- True if hop `h` is in one of the streams in the list `streams`, or in the list `hops`.
abbrev pub is_repeated_hop : {A : Type 0} → List (Vec StreamHop A) → List StreamHop → StreamHop → Bool
is_repeated_hop {A} streams hops h = list_any (λ (s : Vec StreamHop A). lists s.items h) streams || lists hops h

-- The stream handle of protected filter `m` in the list; `None` if the filter is missing, unprotected, or names no
-- handle.
abbrev pub protected_handle : List (ℕ × FilterPlan) → ℕ → Option ℕ
protected_handle [] m = None
protected_handle (f ∷ fs) m = if nat_eq f.0 m && f.1.protected then f.1.handle else protected_handle fs m

-- An example of stray or own frames (kind `w`) that hop `h` may accept over the link of the optional port. `None` if
-- the search finds no frames, or if the port is missing.
abbrev pub first_taken_at_port : {A : Type 0} → FrameQuery → NetworkParts A → List StreamHop → StreamHop → Plan A → Option (PortPlan A) → Option FoundFrames
first_taken_at_port w n hops h next None = None
first_taken_at_port w n hops h next (Some on) = first_taken_over_link w n.plans (stream_value hops) (peer_port n.links h.bridge on.number) next on h.filter

-- The port `q` and an example of stray or own frames (kind `w`) that hop `h` may accept over its link. `None` if the
-- hop can't accept any over this link.
abbrev pub first_taken_at_port_number : {A : Type 0} → FrameQuery → NetworkParts A → List StreamHop → StreamHop → Plan A → ℕ → Option (ℕ × FoundFrames)
first_taken_at_port_number w n hops h next q = option_map (λ (f : FoundFrames). (q, f)) (first_taken_at_port w n hops h next (find_port next.ports q))

-- The lowest port at which hop `h` may accept stray or own frames (kind `w`) over a link, with an example. `None` if no
-- port can. Own frames belong to a hop of the stream.
abbrev pub first_taken_by_port : {A : Type 0} → FrameQuery → NetworkParts A → List StreamHop → StreamHop → Plan A → Option (ℕ × FoundFrames)
first_taken_by_port w n hops h next = first_among_numbers 16 (λ j. first_taken_at_port_number w n hops h next (j + 1))

-- The fault NotClosed for hop `h`, with index `k` in stream `i`. It names bridge, port, the filter of the stray frames `x`, and their
-- ingress port at the sending bridge.
abbrev pub not_closed : ℕ → ℕ → StreamHop → ℕ × FoundFrames → NetworkFault
not_closed i k h x = fault.NotClosed (i + 1) (k + 1) h.bridge x.0 x.1.filter x.1.from

-- True if plan `p` has a stream entry with handle `m` on port `q`.
abbrev pub has_entry : {A : Type 0} → Plan A → ℕ → ℕ → Bool
has_entry p q m = list_any (λ (e : StreamEntry). nat_eq e.port q && nat_eq e.handle m) p.streams

-- True if port `on` of bridge `b` has no link, and plan `p` has a stream entry with handle `m` on this port.
abbrev pub is_entry_port : {A : Type 0} → List Link → ℕ → Plan A → ℕ → PortPlan A → Bool
is_entry_port links b p m on = not (is_some (peer_port links b on.number)) && has_entry p on.number m

-- True if some open port (a port without link) of bridge `b` with plan `p` has a stream entry with handle `m`.
abbrev pub has_entry_port : {A : Type 0} → List Link → ℕ → Plan A → ℕ → Bool
has_entry_port links b p m = list_any (is_entry_port links b p m) p.ports

-- True if frames of the stream can arrive at hop `h`. If its index `k` is 0, an open port must have an entry of handle `m`; otherwise they
-- arrive over a link.
abbrev pub is_reached : {A : Type 0} → NetworkParts A → List StreamHop → ℕ → StreamHop → Plan A → ℕ → Bool
is_reached n hops k h next m =
    if nat_eq k 0 then has_entry_port n.links h.bridge next m else is_some (first_taken_by_port question.Own n hops h next)

-- The fault that `test` (Closed or Fed) finds for hop `h`, with index `k` in stream `i`. `None` if the hop passes the
-- test.
--
-- The plan of the hop's bridge is `next`, the handle of its filter `m`.
abbrev pub frames_test_fault : {A : Type 0} → NetworkParts A → HopTest → ℕ → List StreamHop → ℕ → StreamHop → Plan A → ℕ → Option NetworkFault
frames_test_fault n hop_test.Closed i hops k h next m = option_map (not_closed i k h) (first_taken_by_port question.Strays n hops h next)
frames_test_fault n hop_test.Fed i hops k h next m = fault_unless (is_reached n hops k h next m) (fault.NotFed (i + 1) (k + 1))
frames_test_fault n hop_test.Protected i hops k h next m = None
frames_test_fault n hop_test.Unique i hops k h next m = None

-- The fault of `test` for hop `h`, index `k` in stream `i`, if the hop's bridge exists and the protected filter names a
-- handle. Otherwise `None`.
abbrev pub hop_test_fault_by_handle : {A : Type 0} → NetworkParts A → HopTest → ℕ → List StreamHop → ℕ → StreamHop → Option (Plan A) → Option NetworkFault
hop_test_fault_by_handle n test i hops k h None = None
hop_test_fault_by_handle n test i hops k h (Some next) = if_some (frames_test_fault n test i hops k h next) (protected_handle next.filters h.filter)

-- The fault that the hop test `test` finds for hop `h`, which has index `k` in stream `i`. `None` if the hop passes the
-- test.
--
-- Both indexes start at 0, and the numbers in the fault at 1.
abbrev pub hop_test_fault : {A : Type 0} → NetworkParts A → HopTest → ℕ → List StreamHop → ℕ → StreamHop → Option NetworkFault
hop_test_fault n hop_test.Protected i hops k h =
    fault_unless (is_protected_hop (slice_get n.plans h.bridge) h.filter) (fault.NotProtected (i + 1) (k + 1))
hop_test_fault n hop_test.Unique i hops k h =
    fault_unless (not (is_repeated_hop (take i n.streams) (take k hops) h)) (fault.HopTwice (i + 1) (k + 1))
hop_test_fault n hop_test.Closed i hops k h = hop_test_fault_by_handle n hop_test.Closed i hops k h (slice_get n.plans h.bridge)
hop_test_fault n hop_test.Fed i hops k h = hop_test_fault_by_handle n hop_test.Fed i hops k h (slice_get n.plans h.bridge)

-- The first fault that the hop test `test` finds among the hops of the stream with index `i`, in list order. `None` if
-- every hop passes the test.
abbrev pub stream_test_fault : {A : Type 0} → NetworkParts A → HopTest → ℕ → List StreamHop → Option NetworkFault
stream_test_fault n test i hops = first_by_index (hop_test_fault n test i hops) hops

-- The first fault that the hop test `test` finds in the network, by stream and then by hop, both in list order. `None`
-- if every hop passes the test.
abbrev pub hop_fault : {A : Type 0} → NetworkParts A → HopTest → Option NetworkFault
hop_fault {A} n test = first_by_index (λ i (s : Vec StreamHop A). stream_test_fault n test i s.items) n.streams

-- The first network fault in a list of optional faults; `None` if every item is `None`.
abbrev pub first_of_faults : List (Option NetworkFault) → Option NetworkFault
first_of_faults faults = find_first (λ (e : Option NetworkFault). e) faults

-- The first fault of the hop tests in order (protected, listed once, closed, fed), each over all hops of all streams.
-- `None` if every hop passes all four tests.
abbrev pub first_hop_fault : {A : Type 0} → NetworkParts A → Option NetworkFault
first_hop_fault n = first_of_faults (
    hop_fault n hop_test.Protected
    ∷ hop_fault n hop_test.Unique
    ∷ hop_fault n hop_test.Closed
    ∷ hop_fault n hop_test.Fed
    ∷ [])

-- The fault that `net check` reports for the network. `None` if the network passes all tests. The three link tests come
-- before the four hop tests.
abbrev pub first_fault : {A : Type 0} → NetworkParts A → Option NetworkFault
first_fault n = first_of_faults (
    link_fault n link_test.PortsExist
    ∷ link_fault n link_test.SingleLink
    ∷ link_fault n link_test.SameSpeed
    ∷ first_hop_fault n
    ∷ [])
