-- Streams of accepted networks in complete runs: the frames of a hop, their paths, and delivery along a path.
use Rattle.std.specs.Prelude.{◌≡◌, ℕ, true, ◌+◌, ◌<◌, ◌≤◌, List, [], ◌∷◌, Some, None, Vec, map, nat_eq, slice_get}
use Rattle.std.specs.Map.{lookup}
use Rattle.bridge_limits.specs.Members.{IsMember}
use Rattle.bridge_capture.specs.Grammar.{CapturedFrame}
use Rattle.bridge_filter.specs.declared.FilterInput.{FilterInput}
use Rattle.bridge_filter.specs.declared.FilterPlan.{FilterPlan}
use Rattle.bridge_forward.specs.Ports.{has_port}
use Rattle.bridge_port.specs.Schedule.{Copy}
use Rattle.bridge_config.specs.declared.ports.PortPlan.{PortPlan}
use Rattle.bridge_config.specs.Model.{Plan}
use Rattle.bridge_config.specs.Rules.{find_port}
use Rattle.bridge_check.specs.Reach.{are_null_kinds, reaches_queue}
use Rattle.bridge_semantics.specs.declared.destination.Destination.TheVariants.{Forwarded}
use Rattle.bridge_semantics.specs.Events.{Arrival, Arrived, arrival, frame_destination, own_events}
use Rattle.bridge_semantics.specs.Merge.{Input, capture_inputs, input_events}
use Rattle.bridge_semantics.specs.Offers.{CarriedFrame}
use Rattle.bridge_bounds.specs.Latency.{IsMultiple}
use Rattle.bridge_bounds.specs.declared.traffic.Traffic.{Traffic}
use Rattle.bridge_bounds.specs.Traffic.{KeepsTraffic}
use Rattle.net_model.specs.declared.links.Link.{Link}
use Rattle.net_model.specs.declared.links.StreamHop.{StreamHop}
use Rattle.net_model.specs.Checked.{IsChecked}
use Rattle.net_model.specs.Faults.{first_fault, protected_handle}
use Rattle.net_model.specs.NetworkParts.{NetworkParts, link_value, network_value}
use Rattle.net_model.specs.Networks.{Sender, sender}
use Rattle.net_latency.specs.declared.latency.StreamLatency.{StreamLatency}
use Rattle.net_latency.specs.declared.tree.HopQueue.{HopQueue}
use Rattle.net_latency.specs.Entering.{is_talker_port}
use Rattle.net_latency.specs.NextHop.{hop_at_bridge, next_hop}
use Rattle.net_latency.specs.Phased.{IsCommand, IsRouteOfStream, stream_hop}
use Rattle.net_latency.specs.Ways.{IsRoute, RouteHop, hop_end, last_hop}

-- ACCEPTED NETWORKS

-- Holds if `net check` accepts the network: all plans, links and streams pass its tests.
pub record IsAcceptedNetwork {A : Type 0} (n : NetworkParts A) : Type 0 where
  pub checked : IsChecked n
  pub without_fault : first_fault n ≡ None

-- Holds if the network has a stream with these hops.
abbrev pub IsStreamOfNetwork : {A : Type 0} → NetworkParts A → List StreamHop → Type 0
IsStreamOfNetwork {A} n hops = (s : Vec StreamHop A) × IsMember s n.streams × (s.items ≡ hops)

-- Holds if `queues` has each queue that the protected filter of one of the hops can reach.
abbrev pub HasReachableQueues : {A : Type 0} → List (Plan A) → List StreamHop → List HopQueue → Type 0
HasReachableQueues {A} plans hops queues =
    (h : StreamHop) (p : Plan A) (f : FilterPlan) (q c : ℕ)
    → IsMember h hops
    → slice_get plans h.bridge ≡ Some p
    → lookup (nat_eq h.filter) p.filters ≡ Some f
    → f.protected ≡ true
    → 1 ≤ q
    → q ≤ 16
    → c < 8
    → reaches_queue p f q c ≡ true
    → IsMember (record { hop = h; port = q; class = c }) queues

-- Holds if, for each bridge, all inputs in `commands` are commands.
abbrev pub AreCommands : (ℕ → List Input) → Type 0
AreCommands commands = (b : ℕ) (x : Input) → IsMember x (commands b) → IsCommand x

-- FRAMES OF A HOP

-- Holds if frame `a` arrives at the bridge of hop `h`, and the bridge assigns it to the hop's filter.
pub record IsFrameOfHop {A : Type 0} (plans : List (Plan A)) (inputs : ℕ → List Input) (h : StreamHop) (a : Arrival) : Type 0 where
  pub plan : Plan A
  pub filter : FilterPlan
  pub at : slice_get plans h.bridge ≡ Some plan
  pub found : lookup (nat_eq h.filter) plan.filters ≡ Some filter
  pub own : IsMember (Arrived a) (own_events plan h.filter filter (input_events (inputs h.bridge)))

-- Holds if the frames that the filter of hop `h` receives keep the traffic.
abbrev pub KeepsTrafficOfHop : {A : Type 0} → List (Plan A) → (ℕ → List Input) → Traffic → StreamHop → Type 0
KeepsTrafficOfHop {A} plans inputs t h =
    (p : Plan A) (f : FilterPlan)
    → slice_get plans h.bridge ≡ Some p
    → lookup (nat_eq h.filter) p.filters ≡ Some f
    → KeepsTraffic t (own_events p h.filter f (input_events (inputs h.bridge)))

-- Holds if `q` is the talker's port of hop `h` (`is_talker_port`), and the frames of the hop's filter that arrive there keep the traffic.
pub record KeepsTalkerTraffic {A : Type 0} (n : NetworkParts A) (captures : ℕ → ℕ → List CapturedFrame) (t : Traffic) (h : StreamHop) (q : ℕ)
    : Type 0 where
  pub plan : Plan A
  pub filter : FilterPlan
  pub handle : ℕ
  pub at : slice_get n.plans h.bridge ≡ Some plan
  pub found : lookup (nat_eq h.filter) plan.filters ≡ Some filter
  pub named : protected_handle plan.filters h.filter ≡ Some handle
  pub is_port : is_talker_port n.links h.bridge plan handle plan.ports q ≡ true
  pub keeps : KeepsTraffic t (own_events plan h.filter filter (input_events (capture_inputs q (captures h.bridge q))))

-- THE PATH OF A FRAME

-- Holds if a bridge with plan `p` forwards a frame of `octets` and length `len` from port `r` by port `q`. This doesn't depend on the
-- arrival time.
pub record IsForwardedByPort {A : Type 0} (p : Plan A) (octets : List ℕ) (len r q : ℕ) : Type 0 where
  pub ports : ℕ
  pub input : FilterInput
  pub out : PortPlan A
  pub is : frame_destination p (arrival 0 r octets len) ≡ Forwarded ports input
  pub goes : has_port ports q ≡ true
  pub at : find_port p.ports q ≡ Some out

-- Holds if bridge `b` forwards a frame of `octets` and length `len` from port `r` by port `q`. The bridges of the next hops forward it by
-- the ports in the list, in order.
--
-- The last of these ports leads to no hop.
--
-- The last of these ports leads to no hop.
abbrev pub IsForwardedAlong : {A : Type 0} → List (Plan A) → List Link → List StreamHop → List ℕ → ℕ → ℕ → ℕ → ℕ → List ℕ → Type 0
IsForwardedAlong {A} plans links hops octets len b r q [] =
    (p : Plan A) × (slice_get plans b ≡ Some p) × IsForwardedByPort p octets len r q × (next_hop links hops b q ≡ None)
IsForwardedAlong {A} plans links hops octets len b r q (k ∷ more) =
    (p : Plan A) × (slice_get plans b ≡ Some p) × IsForwardedByPort p octets len r q
    × (s : Sender) × (sender (map link_value links) b q ≡ Some s)
    × (h : StreamHop) × (hop_at_bridge hops s.from.bridge ≡ Some h)
    × IsForwardedAlong plans links hops octets len s.from.bridge s.from.port k more

-- Holds if all stream entries with the handle of a hop's filter compare the destination address, at each hop.
abbrev pub CompareDestinations : {A : Type 0} → List (Plan A) → List StreamHop → Type 0
CompareDestinations {A} plans hops =
    (h : StreamHop) (p : Plan A) (handle : ℕ)
    → IsMember h hops
    → slice_get plans h.bridge ≡ Some p
    → protected_handle p.filters h.filter ≡ Some handle
    → are_null_kinds handle p.streams ≡ true

-- Holds if the bridges forward frame `a` of hop `h` along some path.
pub record HasPath {A : Type 0} (n : NetworkParts A) (hops : List StreamHop) (h : StreamHop) (a : Arrival) : Type 0 where
  pub port : ℕ
  pub ports : List ℕ
  pub along : IsForwardedAlong n.plans n.links hops a.octets a.len h.bridge a.port port ports

-- Holds if the copy of route hop `leg` is at port `q`, with the octets and the length of the frame.
pub record CarriesFrame {A : Type 0} (octets : List ℕ) (len q : ℕ) (leg : RouteHop A) : Type 0 where
  pub port : leg.port ≡ q
  pub octets_are : leg.copy.item.octets ≡ octets
  pub len_is : leg.copy.item.len ≡ len

-- Holds if the route follows the path of ports `q ∷ ports`, with a copy of the frame (`octets` and length `len`) at each hop.
abbrev pub FollowsPath : {A : Type 0} → List ℕ → ℕ → RouteHop A → List (ℕ × RouteHop A) → ℕ → List ℕ → Type 0
FollowsPath octets len leg [] q [] = CarriesFrame octets len q leg
FollowsPath octets len leg (x ∷ more) q (k ∷ ports) = CarriesFrame octets len q leg × FollowsPath octets len x.1 more k ports
FollowsPath octets len leg more q ports = ⊥

-- Holds if the copies of the route leave its hops through the ports `q ∷ ports`, hop by hop.
abbrev pub HasPorts : {A : Type 0} → RouteHop A → List (ℕ × RouteHop A) → ℕ → List ℕ → Type 0
HasPorts leg [] q [] = leg.port ≡ q
HasPorts leg (x ∷ more) q (k ∷ ports) = (leg.port ≡ q) × HasPorts x.1 more k ports
HasPorts leg more q ports = ⊥

-- Holds if two routes have the same copies, hop by hop.
abbrev pub HaveSameCopies : {A : Type 0} → RouteHop A → List (ℕ × RouteHop A) → RouteHop A → List (ℕ × RouteHop A) → Type 0
HaveSameCopies x [] y [] = x.copy ≡ y.copy
HaveSameCopies x (v ∷ vs) y (w ∷ ws) = (x.copy ≡ y.copy) × HaveSameCopies v.1 vs w.1 ws
HaveSameCopies x vs y ws = ⊥

-- Holds if a frame that arrives at time `at` and ends its last transmission at time `end` keeps the delays and phases `r`. The phases count
-- from the start of some period.
pub record IsWithinStreamLatency (period at end : ℕ) (r : StreamLatency) : Type 0 where
  pub best : at + r.best ≤ end
  pub worst : end ≤ at + r.worst
  pub period_start : ℕ
  pub multiple : IsMultiple period period_start
  pub from : r.phases.from + period_start ≤ end
  pub to : end ≤ r.phases.to + period_start

-- Holds if the run has exactly one route of frame `a` from hop `first` through the ports `q ∷ ports`. This route keeps
-- the stream's delays `r`.
pub record IsDeliveredAlong {A : Type 0} (n : NetworkParts A) (hops : List StreamHop) (queues : List HopQueue)
    (lists : ℕ → ℕ → List (Copy CarriedFrame)) (t : Traffic) (r : StreamLatency) (first : StreamHop) (a : Arrival) (q : ℕ)
    (ports : List ℕ) : Type 0 where
  pub leg : RouteHop A
  pub more : List (ℕ × RouteHop A)
  pub route : IsRoute (network_value n) lists leg more
  pub of_stream : IsRouteOfStream n.links hops queues leg more
  pub begins : stream_hop leg ≡ first
  pub arrives : leg.copy.at ≡ a.at
  pub path : FollowsPath a.octets a.len leg more q ports
  pub delays : IsWithinStreamLatency t.period a.at (hop_end (last_hop leg more)) r
  pub only : (x : RouteHop A) (xs : List (ℕ × RouteHop A)) → IsRoute (network_value n) lists x xs → IsRouteOfStream n.links hops queues x xs
      → stream_hop x ≡ first → x.copy.at ≡ a.at → HasPorts x xs q ports → HaveSameCopies leg more x xs
