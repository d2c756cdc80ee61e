-- The path of a talker's frame, hop by hop.
use Rattle.std.proofs.Common.{◌≡◌, ℕ, zero, suc, true, ◌&&◌, List, [], ◌∷◌, map, Option, Some, None, nat_eq, refl, sym, ap, ◌∙◌, subst}
use Rattle.std.specs.Prelude.{option_map, slice_get}
use Rattle.std.proofs.lemmas.Bool.{and_from, false≢true}
use Rattle.bridge_limits.proofs.Members as members
use Rattle.bridge_limits.proofs.Options.{some_is_none}
use Rattle.bridge_limits.proofs.Orders.{same_eq}
use Rattle.bridge_capture.specs.Grammar.{CapturedFrame}
use Rattle.bridge_filter.specs.declared.FilterPlan.{FilterPlan}
use Rattle.bridge_filter.specs.OwnEvents.{is_filter_number}
use Rattle.bridge_config.specs.Model.{Plan}
use Rattle.bridge_config.specs.Rules.{IsPlan}
use Rattle.bridge_bounds.proofs.Reached.{found_in}
use Rattle.bridge_semantics.specs.declared.destination.Destination.{Destination}
use Rattle.bridge_semantics.specs.declared.destination.Destination.TheVariants as way
use Rattle.bridge_semantics.specs.declared.outcome.Outcome.{Outcome}
use Rattle.bridge_semantics.specs.Events.{Arrival, destination_input, frame_destination, input_filter}
use Rattle.bridge_semantics.specs.Merge.{Input, input_events}
use Rattle.bridge_bounds.specs.declared.traffic.Traffic.{Traffic}
use Rattle.net_model.specs.declared.links.StreamHop.{StreamHop}
use Rattle.net_model.specs.ClosedTest.{is_protected}
use Rattle.net_model.specs.NetworkParts.{NetworkParts, link_value, network_value}
use Rattle.net_model.specs.Networks.{IsNetwork, IsNetworkRun, Sender, sender}
use Rattle.net_model.proofs.Handles.{protected_names}
use Rattle.net_latency.specs.declared.latency.StreamLatency.{StreamLatency}
use Rattle.net_latency.specs.declared.next_hop.NextHop.{NextHop}
use Rattle.net_latency.specs.declared.queue_exit.HopArrival.{HopArrival}
use Rattle.net_latency.specs.declared.tree.HopQueue.{HopQueue}
use Rattle.net_latency.specs.Delivered.{AreCommands, CompareDestinations, HasPath, HasReachableQueues, IsAcceptedNetwork, IsForwardedAlong, IsForwardedByPort, IsStreamOfNetwork}
use Rattle.net_latency.specs.Entering.{are_received_by_next_hops, come_in_once, is_handed}
use Rattle.net_latency.specs.NextHop.{hop_at_bridge, next_hop, next_hop_over_link}
use Rattle.net_latency.specs.Phased.{HasHopTiming}
use Rattle.net_latency.specs.StreamLatency.{IsHopLatency, IsHopLatencyByQueues, arrival_over_link}
use Rattle.net_latency.specs.Trees.{is_tree}
use Rattle.net_latency.proofs.Deliveries.{IsAtHop, IsOverLink, copy_at, copy_queue, frame_over_link, keeps_at, keeps_over, leg_is, leg_of, model, own_over, queue_at, safe_at}
use Rattle.net_latency.proofs.FedInTurn.{hop_there}
use Rattle.net_latency.proofs.Forwarded.{goes_over, some_port}
use Rattle.net_latency.proofs.HandedQueues.{handed_at, leads_to}
use Rattle.net_latency.proofs.PassingHops.{HasPhases, leads_on}
use Rattle.net_latency.proofs.Phased.{moved_traffic}
use Rattle.net_latency.proofs.ProtectedHops.{filter_of}
use Rattle.net_latency.proofs.SentCopies.{own_frame}

-- A frame of a filter is forwarded.
forwarded : {A : Type 0} (p : Plan A) (m : ℕ) (a : Arrival) (w : Destination) → IsPlan p → frame_destination p a ≡ w → is_filter_number m (input_filter p (destination_input w)) ≡ true → (q : ℕ) × IsForwardedByPort p a.octets a.len a.port q
forwarded p m a way.Malformed plan e own = absurd (false≢true own)
forwarded p m a way.Nowhere plan e own = absurd (false≢true own)
forwarded p m a (way.Forwarded set c) plan e own = some_port p a.octets a.len a.port a.at set c plan e

module _ {A : Type 0} (n : NetworkParts A) (hops : List StreamHop) (queues : List HopQueue) (first : StreamHop) (from : ℕ) (commands : ℕ → List Input) (captures : ℕ → ℕ → List CapturedFrame) (o : ℕ → Outcome A)
    (accepted : IsAcceptedNetwork n) (known : IsStreamOfNetwork n hops) (all : HasReachableQueues n.plans hops queues) (commanded : AreCommands commands)
    (begins : slice_get hops 0 ≡ Some first) (once : come_in_once n.plans n.links true hops ≡ true) (tree : is_tree n.links hops queues first ≡ true) (handed : are_received_by_next_hops n.plans n.links hops queues ≡ true)
    (run : IsNetworkRun (network_value n) commands captures o) (compare : CompareDestinations n.plans hops) where
  net : IsNetwork (network_value n)
  net = accepted.checked.network

  -- A frame of a hop has a path that begins with a port.
  abbrev FindsPath : ℕ → Type 0
  FindsPath k =
      (h : StreamHop) (arr : HopArrival) (r : StreamLatency) (a : Arrival) (is : IsAtHop n hops queues first from commands captures o accepted known all commanded begins once tree handed run h arr.traffic a) → IsHopLatency (model n hops queues first from commands captures o accepted known all commanded begins once tree handed run) k h arr (Some r) → r.passes ≡ true
      → (q : ℕ) → IsForwardedByPort is.plan a.octets a.len a.port q → HasPath n hops h a

  -- The last hop.
  ends : (h : StreamHop) (t : Traffic) (a : Arrival) (is : IsAtHop n hops queues first from commands captures o accepted known all commanded begins once tree handed run h t a) (q : ℕ) → IsForwardedByPort is.plan a.octets a.len a.port q → next_hop n.links hops h.bridge q ≡ None → HasPath n hops h a
  ends h t a is q fw none = record { port = q; ports = []; along = (is.plan, is.at, fw, none) }

  -- A hop that leads to another hop.
  goes_more : (k : ℕ) (h : StreamHop) (arr : HopArrival) (r : StreamLatency) (a : Arrival) (is : IsAtHop n hops queues first from commands captures o accepted known all commanded begins once tree handed run h arr.traffic a) → IsHopLatencyByQueues (IsHopLatency (model n hops queues first from commands captures o accepted known all commanded begins once tree handed run) k) (model n hops queues first from commands captures o accepted known all commanded begins once tree handed run) h arr (Some r) → r.passes ≡ true
      → (q : ℕ) → IsForwardedByPort is.plan a.octets a.len a.port q → FindsPath k → (s : Sender) → sender (map link_value n.links) h.bridge q ≡ Some s → (g : StreamHop) → hop_at_bridge hops s.from.bridge ≡ Some g → HasPath n hops h a
  goes_more k h arr r a is told pass q fw more s linked g found =
      let c = copy_at n hops queues first from commands captures o accepted known all commanded begins once tree handed run h arr a q k r is told pass fw in
      let among = copy_queue n hops queues first from commands captures o accepted known all commanded begins once tree handed run h arr.traffic a q is fw c in
      let y : HopQueue = queue_at n hops queues first from commands captures o accepted known all commanded begins once tree handed run h q c.copy in
      let on = leads_on (IsHopLatency (model n hops queues first from commands captures o accepted known all commanded begins once tree handed run) k) (model n hops queues first from commands captures o accepted known all commanded begins once tree handed run) is.plan h arr y g s.delay r told pass among (same_eq h.bridge) is.at (leads_to n.links hops h.bridge q s g linked found) in
      let ph : HasPhases is.plan arr y = record { timing = on.timing; done = on.done; is = on.is; phases = on.phases } in
      let (start, leg) = leg_is n hops queues first from commands captures o accepted known all commanded begins once tree handed run h arr a q is fw c ph in
      let here = leg_of n hops queues first from commands captures o accepted known all commanded begins once tree handed run h arr.traffic a q is fw c start ph.is.bound in
      let over : IsOverLink n hops queues first from commands captures o accepted known all commanded begins once tree handed run here s g = record { linked = linked; found = found } in
      let (listed, bridge) = hop_there hops s.from.bridge g found in
      let next = filter_of n hops g accepted known listed in
      let there : slice_get n.plans s.from.bridge ≡ Some next.plan = subst (λ (b : ℕ). slice_get n.plans b ≡ Some next.plan) bridge next.at in
      let (into, port) = net.port h.bridge q s next.plan linked there in
      let one : is_handed n.plans n.links hops y ≡ true = members.each_passes (is_handed n.plans n.links hops) queues y handed among in
      let test = handed_at n.plans n.links hops y s g is.plan next.plan into linked found is.at there port one in
      let protected : is_protected is.plan h.filter ≡ true = members.passes_any (λ (f : ℕ × FilterPlan). nat_eq f.0 h.filter && f.1.protected) is.plan.filters (h.filter, is.filter) (found_in is.plan.filters h.filter is.filter is.found) (and_from (nat_eq h.filter h.filter) is.filter.protected (same_eq h.filter) is.protected) in
      let (handle, named) = protected_names is.plan h.filter (net.plan h.bridge is.plan is.at) (net.acceptable h.bridge is.plan is.at) protected in
      let (among_events, own) = own_frame is.plan h.filter is.filter a (input_events (run.inputs h.bridge)) is.own in
      let (set, d, goes) = goes_over is.plan next.plan q s.from.port h.filter g.filter is.filter a into handle (safe_at n hops queues first from commands captures o accepted known all commanded begins once tree handed run h arr.traffic a is) named (compare h is.plan handle is.listed is.at named) own fw port test in
      let (j, fw_next) = some_port next.plan a.octets a.len s.from.port 0 set d (net.plan g.bridge next.plan next.at) goes in
      let moved : IsForwardedByPort next.plan c.copy.item.octets c.copy.item.len s.from.port j = subst (λ (i : ℕ). IsForwardedByPort next.plan c.copy.item.octets i s.from.port j) (sym c.len) (subst (λ (v : List ℕ). IsForwardedByPort next.plan v a.len s.from.port j) (sym c.octets) fw_next) in
      let timed : HasHopTiming here arr on.timing on.done = record { timing = on.is; phases = on.phases } in
      let then : IsAtHop n hops queues first from commands captures o accepted known all commanded begins once tree handed run g (arrival_over_link arr on.timing on.done s.delay told.passes).traffic (frame_over_link n hops queues first from commands captures o accepted known all commanded begins once tree handed run here s) =
      record {
        plan = next.plan;
        filter = next.filter;
        at = next.at;
        found = next.found;
        protected = next.protected;
        listed = listed;
        traffic = moved_traffic arr on.timing on.done s.delay told.passes is.traffic on.one;
        keeps = keeps_over n hops queues first from commands captures o accepted known all commanded begins once tree handed run here s g next.plan next.filter arr on.timing on.done told.passes leg over among next.at next.found next.protected is.traffic (keeps_at n hops queues first from commands captures o accepted known all commanded begins once tree handed run h arr.traffic a is here refl is.at) timed;
        own = own_over n hops queues first from commands captures o accepted known all commanded begins once tree handed run here s g next.plan next.filter j leg over among next.at moved;
      } in
      let rest = more g (arrival_over_link arr on.timing on.done s.delay told.passes) on.figures (frame_over_link n hops queues first from commands captures o accepted known all commanded begins once tree handed run here s) then on.told on.pass j moved in
      let along : IsForwardedAlong n.plans n.links hops a.octets a.len s.from.bridge s.from.port rest.port rest.ports =
      subst (λ (b : ℕ). IsForwardedAlong n.plans n.links hops a.octets a.len b s.from.port rest.port rest.ports) bridge
      (subst (λ (i : ℕ). IsForwardedAlong n.plans n.links hops a.octets i g.bridge s.from.port rest.port rest.ports) c.len
      (subst (λ (v : List ℕ). IsForwardedAlong n.plans n.links hops v c.copy.item.len g.bridge s.from.port rest.port rest.ports) c.octets rest.along)) in
      record { port = q; ports = rest.port ∷ rest.ports; along = (is.plan, is.at, fw, s, linked, g, found, along) }

  at_far_end : (k : ℕ) (h : StreamHop) (arr : HopArrival) (r : StreamLatency) (a : Arrival) (is : IsAtHop n hops queues first from commands captures o accepted known all commanded begins once tree handed run h arr.traffic a) → IsHopLatencyByQueues (IsHopLatency (model n hops queues first from commands captures o accepted known all commanded begins once tree handed run) k) (model n hops queues first from commands captures o accepted known all commanded begins once tree handed run) h arr (Some r) → r.passes ≡ true
      → (q : ℕ) → IsForwardedByPort is.plan a.octets a.len a.port q → FindsPath k → (s : Sender) → sender (map link_value n.links) h.bridge q ≡ Some s → (m : Option StreamHop) → hop_at_bridge hops s.from.bridge ≡ m → HasPath n hops h a
  at_far_end k h arr r a is told pass q fw more s linked None found = ends h arr.traffic a is q fw (ap (next_hop_over_link hops) linked ∙ ap (λ (z : Option StreamHop). option_map {U = NextHop} (λ (g : StreamHop). record { hop = g; delay = s.delay }) z) found)
  at_far_end k h arr r a is told pass q fw more s linked (Some g) found = goes_more k h arr r a is told pass q fw more s linked g found

  at_link : (k : ℕ) (h : StreamHop) (arr : HopArrival) (r : StreamLatency) (a : Arrival) (is : IsAtHop n hops queues first from commands captures o accepted known all commanded begins once tree handed run h arr.traffic a) → IsHopLatencyByQueues (IsHopLatency (model n hops queues first from commands captures o accepted known all commanded begins once tree handed run) k) (model n hops queues first from commands captures o accepted known all commanded begins once tree handed run) h arr (Some r) → r.passes ≡ true
      → (q : ℕ) → IsForwardedByPort is.plan a.octets a.len a.port q → FindsPath k → (s : Option Sender) → sender (map link_value n.links) h.bridge q ≡ s → HasPath n hops h a
  at_link k h arr r a is told pass q fw more None linked = ends h arr.traffic a is q fw (ap (next_hop_over_link hops) linked)
  at_link k h arr r a is told pass q fw more (Some s) linked = at_far_end k h arr r a is told pass q fw more s linked (hop_at_bridge hops s.from.bridge) refl

  find_path : (k : ℕ) → FindsPath k
  find_path zero h arr r a is told pass q fw = absurd (some_is_none r told)
  find_path (suc k) h arr r a is told pass q fw = at_link k h arr r a is told pass q fw (find_path k) (sender (map link_value n.links) h.bridge q) refl

  pub path_of : (h : StreamHop) (k : ℕ) (arr : HopArrival) (r : StreamLatency) (a : Arrival) → IsAtHop n hops queues first from commands captures o accepted known all commanded begins once tree handed run h arr.traffic a → IsHopLatency (model n hops queues first from commands captures o accepted known all commanded begins once tree handed run) k h arr (Some r) → r.passes ≡ true → HasPath n hops h a
  path_of h k arr r a is told pass =
      let (among, own) = own_frame is.plan h.filter is.filter a (input_events (run.inputs h.bridge)) is.own in
      let (q, fw) = forwarded is.plan h.filter a (frame_destination is.plan a) (net.plan h.bridge is.plan is.at) refl own in
      find_path k h arr r a is told pass q fw
