-- If a stream's delays pass, each frame of its talker has a route along each path that forwards it.
use Rattle.std.proofs.Common.{◌≡◌, ◌+◌, ℕ, zero, suc, Bool, true, List, [], ◌∷◌, map, Option, Some, nat_eq, refl, sym, ap, ◌∙◌, subst, arith}
use Rattle.std.specs.Prelude.{slice_get}
use Rattle.std.specs.List.{list_all}
use Rattle.std.specs.Map.{lookup}
use Rattle.std.proofs.lemmas.Option.{same_Some}
use Rattle.bridge_limits.specs.Members.{IsMember}
use Rattle.bridge_limits.proofs.Members as members
use Rattle.bridge_limits.proofs.Options.{some_is_none}
use Rattle.bridge_limits.proofs.Orders.{same_eq}
use Rattle.bridge_capture.specs.Grammar.{CapturedFrame}
use Rattle.bridge_filter.specs.Counts.{filter_verdicts}
use Rattle.bridge_filter.specs.declared.FilterPlan.{FilterPlan}
use Rattle.bridge_filter.specs.OwnEvents.{is_filter_number}
use Rattle.bridge_filter.specs.Verdicts.{frame_filter}
use Rattle.bridge_frame.specs.Link.{transmission_time}
use Rattle.bridge_port.specs.Schedule.{Copy, Never}
use Rattle.bridge_port.proofs.Members.{same_start}
use Rattle.bridge_config.specs.declared.ports.PortPlan.{PortPlan}
use Rattle.bridge_config.specs.Model.{Plan}
use Rattle.bridge_config.specs.Rules.{find_port}
use Rattle.bridge_config.proofs.PlanPorts.{at_own, at_port, number_is}
use Rattle.bridge_check.specs.Reach.{reaches_queue}
use Rattle.bridge_check.proofs.Isolated.{class_few}
use Rattle.bridge_semantics.specs.declared.outcome.Outcome.{Outcome}
use Rattle.bridge_semantics.specs.Events.{Arrival, Arrived, Event, arrival, arrival_filter, own_events, police_steps}
use Rattle.bridge_semantics.specs.Merge.{Input, capture_input, capture_inputs, input_events, own_inputs}
use Rattle.bridge_semantics.specs.Offers.{CarriedFrame, port_offers}
use Rattle.bridge_semantics.specs.Outputs.{IsDeparture, departed_frame}
use Rattle.bridge_semantics.proofs.Headline.{as_offer, flow_reaches, in_offered}
use Rattle.bridge_semantics.proofs.Merging.{events_own, in_at}
use Rattle.bridge_semantics.proofs.Safe.{IsSafe}
use Rattle.bridge_bounds.specs.declared.timing.Phases.{Phases}
use Rattle.bridge_bounds.specs.declared.timing.Timing.{Timing}
use Rattle.bridge_bounds.specs.declared.traffic.Traffic.{Traffic}
use Rattle.bridge_bounds.specs.Passing.{Passes, passes}
use Rattle.bridge_bounds.specs.Timings.{IsDoneInPhases}
use Rattle.bridge_bounds.specs.Traffic.{IsTraffic, KeepsTraffic}
use Rattle.bridge_bounds.proofs.Kept as kept
use Rattle.bridge_bounds.proofs.Passed as passed
use Rattle.bridge_bounds.proofs.Reached.{found_in}
use Rattle.net_model.specs.declared.links.StreamHop.{StreamHop}
use Rattle.net_model.specs.NetworkParts.{NetworkParts, link_value, network_value}
use Rattle.net_model.specs.Networks.{IsNetwork, IsNetworkRun, Sender, delayed_frame, external_inputs, inputs_over_link, port_inputs, sender}
use Rattle.net_model.proofs.Handed.{each_handed}
use Rattle.net_model.proofs.Members.{inputs_in, map_in, own_in}
use Rattle.net_latency.specs.declared.next_hop.NextHop.{NextHop}
use Rattle.net_latency.specs.declared.latency.StreamLatency.{StreamLatency}
use Rattle.net_latency.specs.declared.queue_exit.HopArrival.{HopArrival}
use Rattle.net_latency.specs.declared.tree.HopQueue.{HopQueue}
use Rattle.net_latency.specs.Delivered.{AreCommands, FollowsPath, HasPorts, HasReachableQueues, HaveSameCopies, IsAcceptedNetwork, IsForwardedAlong, IsForwardedByPort, IsStreamOfNetwork}
use Rattle.net_latency.specs.Entering.{are_received_by_next_hops, come_in_once, is_handed}
use Rattle.net_latency.specs.NextHop.{hop_at_bridge, next_hop}
use Rattle.net_latency.specs.Phased.{HasHopTiming, IsRouteOfStream, KeepsTrafficAtHop, queue_of_route_hop, stream_hop}
use Rattle.net_latency.specs.StreamLatency.{HopPasses, IsHopLatency, IsHopLatencyByQueues, StreamModel, arrival_over_link}
use Rattle.net_latency.specs.Trees.{is_tree}
use Rattle.net_latency.specs.Ways.{IsNextHop, IsRoute, IsRouteHop, RouteHop, hop_end}
use Rattle.net_latency.proofs.FedInTurn.{fed_by_hop, hop_there}
use Rattle.net_latency.proofs.HandedQueues.{handed_at, leads_to}
use Rattle.net_latency.proofs.Linked.{are_single, both_ways}
use Rattle.net_latency.proofs.OneCopy.{one_copy}
use Rattle.net_latency.proofs.PassingHops.{HasPhases, hop_passes, leads_on, queue_phases}
use Rattle.net_latency.proofs.Phased.{keeps_next, moved_traffic}
use Rattle.net_latency.proofs.ProtectedHops.{filter_of}
use Rattle.net_latency.proofs.SentCopies.{IsCopyOfFrame, at_any_time, frame_copy}

module _ {A : Type 0} (n : NetworkParts A) (hops : List StreamHop) (queues : List HopQueue) (first : StreamHop) (from : ℕ) (commands : ℕ → List Input) (captures : ℕ → ℕ → List CapturedFrame) (o : ℕ → Outcome A)
    (accepted : IsAcceptedNetwork n) (known : IsStreamOfNetwork n hops) (all : HasReachableQueues n.plans hops queues) (commanded : AreCommands commands)
    (begins : slice_get hops 0 ≡ Some first) (once : come_in_once n.plans n.links true hops ≡ true) (tree : is_tree n.links hops queues first ≡ true) (handed : are_received_by_next_hops n.plans n.links hops queues ≡ true)
    (run : IsNetworkRun (network_value n) commands captures o) where
  net : IsNetwork (network_value n)
  net = accepted.checked.network

  -- The stream, as its delays are computed of.
  abbrev pub model : StreamModel A
  model = record { plans = n.plans; links = n.links; hops = hops; queues = queues; from = from }

  -- A frame's route along a path.
  pub record HasRoute (h : StreamHop) (a : Arrival) (q : ℕ) (ports : List ℕ) : Type 0 where
    pub leg : RouteHop A
    pub more : List (ℕ × RouteHop A)
    pub route : IsRoute (network_value n) run.lists leg more
    pub of_stream : IsRouteOfStream n.links hops queues leg more
    pub at_hop : stream_hop leg ≡ h
    pub arrives : leg.copy.at ≡ a.at
    pub path : FollowsPath a.octets a.len leg more q ports
    pub only : (x : RouteHop A) (xs : List (ℕ × RouteHop A)) → IsRoute (network_value n) run.lists x xs → IsRouteOfStream n.links hops queues x xs → stream_hop x ≡ h → x.copy.at ≡ a.at → HasPorts x xs q ports → HaveSameCopies leg more x xs

  -- A hop with the plan of its bridge and its protected filter, the traffic that arrives, and one of its frames.
  pub record IsAtHop (h : StreamHop) (t : Traffic) (a : Arrival) : Type 0 where
    pub plan : Plan A
    pub filter : FilterPlan
    pub at : slice_get n.plans h.bridge ≡ Some plan
    pub found : lookup (nat_eq h.filter) plan.filters ≡ Some filter
    pub protected : filter.protected ≡ true
    pub listed : IsMember h hops
    pub traffic : IsTraffic t
    pub keeps : KeepsTraffic t (own_events plan h.filter filter (input_events (run.inputs h.bridge)))
    pub own : IsMember (Arrived a) (own_events plan h.filter filter (input_events (run.inputs h.bridge)))

  pub safe_at : (h : StreamHop) (t : Traffic) (a : Arrival) (is : IsAtHop h t a) → IsSafe is.plan h.filter is.filter
  safe_at h t a is =
      let i = found_in is.plan.filters h.filter is.filter is.found in
      record { plan = net.plan h.bridge is.plan is.at; listed = i; passes = net.acceptable h.bridge is.plan is.at h.filter is.filter i is.protected }

  -- The filter passes each of its frames.
  verdicts_pass : (h : StreamHop) (t : Traffic) (a : Arrival) (is : IsAtHop h t a) → Passes is.plan is.filter t → list_all passes (filter_verdicts h.filter (police_steps is.plan (input_events (run.inputs h.bridge)))) ≡ true
  verdicts_pass h t a is passing =
      let es : List Event = input_events (run.inputs h.bridge) in
      let told = run.outcome h.bridge is.plan is.at in
      let safe = safe_at h t a is in
      let (v, there) = (told.filters_are h.filter).0 (is.filter, is.found) in
      let pass = passed.each_passes is.plan h.filter is.filter es (run.lists h.bridge) (o h.bridge) v t safe.plan (net.acceptable h.bridge is.plan is.at) safe.listed is.protected told there is.traffic is.keeps passing in
      let view = told.views h.filter is.filter v is.found there in
      subst (λ vs. list_all passes vs ≡ true) view.verdicts pass

  -- The copy of a hop's frame at a port is in a queue of the stream.
  pub copy_queue : (h : StreamHop) (t : Traffic) (a : Arrival) (q : ℕ) (is : IsAtHop h t a) (fw : IsForwardedByPort is.plan a.octets a.len a.port q) (c : IsCopyOfFrame (run.lists h.bridge q) h.filter a) → IsMember (record { hop = h; port = q; class = c.copy.class }) queues
  copy_queue h t a q is fw c =
      let es : List Event = input_events (run.inputs h.bridge) in
      let told = run.outcome h.bridge is.plan is.at in
      let safe = safe_at h t a is in
      let among : IsMember (as_offer c.copy) (port_offers is.plan fw.out es) = subst (IsMember (as_offer c.copy)) (told.run.offers q fw.out fw.at) (in_offered c.copy (run.lists h.bridge q) c.listed) in
      let own : reaches_queue is.plan is.filter fw.out.number c.copy.class ≡ true = flow_reaches is.plan h.filter is.filter fw.out safe (at_own is.plan.ports q fw.out fw.at) es (as_offer c.copy) among c.flow in
      let reach : reaches_queue is.plan is.filter q c.copy.class ≡ true = subst (λ (k : ℕ). reaches_queue is.plan is.filter k c.copy.class ≡ true) (at_port is.plan.ports q fw.out fw.at).number own in
      let (from, to) = number_is is.plan.ports q fw.out safe.plan.ports fw.at in
      all h is.plan is.filter q c.copy.class is.listed is.at is.found is.protected from to (class_few is.plan is.filter q c.copy.class fw.out safe.plan fw.at reach) reach

  -- The route hop of a frame's copy.
  abbrev pub leg_of : (h : StreamHop) (t : Traffic) (a : Arrival) (q : ℕ) (is : IsAtHop h t a) (fw : IsForwardedByPort is.plan a.octets a.len a.port q) (c : IsCopyOfFrame (run.lists h.bridge q) h.filter a) → ℕ → ℕ → RouteHop A
  leg_of h t a q is fw c start bound = record { bridge = h.bridge; plan = is.plan; port = q; out = fw.out; filter = h.filter; copy = c.copy; start = start; bound = bound }

  pub leg_is : (h : StreamHop) (arr : HopArrival) (a : Arrival) (q : ℕ) (is : IsAtHop h arr.traffic a) (fw : IsForwardedByPort is.plan a.octets a.len a.port q) (c : IsCopyOfFrame (run.lists h.bridge q) h.filter a)
      (ph : HasPhases is.plan arr (record { hop = h; port = q; class = c.copy.class })) → (start : ℕ) × IsRouteHop (network_value n) run.lists (leg_of h arr.traffic a q is fw c start ph.is.bound)
  leg_is h arr a q is fw c ph =
      let es : List Event = input_events (run.inputs h.bridge) in
      let told = run.outcome h.bridge is.plan is.at in
      let safe = safe_at h arr.traffic a is in
      let done : IsDoneInPhases fw.out arr.traffic ph.done c.copy = kept.phases is.plan h.filter is.filter es told.moments (run.lists h.bridge) q fw.out c.copy arr.traffic ph.timing ph.done safe.plan (net.acceptable h.bridge is.plan is.at) safe.listed is.protected
      told.run told.whole fw.at c.listed c.flow is.traffic is.keeps ph.is ph.phases in
      (done.start, record { plan = is.at; port = fw.at; listed = c.listed; flow = c.flow; started = done.started; bound = ph.is.is_bound })

  hop_filter : (h : StreamHop) (t : Traffic) (a : Arrival) (is : IsAtHop h t a) → HopPasses (slice_get n.plans h.bridge) h.filter t → Passes is.plan is.filter t
  hop_filter h t a is passing =
      let here : HopPasses (Some is.plan) h.filter t = subst (λ (v : Option (Plan A)). HopPasses v h.filter t) is.at passing in
      let (g, found, each) = here in
      subst (λ (f : FilterPlan). Passes is.plan f t) (same_Some g is.filter (sym found ∙ is.found)) each

  -- The frame's copy at a hop.
  pub copy_at : (h : StreamHop) (arr : HopArrival) (a : Arrival) (q k : ℕ) (r : StreamLatency) (is : IsAtHop h arr.traffic a) → IsHopLatencyByQueues (IsHopLatency model k) model h arr (Some r) → r.passes ≡ true → IsForwardedByPort is.plan a.octets a.len a.port q → IsCopyOfFrame (run.lists h.bridge q) h.filter a
  copy_at h arr a q k r is told pass fw =
      let safe = safe_at h arr.traffic a is in
      let passing = hop_filter h arr.traffic a is (told.is_passing.0 (hop_passes model k h arr r told pass)) in
      let outcome = run.outcome h.bridge is.plan is.at in
      frame_copy is.plan h.filter q is.filter a (input_events (run.inputs h.bridge)) outcome.moments (run.lists h.bridge) fw safe.plan safe.listed passing.meter outcome.run (verdicts_pass h arr.traffic a is passing) is.own

  -- THE NEXT HOP

  -- A hop at the far end of a queue's link, before its copy is known.
  abbrev hop_over_link : RouteHop A → StreamHop → Plan A → ℕ → RouteHop A
  hop_over_link leg h p delay = record {
    bridge = h.bridge;
    plan = p;
    port = 0;
    out = leg.out;
    filter = h.filter;
    copy = record { at = hop_end leg + delay; class = 0; item = leg.copy.item; fate = Never };
    start = 0;
    bound = 0;
  }

  -- The frame that arrives over a link.
  abbrev pub frame_over_link : RouteHop A → Sender → Arrival
  frame_over_link leg s = arrival (hop_end leg + s.delay) s.from.port leg.copy.item.octets leg.copy.item.len

  -- A hop at the far end of a queue's link.
  pub record IsOverLink (leg : RouteHop A) (s : Sender) (h : StreamHop) : Type 0 where
    pub linked : sender (map link_value n.links) leg.bridge leg.port ≡ Some s
    pub found : hop_at_bridge hops s.from.bridge ≡ Some h

  back_over : (leg : RouteHop A) (s : Sender) (h : StreamHop) → IsOverLink leg s h → sender (map link_value n.links) h.bridge s.from.port ≡ Some (record { from = record { bridge = leg.bridge; port = leg.port }; delay = s.delay })
  back_over leg s h over =
      let (i, at) = hop_there hops s.from.bridge h over.found in
      subst (λ (b : ℕ). sender (map link_value n.links) b s.from.port ≡ Some (record { from = record { bridge = leg.bridge; port = leg.port }; delay = s.delay })) (sym at) (both_ways n.links leg.bridge leg.port s (are_single n accepted.without_fault) over.linked)

  -- The frame is an input at the far end.
  input_over : (leg : RouteHop A) (s : Sender) (h : StreamHop) (p : Plan A) → IsRouteHop (network_value n) run.lists leg → IsOverLink leg s h → slice_get n.plans h.bridge ≡ Some p
      → IsMember (capture_input s.from.port (delayed_frame s.delay (departed_frame leg.out.speed leg.start leg.copy.item))) (run.inputs h.bridge)
  input_over leg s h p is over at =
      let d = departed_frame leg.out.speed leg.start leg.copy.item in
      let x : Input = capture_input s.from.port (delayed_frame s.delay d) in
      let frames = map (delayed_frame s.delay) (run.left leg.bridge leg.port) in
      let l : IsDeparture leg.out.speed (run.lists leg.bridge leg.port) d = record { copy = leg.copy; start = leg.start; listed = is.listed; started = is.started; is = refl } in
      let left = ((run.output leg.bridge leg.port leg.plan leg.out is.plan is.port).members d).1 l in
      let late : IsMember (delayed_frame s.delay d) frames = map_in (delayed_frame s.delay) d (run.left leg.bridge leg.port) left in
      let there : IsMember x (capture_inputs s.from.port frames) = inputs_in s.from.port (delayed_frame s.delay d) frames late in
      let same : port_inputs (map link_value n.links) commands captures run.left h.bridge s.from.port ≡ capture_inputs s.from.port frames = ap (λ (m : Option Sender). inputs_over_link m (external_inputs commands captures h.bridge s.from.port) run.left s.from.port) (back_over leg s h over) in
      in_at s.from.port x (run.inputs h.bridge) (subst (IsMember x) (sym ((run.merged h.bridge p at).each s.from.port ∙ same)) there)

  -- The next hop's filter gets the frame.
  filter_over : (leg : RouteHop A) (s : Sender) (h : StreamHop) (p : Plan A) (k : ℕ) → IsRouteHop (network_value n) run.lists leg → IsOverLink leg s h → IsMember (queue_of_route_hop leg) queues → slice_get n.plans h.bridge ≡ Some p
      → IsForwardedByPort p leg.copy.item.octets leg.copy.item.len s.from.port k → is_filter_number h.filter (arrival_filter p (frame_over_link leg s)) ≡ true
  filter_over leg s h p k is over among at fw =
      let (i, bridge) = hop_there hops s.from.bridge h over.found in
      let there : slice_get n.plans s.from.bridge ≡ Some p = subst (λ (b : ℕ). slice_get n.plans b ≡ Some p) bridge at in
      let (on, port) = net.port leg.bridge leg.port s p over.linked there in
      let b = is.bound in
      let es : List Event = input_events (run.inputs leg.bridge) in
      let told = run.outcome leg.bridge leg.plan is.plan in
      let offered : IsMember (as_offer leg.copy) (port_offers leg.plan leg.out es) = subst (IsMember (as_offer leg.copy)) (told.run.offers leg.port leg.out is.port) (in_offered leg.copy (run.lists leg.bridge leg.port) is.listed) in
      let one : is_handed n.plans n.links hops (queue_of_route_hop leg) ≡ true = members.each_passes (is_handed n.plans n.links hops) queues (queue_of_route_hop leg) handed among in
      let test = handed_at n.plans n.links hops (queue_of_route_hop leg) s h leg.plan p on over.linked over.found is.plan there port one in
      let (d, goes) = at_any_time p leg.copy.item.octets leg.copy.item.len s.from.port (hop_end leg + s.delay) fw.ports fw.input fw.is in
      let mine : is_filter_number h.filter (frame_filter p.filters d) ≡ true =
      each_handed leg.plan p leg.port s.from.port leg.filter h.filter (hop_end leg + s.delay) fw.ports b.filter d leg.out on es (as_offer leg.copy) (net.plan leg.bridge leg.plan is.plan) (net.acceptable leg.bridge leg.plan is.plan)
      (found_in leg.plan.filters leg.filter b.filter b.found) b.protected is.port port test offered is.flow goes in
      rw goes mine

  pub own_over : (leg : RouteHop A) (s : Sender) (h : StreamHop) (p : Plan A) (f : FilterPlan) (k : ℕ) → IsRouteHop (network_value n) run.lists leg → IsOverLink leg s h → IsMember (queue_of_route_hop leg) queues → slice_get n.plans h.bridge ≡ Some p
      → IsForwardedByPort p leg.copy.item.octets leg.copy.item.len s.from.port k → IsMember (Arrived (frame_over_link leg s)) (own_events p h.filter f (input_events (run.inputs h.bridge)))
  own_over leg s h p f k is over among at fw =
      let x : Input = capture_input s.from.port (delayed_frame s.delay (departed_frame leg.out.speed leg.start leg.copy.item)) in
      let mine = filter_over leg s h p k is over among at fw in
      let own : IsMember x (own_inputs p h.filter f (run.inputs h.bridge)) = own_in p h.filter f x (run.inputs h.bridge) (input_over leg s h p is over at) mine in
      let event : IsMember (Arrived (frame_over_link leg s)) (input_events (own_inputs p h.filter f (run.inputs h.bridge))) = map_in (λ (z : Input). z.event) x (own_inputs p h.filter f (run.inputs h.bridge)) own in
      subst (IsMember (Arrived (frame_over_link leg s))) (sym (events_own p h.filter f (run.inputs h.bridge))) event

  -- The frames that arrive at the next hop keep the traffic there.
  pub keeps_over : (leg : RouteHop A) (s : Sender) (h : StreamHop) (p : Plan A) (f : FilterPlan) (arr : HopArrival) (x : Timing) (done : Phases) (passes : Bool) → IsRouteHop (network_value n) run.lists leg → IsOverLink leg s h → IsMember (queue_of_route_hop leg) queues
      → slice_get n.plans h.bridge ≡ Some p → lookup (nat_eq h.filter) p.filters ≡ Some f → f.protected ≡ true → IsTraffic arr.traffic → KeepsTrafficAtHop run.inputs arr.traffic leg → HasHopTiming leg arr x done
      → KeepsTraffic (arrival_over_link arr x done s.delay passes).traffic (own_events p h.filter f (input_events (run.inputs h.bridge)))
  keeps_over leg s h p f arr x done passes is over among at found protected traffic keeps timed =
      let next = hop_over_link leg h p s.delay in
      let fed = fed_by_hop n hops queues first commands captures o accepted known all commanded begins once tree run leg next s.delay f is at found protected among (leads_to n.links hops leg.bridge leg.port s h over.linked over.found) in
      let joined : IsNextHop (network_value n) leg next s.delay = record { port = s.from.port; linked = back_over leg s h over; comes = refl } in
      keeps_next (network_value n) commands captures o net run arr leg next x done s.delay passes is at traffic keeps timed joined fed f found

  -- THE ROUTE

  pub keeps_at : (h : StreamHop) (t : Traffic) (a : Arrival) (is : IsAtHop h t a) (leg : RouteHop A) → stream_hop leg ≡ h → slice_get n.plans leg.bridge ≡ Some leg.plan → KeepsTrafficAtHop run.inputs t leg
  keeps_at h t a is leg same at f found =
      let bridge : leg.bridge ≡ h.bridge = ap (λ (z : StreamHop). z.bridge) same in
      let number : leg.filter ≡ h.filter = ap (λ (z : StreamHop). z.filter) same in
      let plan : is.plan ≡ leg.plan = same_Some is.plan leg.plan (sym is.at ∙ (ap (slice_get n.plans) (sym bridge) ∙ at)) in
      let there : lookup (nat_eq h.filter) leg.plan.filters ≡ Some f = subst (λ (k : ℕ). lookup (nat_eq k) leg.plan.filters ≡ Some f) number found in
      let also : lookup (nat_eq h.filter) leg.plan.filters ≡ Some is.filter = subst (λ (p : Plan A). lookup (nat_eq h.filter) p.filters ≡ Some is.filter) plan is.found in
      let filter : is.filter ≡ f = same_Some is.filter f (sym also ∙ there) in
      let one : KeepsTraffic t (own_events leg.plan h.filter f (input_events (run.inputs h.bridge))) = subst (λ (g : FilterPlan). KeepsTraffic t (own_events leg.plan h.filter g (input_events (run.inputs h.bridge)))) filter (subst (λ (p : Plan A). KeepsTraffic t (own_events p h.filter is.filter (input_events (run.inputs h.bridge)))) plan is.keeps) in
      subst (λ (k : ℕ). KeepsTraffic t (own_events leg.plan k f (input_events (run.inputs leg.bridge)))) (sym number) (subst (λ (b : ℕ). KeepsTraffic t (own_events leg.plan h.filter f (input_events (run.inputs b)))) (sym bridge) one)

  -- The queue of a frame's copy, and the route hop there.
  abbrev pub queue_at : StreamHop → ℕ → Copy CarriedFrame → HopQueue
  queue_at h q y = record { hop = h; port = q; class = y.class }

  by_plan : (p : Plan A) (h : StreamHop) (t : Traffic) (a : Arrival) (is : IsAtHop h t a) (q : ℕ) → slice_get n.plans h.bridge ≡ Some p → IsForwardedByPort p a.octets a.len a.port q → IsForwardedByPort is.plan a.octets a.len a.port q
  by_plan p h t a is q at fw = subst (λ (v : Plan A). IsForwardedByPort v a.octets a.len a.port q) (same_Some p is.plan (sym at ∙ is.at)) fw

  first_port : (p : Plan A) (octets : List ℕ) (len b r q : ℕ) (ports : List ℕ) → slice_get n.plans b ≡ Some p → IsForwardedAlong n.plans n.links hops octets len b r q ports → IsForwardedByPort p octets len r q
  first_port p octets len b r q [] at (v, there, fw, more) = subst (λ (z : Plan A). IsForwardedByPort z octets len r q) (same_Some v p (sym there ∙ at)) fw
  first_port p octets len b r q (k ∷ ports) at (v, there, fw, s, linked, g, found, more) = subst (λ (z : Plan A). IsForwardedByPort z octets len r q) (same_Some v p (sym there ∙ at)) fw

  -- Two route hops with a copy of the same frame.
  record AreSameHops (leg x : RouteHop A) : Type 0 where
    copy : leg.copy ≡ x.copy
    ends : hop_end leg ≡ hop_end x

  same_hops : (h : StreamHop) (t : Traffic) (a : Arrival) (is : IsAtHop h t a) (leg x : RouteHop A) → IsRouteHop (network_value n) run.lists leg → IsRouteHop (network_value n) run.lists x → stream_hop leg ≡ h → stream_hop x ≡ h → x.port ≡ leg.port → leg.copy.at ≡ x.copy.at → AreSameHops leg x
  same_hops h t a is leg x here also at_leg at_x port at =
      let same : stream_hop x ≡ stream_hop leg = at_x ∙ sym at_leg in
      let bridge : x.bridge ≡ leg.bridge = ap (λ (z : StreamHop). z.bridge) same in
      let number : x.filter ≡ leg.filter = ap (λ (z : StreamHop). z.filter) same in
      let plan : x.plan ≡ leg.plan = same_Some x.plan leg.plan (sym also.plan ∙ (ap (slice_get n.plans) bridge ∙ here.plan)) in
      let out : x.out ≡ leg.out = same_Some x.out leg.out (sym also.port ∙ (ap (λ (p : Plan A). find_port p.ports x.port) plan ∙ (ap (find_port leg.plan.ports) port ∙ here.port))) in
      let there : IsMember x.copy (run.lists leg.bridge leg.port) = subst (λ (k : ℕ). IsMember x.copy (run.lists leg.bridge k)) port (subst (λ (k : ℕ). IsMember x.copy (run.lists k x.port)) bridge also.listed) in
      let b = here.bound in
      let told = run.outcome leg.bridge leg.plan here.plan in
      let keeps = keeps_at h t a is leg at_leg here.plan in
      let copy : leg.copy ≡ x.copy = one_copy leg.plan leg.filter leg.port b.filter leg.out (input_events (run.inputs leg.bridge)) told.moments (run.lists leg.bridge) t leg.copy x.copy (net.plan leg.bridge leg.plan here.plan) (net.acceptable leg.bridge leg.plan here.plan)
      (found_in leg.plan.filters leg.filter b.filter b.found) b.protected told.run told.whole here.port is.traffic (keeps b.filter b.found) here.listed there here.flow (also.flow ∙ ap Some number) at in
      let start : leg.start ≡ x.start = same_start leg.start x.start (sym here.started ∙ (ap (λ (y : Copy CarriedFrame). y.fate) copy ∙ also.started)) in
      let length : transmission_time leg.copy.item.len leg.out.speed ≡ transmission_time x.copy.item.len x.out.speed = ap (λ (y : Copy CarriedFrame). transmission_time y.item.len leg.out.speed) copy ∙ ap (λ (v : PortPlan A). transmission_time x.copy.item.len v.speed) (sym out) in
      record { copy = copy; ends = omega (arith, start, length) }

  -- A route along the path has the copies of this route.
  only_last : (h : StreamHop) (t : Traffic) (a : Arrival) (q : ℕ) (is : IsAtHop h t a) (leg : RouteHop A) → IsRouteHop (network_value n) run.lists leg → stream_hop leg ≡ h → leg.port ≡ q → leg.copy.at ≡ a.at
      → (x : RouteHop A) (xs : List (ℕ × RouteHop A)) → IsRoute (network_value n) run.lists x xs → stream_hop x ≡ h → x.copy.at ≡ a.at → HasPorts x xs q [] → HaveSameCopies leg [] x xs
  only_last h t a q is leg here at_leg port arrives x [] way at_x at ports = (same_hops h t a is leg x here way at_leg at_x (ports ∙ sym port) (arrives ∙ sym at)).copy
  only_last h t a q is leg here at_leg port arrives x (y ∷ ys) way at_x at ports = absurd ports

  only_more : (h g : StreamHop) (t : Traffic) (a : Arrival) (q j : ℕ) (ports : List ℕ) (s : Sender) (is : IsAtHop h t a) (leg : RouteHop A) (rest : HasRoute g (frame_over_link leg s) j ports) → IsRouteHop (network_value n) run.lists leg → stream_hop leg ≡ h → leg.port ≡ q → leg.copy.at ≡ a.at
      → next_hop n.links hops h.bridge q ≡ Some (record { hop = g; delay = s.delay })
      → (x : RouteHop A) (xs : List (ℕ × RouteHop A)) → IsRoute (network_value n) run.lists x xs → IsRouteOfStream n.links hops queues x xs → stream_hop x ≡ h → x.copy.at ≡ a.at → HasPorts x xs q (j ∷ ports) → HaveSameCopies leg ((s.delay, rest.leg) ∷ rest.more) x xs
  only_more h g t a q j ports s is leg rest here at_leg port arrives leads x [] way of at_x at on = absurd on
  only_more h g t a q j ports s is leg rest here at_leg port arrives leads x (y ∷ ys) (also, joined, way) (among, leads_x, of) at_x at (on, others) =
      let same = same_hops h t a is leg x here also at_leg at_x (on ∙ sym port) (arrives ∙ sym at) in
      let bridge : x.bridge ≡ h.bridge = ap (λ (z : StreamHop). z.bridge) at_x in
      let both : ◌≡◌ {A = Option NextHop} (Some (record { hop = stream_hop y.1; delay = y.0 })) (Some (record { hop = g; delay = s.delay })) = sym leads_x ∙ (ap (λ (b : ℕ). next_hop n.links hops b x.port) bridge ∙ (ap (next_hop n.links hops h.bridge) on ∙ leads)) in
      let next : ◌≡◌ {A = NextHop} (record { hop = stream_hop y.1; delay = y.0 }) (record { hop = g; delay = s.delay }) = same_Some _ _ both in
      let late : y.0 ≡ s.delay = ap (λ (z : NextHop). z.delay) next in
      let ends = same.ends in
      let comes = joined.comes in
      let arrives_y : y.1.copy.at ≡ hop_end leg + s.delay = omega (arith, ends, comes, late) in
      (same.copy, rest.only y.1 ys way of (ap (λ (z : NextHop). z.hop) next) arrives_y others)

  pub deliver : (k : ℕ) (ports : List ℕ) (h : StreamHop) (arr : HopArrival) (r : StreamLatency) (a : Arrival) (q : ℕ) → IsAtHop h arr.traffic a → IsHopLatency model k h arr (Some r) → r.passes ≡ true → IsForwardedAlong n.plans n.links hops a.octets a.len h.bridge a.port q ports → HasRoute h a q ports
  deliver zero ports h arr r a q is told pass way = absurd (some_is_none r told)
  deliver (suc k) [] h arr r a q is told pass (p, at, goes, none) =
      let fw = by_plan p h arr.traffic a is q at goes in
      let c = copy_at h arr a q k r is told pass fw in
      let among = copy_queue h arr.traffic a q is fw c in
      let ph = queue_phases (IsHopLatency model k) model is.plan h arr (queue_at h q c.copy) r told pass among (same_eq h.bridge) is.at in
      let (start, leg) = leg_is h arr a q is fw c ph in
      record {
        leg = leg_of h arr.traffic a q is fw c start ph.is.bound;
        more = [];
        route = leg;
        of_stream = (among, none);
        at_hop = refl;
        arrives = c.at;
        path = record { port = refl; octets_are = c.octets; len_is = c.len };
        only = λ x xs way of at_x came on. only_last h arr.traffic a q is (leg_of h arr.traffic a q is fw c start ph.is.bound) leg refl refl c.at x xs way at_x came on;
      }
  deliver (suc k) (j ∷ ports) h arr r a q is told pass (p, at, goes, s, linked, g, found, rest) =
      let fw = by_plan p h arr.traffic a is q at goes in
      let c = copy_at h arr a q k r is told pass fw in
      let among = copy_queue h arr.traffic a q is fw c in
      let on = leads_on (IsHopLatency model k) model is.plan h arr (queue_at h q c.copy) g s.delay r told pass among (same_eq h.bridge) is.at (leads_to n.links hops h.bridge q s g linked found) in
      let ph : HasPhases is.plan arr (queue_at h q c.copy) = record { timing = on.timing; done = on.done; is = on.is; phases = on.phases } in
      let (start, leg) = leg_is h arr a q is fw c ph in
      let here = leg_of h arr.traffic a q is fw c start ph.is.bound in
      let over : IsOverLink here s g = record { linked = linked; found = found } in
      let (listed, bridge) = hop_there hops s.from.bridge g found in
      let next = filter_of n hops g accepted known listed in
      let moved : IsForwardedAlong n.plans n.links hops c.copy.item.octets c.copy.item.len g.bridge s.from.port j ports =
      subst (λ (b : ℕ). IsForwardedAlong n.plans n.links hops c.copy.item.octets c.copy.item.len b s.from.port j ports) (sym bridge)
      (subst (λ (i : ℕ). IsForwardedAlong n.plans n.links hops c.copy.item.octets i s.from.bridge s.from.port j ports) (sym c.len)
      (subst (λ (v : List ℕ). IsForwardedAlong n.plans n.links hops v a.len s.from.bridge s.from.port j ports) (sym c.octets) rest)) in
      let timed : HasHopTiming here arr on.timing on.done = record { timing = on.is; phases = on.phases } in
      let then : IsAtHop g (arrival_over_link arr on.timing on.done s.delay told.passes).traffic (frame_over_link here s) =
      record {
        plan = next.plan;
        filter = next.filter;
        at = next.at;
        found = next.found;
        protected = next.protected;
        listed = listed;
        traffic = moved_traffic arr on.timing on.done s.delay told.passes is.traffic on.one;
        keeps = keeps_over here s g next.plan next.filter arr on.timing on.done told.passes leg over among next.at next.found next.protected is.traffic (keeps_at h arr.traffic a is here refl is.at) timed;
        own = own_over here s g next.plan next.filter j leg over among next.at (first_port next.plan c.copy.item.octets c.copy.item.len g.bridge s.from.port j ports next.at moved);
      } in
      let rest_of = deliver k ports g (arrival_over_link arr on.timing on.done s.delay told.passes) on.figures (frame_over_link here s) j then on.told on.pass moved in
      let x = rest_of.leg in
      let at_x : x.bridge ≡ g.bridge = ap (λ (z : StreamHop). z.bridge) rest_of.at_hop in
      record {
        leg = here;
        more = (s.delay, x) ∷ rest_of.more;
        route = (
          leg,
          record {
            port = s.from.port;
            linked = subst (λ (b : ℕ). sender (map link_value n.links) b s.from.port ≡ Some (record { from = record { bridge = h.bridge; port = q }; delay = s.delay })) (sym at_x) (back_over here s g over);
            comes = rest_of.arrives;
          },
          rest_of.route,
        );
        of_stream = (
          among,
          subst (λ (z : StreamHop). next_hop n.links hops h.bridge q ≡ Some (record { hop = z; delay = s.delay })) (sym rest_of.at_hop) (leads_to n.links hops h.bridge q s g linked found),
          rest_of.of_stream,
        );
        at_hop = refl;
        arrives = c.at;
        path = (
          record { port = refl; octets_are = c.octets; len_is = c.len },
          subst (λ (i : ℕ). FollowsPath a.octets i x rest_of.more j ports) c.len (subst (λ (v : List ℕ). FollowsPath v c.copy.item.len x rest_of.more j ports) c.octets rest_of.path),
        );
        only = only_more h g arr.traffic a q j ports s is here rest_of leg refl refl c.at (leads_to n.links hops h.bridge q s g linked found);
      }
