-- Each frame of a talker is delivered along each path that forwards it, within the stream's delays.
use Rattle.std.proofs.Common.{◌≡◌, ℕ, true, List, Some, nat_eq, sym, ap, ◌∙◌, subst, length, arith}
use Rattle.std.specs.Prelude.{slice_get}
use Rattle.std.specs.Map.{lookup}
use Rattle.std.proofs.lemmas.Bool.{and_parts}
use Rattle.std.proofs.lemmas.Option.{same_Some}
use Rattle.bridge_limits.specs.Members.{IsMember}
use Rattle.bridge_limits.proofs.Members as members
use Rattle.bridge_capture.specs.Grammar.{CapturedFrame}
use Rattle.bridge_filter.specs.declared.FilterPlan.{FilterPlan}
use Rattle.bridge_config.specs.Model.{Plan}
use Rattle.bridge_semantics.specs.declared.outcome.Outcome.{Outcome}
use Rattle.bridge_semantics.specs.Events.{Arrival, Arrived, own_events}
use Rattle.bridge_semantics.specs.Merge.{Input, input_events}
use Rattle.bridge_bounds.specs.declared.timing.Phases.{Phases}
use Rattle.bridge_bounds.specs.declared.traffic.Traffic.{Traffic}
use Rattle.bridge_bounds.specs.Traffic.{IsTraffic}
use Rattle.net_model.specs.declared.links.StreamHop.{StreamHop}
use Rattle.net_model.specs.NetworkParts.{NetworkParts, network_value}
use Rattle.net_model.specs.Networks.{IsNetworkRun}
use Rattle.net_latency.specs.declared.latency.StreamLatency.{StreamLatency}
use Rattle.net_latency.specs.declared.tree.HopQueue.{HopQueue}
use Rattle.net_latency.specs.Delivered.{AreCommands, CompareDestinations, HasPath, HasReachableQueues, IsAcceptedNetwork, IsDeliveredAlong, IsForwardedAlong, IsFrameOfHop, IsStreamOfNetwork, IsWithinStreamLatency, KeepsTrafficOfHop}
use Rattle.net_latency.specs.Entering.{IsStreamCourse, are_received_by_next_hops, come_in_once}
use Rattle.net_latency.specs.Phased.{IsWithinRouteLatency, KeepsTrafficAtHop, stream_hop}
use Rattle.net_latency.specs.StreamLatency.{IsLatencyWithinOther, first_hop_arrival}
use Rattle.net_latency.specs.Ways.{RouteHop, hop_end, last_hop}
use Rattle.net_latency.specs.Trees.{is_tree}
use Rattle.net_latency.proofs.Deliveries.{IsAtHop, deliver}
use Rattle.net_latency.proofs.Phased.{first_leg}
use Rattle.net_latency.proofs.ProtectedHops.{filter_of}
use Rattle.net_latency.proofs.StreamKept.{course_of, hop_course, kept}
use Rattle.net_latency.proofs.TalkerPath.{path_of}

-- The traffic of the first hop, at the first hop of a route.
keeps_first : {A : Type 0} (n : NetworkParts A) (inputs : ℕ → List Input) (t : Traffic) (h : StreamHop) (leg : RouteHop A) → stream_hop leg ≡ h → slice_get n.plans leg.bridge ≡ Some leg.plan → KeepsTrafficOfHop n.plans inputs t h → KeepsTrafficAtHop inputs t leg
keeps_first n inputs t h leg same at keeps =
    let also : KeepsTrafficOfHop n.plans inputs t (stream_hop leg) = subst (KeepsTrafficOfHop n.plans inputs t) (sym same) keeps in
    λ f found. also leg.plan f at found

-- Delays of a route lie within the delays of its stream.
within_stream : (period at end : ℕ) (x r : StreamLatency) (done : Phases) → IsLatencyWithinOther x r → IsWithinRouteLatency period at end x done → IsWithinStreamLatency period at end r
within_stream period at end x r done within is =
    let best = is.best in
    let worst = is.worst in
    let from = is.from in
    let to = is.to in
    let lesser = within.best in
    let greater = within.worst in
    let first = within.from in
    let last = within.to in
    let from_is : x.phases.from ≡ done.from = ap (λ (z : Phases). z.from) is.phases in
    let to_is : x.phases.to ≡ done.to = ap (λ (z : Phases). z.to) is.phases in
    record {
      best = omega (arith, best, lesser);
      worst = omega (arith, worst, greater);
      period_start = is.period_start;
      multiple = is.multiple;
      from = omega (arith, from, first, from_is);
      to = omega (arith, to, last, to_is);
    }

-- The first hop, with one of its frames.
at_first : {A : Type 0} (n : NetworkParts A) (hops : List StreamHop) (queues : List HopQueue) (first : StreamHop) (t : Traffic) (commands : ℕ → List Input) (captures : ℕ → ℕ → List CapturedFrame) (o : ℕ → Outcome A) (accepted : IsAcceptedNetwork n) (known : IsStreamOfNetwork n hops) (all : HasReachableQueues n.plans hops queues) (commanded : AreCommands commands)
    (begins : slice_get hops 0 ≡ Some first) (once : come_in_once n.plans n.links true hops ≡ true) (tree : is_tree n.links hops queues first ≡ true) (handed : are_received_by_next_hops n.plans n.links hops queues ≡ true) (run : IsNetworkRun (network_value n) commands captures o) (a : Arrival)
    → IsTraffic t → KeepsTrafficOfHop n.plans run.inputs t first → IsFrameOfHop n.plans run.inputs first a → IsAtHop n hops queues first t.from commands captures o accepted known all commanded begins once tree handed run first t a
at_first {A} n hops queues first t commands captures o accepted known all commanded begins once tree handed run a traffic keeps frame =
    let g = filter_of n hops first accepted known (members.in_at hops 0 first begins) in
    let plan : frame.plan ≡ g.plan = same_Some frame.plan g.plan (sym frame.at ∙ g.at) in
    let found : lookup (nat_eq first.filter) g.plan.filters ≡ Some frame.filter = subst (λ (p : Plan A). lookup (nat_eq first.filter) p.filters ≡ Some frame.filter) plan frame.found in
    let filter : frame.filter ≡ g.filter = same_Some frame.filter g.filter (sym found ∙ g.found) in
    let own : IsMember (Arrived a) (own_events g.plan first.filter g.filter (input_events (run.inputs first.bridge))) =
    subst (λ (f : FilterPlan). IsMember (Arrived a) (own_events g.plan first.filter f (input_events (run.inputs first.bridge)))) filter
    (subst (λ (p : Plan A). IsMember (Arrived a) (own_events p first.filter frame.filter (input_events (run.inputs first.bridge)))) plan frame.own) in
    record {
      plan = g.plan;
      filter = g.filter;
      at = g.at;
      found = g.found;
      protected = g.protected;
      listed = members.in_at hops 0 first begins;
      traffic = traffic;
      keeps = keeps g.plan g.filter g.at g.found;
      own = own;
    }

pub delivered : {A : Type 0} (n : NetworkParts A) (hops : List StreamHop) (queues : List HopQueue) (t : Traffic) (r : StreamLatency) (first : StreamHop) (commands : ℕ → List Input) (captures : ℕ → ℕ → List CapturedFrame) (o : ℕ → Outcome A) (run : IsNetworkRun (network_value n) commands captures o) (a : Arrival) (q : ℕ) (ports : List ℕ)
    → IsAcceptedNetwork n → IsStreamOfNetwork n hops → HasReachableQueues n.plans hops queues → AreCommands commands → IsTraffic t → slice_get hops 0 ≡ Some first → KeepsTrafficOfHop n.plans run.inputs t first
    → IsStreamCourse n.plans n.links hops queues t (Some r) → r.passes ≡ true → IsFrameOfHop n.plans run.inputs first a → IsForwardedAlong n.plans n.links hops a.octets a.len first.bridge a.port q ports
    → IsDeliveredAlong n hops queues run.lists t r first a q ports
delivered {A} n hops queues t r first commands captures o run a q ports accepted known all commanded traffic begins keeps is pass frame way =
    let c = course_of n.plans n.links hops queues t r is in
    let h = hop_course n.plans n.links hops queues t first c.course begins c.is in
    let (passes, handed) = and_parts c.course.passes (are_received_by_next_hops n.plans n.links hops queues) (ap (λ (z : StreamLatency). z.passes) c.same ∙ pass) in
    let here_first = at_first n hops queues first t commands captures o accepted known all commanded begins c.once h.tree handed run a traffic keeps frame in
    let x = deliver n hops queues first t.from commands captures o accepted known all commanded begins c.once h.tree handed run (length hops) ports first (first_hop_arrival t) c.course a q
    here_first h.told passes way in
    let at_first : slice_get hops 0 ≡ Some (stream_hop x.leg) = begins ∙ ap Some (sym x.at_hop) in
    let here = first_leg (network_value n) run.lists x.leg x.more x.route in
    let held = kept n hops queues t r commands captures o run x.leg x.more accepted known all commanded traffic is at_first x.route x.of_stream (keeps_first n run.inputs t first x.leg x.at_hop here.plan keeps) in
    let end = hop_end (last_hop x.leg x.more) in
    record {
      leg = x.leg;
      more = x.more;
      route = x.route;
      of_stream = x.of_stream;
      begins = x.at_hop;
      arrives = x.arrives;
      path = x.path;
      delays = subst (λ (at : ℕ). IsWithinStreamLatency t.period at end r) x.arrives (within_stream t.period x.leg.copy.at end held.figures r held.done held.within held.keeps);
      only = x.only;
    }

-- If the stream entries compare destination addresses, each frame of the talker has a path.
pub has_path : {A : Type 0} (n : NetworkParts A) (hops : List StreamHop) (queues : List HopQueue) (t : Traffic) (r : StreamLatency) (first : StreamHop) (commands : ℕ → List Input) (captures : ℕ → ℕ → List CapturedFrame) (o : ℕ → Outcome A) (run : IsNetworkRun (network_value n) commands captures o) (a : Arrival)
    → IsAcceptedNetwork n → IsStreamOfNetwork n hops → HasReachableQueues n.plans hops queues → AreCommands commands → IsTraffic t → slice_get hops 0 ≡ Some first → KeepsTrafficOfHop n.plans run.inputs t first
    → IsStreamCourse n.plans n.links hops queues t (Some r) → r.passes ≡ true → IsFrameOfHop n.plans run.inputs first a → CompareDestinations n.plans hops → HasPath n hops first a
has_path n hops queues t r first commands captures o run a accepted known all commanded traffic begins keeps is pass frame compare =
    let c = course_of n.plans n.links hops queues t r is in
    let h = hop_course n.plans n.links hops queues t first c.course begins c.is in
    let (passes, handed) = and_parts c.course.passes (are_received_by_next_hops n.plans n.links hops queues) (ap (λ (z : StreamLatency). z.passes) c.same ∙ pass) in
    let here = at_first n hops queues first t commands captures o accepted known all commanded begins c.once h.tree handed run a traffic keeps frame in
    path_of n hops queues first t.from commands captures o accepted known all commanded begins c.once h.tree handed run compare first (length hops) (first_hop_arrival t) c.course a here h.told passes
