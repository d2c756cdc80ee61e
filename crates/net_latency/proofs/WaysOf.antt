-- A stream's delays combine all of its routes, so each route's delays lie within them.
use Rattle.std.proofs.Common.{◌≡◌, ℕ, zero, suc, Bool, List, [], ◌∷◌, Option, None, Some, refl, subst}
use Rattle.std.specs.Prelude.{length, slice_get}
use Rattle.bridge_limits.proofs.Cases.{by_bool}
use Rattle.bridge_limits.proofs.Options.{some_is_none}
use Rattle.bridge_port.specs.Schedule.{Copy}
use Rattle.bridge_config.specs.Model.{Plan}
use Rattle.bridge_semantics.specs.Offers.{CarriedFrame}
use Rattle.net_model.specs.declared.links.Link.{Link}
use Rattle.net_model.specs.declared.links.StreamHop.{StreamHop}
use Rattle.net_model.specs.Networks.{Network}
use Rattle.bridge_bounds.specs.declared.timing.Phases.{Phases}
use Rattle.bridge_bounds.specs.declared.traffic.Traffic.{Traffic}
use Rattle.net_latency.specs.declared.latency.StreamLatency.{StreamLatency}
use Rattle.net_latency.specs.declared.queue_exit.HopArrival.{HopArrival}
use Rattle.net_latency.specs.declared.tree.HopQueue.{HopQueue}
use Rattle.net_latency.specs.StreamLatency.{IsStreamLatency, IsStreamLatencyFromHop, IsLatencyWithinOther, StreamModel, IsHopLatency, IfElse, first_hop_arrival, latency_at_last_queue, arrival_over_link}
use Rattle.net_latency.specs.Trees.{is_tree}
use Rattle.net_latency.proofs.Within.{goes_on_at, leaves_at, within_more}
use Rattle.net_latency.specs.Phased.{IsRouteLatency, IsRouteOfStream, stream_hop, queue_of_route_hop}
use Rattle.net_latency.specs.Ways.{IsRoute, RouteHop}

-- A route has delays, and they lie within `r`.
pub record HasFigures {A : Type 0} (from : ℕ) (a : HopArrival) (leg : RouteHop A) (more : List (ℕ × RouteHop A)) (r : StreamLatency) : Type 0 where
  pub figures : StreamLatency
  pub done : Phases
  pub are : IsRouteLatency from a leg more figures done
  pub within : IsLatencyWithinOther figures r

-- Each hop of the route has the plan of its bridge.
abbrev pub AreAt : {A : Type 0} → List (Plan A) → RouteHop A → List (ℕ × RouteHop A) → Type 0
AreAt plans leg [] = slice_get plans leg.bridge ≡ Some leg.plan
AreAt plans leg (x ∷ more) = (slice_get plans leg.bridge ≡ Some leg.plan) × AreAt plans x.1 more

-- A route through queues of the stream has delays.
figures_along : {A : Type 0} (n : StreamModel A) (depth : ℕ) (a : HopArrival) (leg : RouteHop A) (more : List (ℕ × RouteHop A)) (r : StreamLatency) → AreAt n.plans leg more → IsRouteOfStream n.links n.hops n.queues leg more → IsHopLatency n depth (stream_hop leg) a (Some r) → HasFigures n.from a leg more r
figures_along n zero a leg more r at way told = absurd (some_is_none r told)
figures_along n (suc k) a leg [] r at (among, nowhere) told =
    let is = leaves_at (IsHopLatency n k) n leg.plan a (queue_of_route_hop leg) r at nowhere told among in
    record {
      figures = latency_at_last_queue n.from a is.timing is.done is.passes;
      done = is.done;
      are = (is.timing, is.passes, record { timing = is.is; phases = is.phases }, refl);
      within = is.within;
    }
figures_along n (suc k) a leg (y ∷ more) r (at, others) (among, leads, way) told =
    let is = goes_on_at (IsHopLatency n k) n leg.plan a (queue_of_route_hop leg) (stream_hop y.1) y.0 r at leads told among in
    let rest = figures_along n k (arrival_over_link a is.timing is.done y.0 is.passes) y.1 more is.figures others way is.told in
    record {
      figures = rest.figures;
      done = rest.done;
      are = (is.timing, is.done, is.passes, record { timing = is.is; phases = is.phases }, is.one, rest.are);
      within = within_more rest.figures is.figures r rest.within is.within;
    }

at_way : {A : Type 0} (n : Network A) (lists : ℕ → ℕ → List (Copy CarriedFrame)) (leg : RouteHop A) (more : List (ℕ × RouteHop A)) → IsRoute n lists leg more → AreAt n.bridges leg more
at_way n lists leg [] way = way.plan
at_way n lists leg (x ∷ more) way = (way.0.plan, at_way n lists x.1 more way.2)

-- Each route of the stream has delays within the stream's delays.
pub figures_of_way : {A : Type 0} (n : Network A) (lists : ℕ → ℕ → List (Copy CarriedFrame)) (links : List Link) (hops : List StreamHop) (queues : List HopQueue) (t : Traffic) (leg : RouteHop A) (more : List (ℕ × RouteHop A)) (r : StreamLatency) → IsRoute n lists leg more → slice_get hops 0 ≡ Some (stream_hop leg) → IsRouteOfStream links hops queues leg more → IsStreamLatency n.bridges links hops queues t (Some r)
    → HasFigures t.from (first_hop_arrival t) leg more r
figures_of_way {A} n lists links hops queues t leg more r way first of is =
    let parts : StreamModel A = record { plans = n.bridges; links = links; hops = hops; queues = queues; from = t.from } in
    let here : IsStreamLatencyFromHop parts t (Some (stream_hop leg)) (Some r) = subst (λ (o : Option StreamHop). IsStreamLatencyFromHop parts t o (Some r)) first is in
    let at = at_way n lists leg more way in
    by_bool (is_tree links hops queues (stream_hop leg))
    (λ k.
    let told : IsHopLatency parts (length hops) (stream_hop leg) (first_hop_arrival t) (Some r) = subst (λ (b : Bool). IfElse b (IsHopLatency parts (length hops) (stream_hop leg) (first_hop_arrival t) (Some r)) (Some r ≡ None)) k here in
    figures_along parts (length hops) (first_hop_arrival t) leg more r at of told)
    (λ k.
    let none : Some r ≡ None = subst (λ (b : Bool). IfElse b (IsHopLatency parts (length hops) (stream_hop leg) (first_hop_arrival t) (Some r)) (Some r ≡ None)) k here in
    absurd (some_is_none r none))
