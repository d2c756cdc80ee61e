-- Routes of a periodic talker's frames: hops that feed each other, and the phases and delays of a route.
use Rattle.std.specs.Prelude.{◌≡◌, ◌⊎◌, ℕ, Bool, true, ◌+◌, ◌≤◌, nat_eq, List, [], ◌∷◌, None, Some}
use Rattle.std.specs.Map.{lookup}
use Rattle.bridge_limits.specs.Members.{IsMember}
use Rattle.bridge_filter.specs.declared.Clear.{Clear}
use Rattle.bridge_filter.specs.declared.FilterPlan.{FilterPlan}
use Rattle.bridge_port.specs.Schedule.{Copy, Started}
use Rattle.bridge_semantics.specs.Events.{Cleared, own_events}
use Rattle.bridge_semantics.specs.Merge.{Input, input_events, capture_input, own_inputs}
use Rattle.bridge_semantics.specs.Offers.{CarriedFrame}
use Rattle.bridge_semantics.specs.Outputs.{departed_frame}
use Rattle.net_model.specs.declared.links.Link.{Link}
use Rattle.net_model.specs.declared.links.StreamHop.{StreamHop}
use Rattle.net_model.specs.Networks.{Network, delayed_frame, sender}
use Rattle.bridge_bounds.specs.Latency.{IsMultiple}
use Rattle.bridge_bounds.specs.declared.timing.Phases.{Phases}
use Rattle.bridge_bounds.specs.declared.timing.Timing.{Timing}
use Rattle.bridge_bounds.specs.declared.traffic.Traffic.{Traffic}
use Rattle.bridge_bounds.specs.Timings.{IsTiming}
use Rattle.bridge_bounds.specs.Traffic.{KeepsTraffic}
use Rattle.net_latency.specs.declared.latency.StreamLatency.{StreamLatency}
use Rattle.net_latency.specs.declared.queue_exit.HopArrival.{HopArrival}
use Rattle.net_latency.specs.declared.tree.HopQueue.{HopQueue}
use Rattle.net_latency.specs.StreamLatency.{IsLatencyWithinOther, first_hop_arrival, latency_at_last_queue, is_in_one_period, arrival_over_link}
use Rattle.net_latency.specs.NextHop.{next_hop}
use Rattle.net_latency.specs.Ways.{RouteHop, hop_end, last_hop}

-- ARRIVALS OF THE STREAM

-- Holds if the frames of the filter of route hop `leg` that arrive at its bridge keep the traffic.
abbrev pub KeepsTrafficAtHop : {A : Type 0} → (ℕ → List Input) → Traffic → RouteHop A → Type 0
KeepsTrafficAtHop inputs t leg =
    (f : FilterPlan) → lookup (nat_eq leg.filter) leg.plan.filters ≡ Some f
    → KeepsTraffic t (own_events leg.plan leg.filter f (input_events (inputs leg.bridge)))

-- Holds if input `x` at port `port` is a copy from the queue of `leg`, `delay` ns after its end of transmission.
pub record IsForwardedCopy {A : Type 0} (lists : ℕ → ℕ → List (Copy CarriedFrame)) (leg : RouteHop A) (port delay : ℕ) (x : Input) : Type 0 where
  pub copy : Copy CarriedFrame
  pub start : ℕ
  pub listed : IsMember copy (lists leg.bridge leg.port)
  pub flow : copy.item.flow ≡ Some leg.filter
  pub class : copy.class ≡ leg.copy.class
  pub started : copy.fate ≡ Started start
  pub is : x ≡ capture_input port (delayed_frame delay (departed_frame leg.out.speed start copy.item))

-- Holds if input `x` belongs to the filter of `leg`.
abbrev pub IsOwnInput : {A : Type 0} → (ℕ → List Input) → RouteHop A → Input → Type 0
IsOwnInput inputs leg x =
    (f : FilterPlan) × (lookup (nat_eq leg.filter) leg.plan.filters ≡ Some f)
    × IsMember x (own_inputs leg.plan leg.filter f (inputs leg.bridge))

-- Holds if the input `x` of a bridge is a command, so that it is no frame.
abbrev pub IsCommand : Input → Type 0
IsCommand x = (clear : Clear) × (m : ℕ) × (x.event ≡ Cleared clear m)

-- Holds if each own input of hop `next` is a command, or a copy from the queue of `leg` over a link of `delay` ns. It also holds without
-- this link.
abbrev pub IsFedByHop : {A : Type 0} → Network A → (ℕ → List Input) → (ℕ → ℕ → List (Copy CarriedFrame)) → RouteHop A → RouteHop A → ℕ → Type 0
IsFedByHop n inputs lists leg next delay =
    (port : ℕ) (x : Input)
    → sender n.links next.bridge port ≡ Some (record { from = record { bridge = leg.bridge; port = leg.port }; delay = delay })
    → IsOwnInput inputs next x
    → IsForwardedCopy lists leg port delay x ⊎ IsCommand x

-- Holds if each hop of the route feeds the next one (`IsFedByHop`).
abbrev pub AreFedInTurn : {A : Type 0} → Network A → (ℕ → List Input) → (ℕ → ℕ → List (Copy CarriedFrame)) → RouteHop A → List (ℕ × RouteHop A) → Type 0
AreFedInTurn n inputs lists leg [] = Unit {0}
AreFedInTurn n inputs lists leg (x ∷ more) = IsFedByHop n inputs lists leg x.1 x.0 × AreFedInTurn n inputs lists x.1 more

-- DELAYS AND PHASES OF A ROUTE

-- Holds if `x` is the timing of the queue of `leg` for frames that arrive as `a` describes, and `done` has its phases.
pub record HasHopTiming {A : Type 0} (leg : RouteHop A) (a : HopArrival) (x : Timing) (done : Phases) : Type 0 where
  pub timing : IsTiming leg.plan leg.filter leg.port leg.copy.class a.traffic x
  pub phases : x.phases ≡ Some done

-- Holds if a route has the delays `r` for arrival `a` at the first hop, and the phases `done` at the last hop. The flag
-- `passes` isn't determined.
abbrev pub IsRouteLatency : {A : Type 0} → ℕ → HopArrival → RouteHop A → List (ℕ × RouteHop A) → StreamLatency → Phases → Type 0
IsRouteLatency from a leg [] r done = (x : Timing) × (passes : Bool) × HasHopTiming leg a x done × (r ≡ latency_at_last_queue from a x done passes)
IsRouteLatency from a leg (y ∷ more) r done =
    (x : Timing) × (d : Phases) × (passes : Bool) × HasHopTiming leg a x d × (is_in_one_period (arrival_over_link a x d y.0 passes).traffic ≡ true)
    × IsRouteLatency from (arrival_over_link a x d y.0 passes) y.1 more r done

-- Holds if a frame that arrives at time `at` leaves at time `end` between the phases `done` of a period. Its delay is from best to worst.
pub record IsWithinRouteLatency (period at end : ℕ) (r : StreamLatency) (done : Phases) : Type 0 where
  pub period_start : ℕ
  pub multiple : IsMultiple period period_start
  pub from : done.from + period_start ≤ end
  pub to : end ≤ done.to + period_start
  pub phases : r.phases ≡ done
  pub best : at + r.best ≤ end
  pub worst : end ≤ at + r.worst

-- A ROUTE OF A STREAM

-- The hop of `net_model` with the bridge and the filter of route hop `leg`.
abbrev pub stream_hop : {A : Type 0} → RouteHop A → StreamHop
stream_hop leg = record { bridge = leg.bridge; filter = leg.filter }

-- The queue in which the frame's copy waits at route hop `leg`, with its hop, port and class. It is compared with the stream's reachable
-- queues.
abbrev pub queue_of_route_hop : {A : Type 0} → RouteHop A → HopQueue
queue_of_route_hop leg = record { hop = stream_hop leg; port = leg.port; class = leg.copy.class }

-- Holds if a route uses queues of a stream. Each port leads to the next hop, and the last port leaves the hops.
abbrev pub IsRouteOfStream : {A : Type 0} → List Link → List StreamHop → List HopQueue → RouteHop A → List (ℕ × RouteHop A) → Type 0
IsRouteOfStream links hops queues leg [] = IsMember (queue_of_route_hop leg) queues × (next_hop links hops leg.bridge leg.port ≡ None)
IsRouteOfStream links hops queues leg (x ∷ more) =
    IsMember (queue_of_route_hop leg) queues
    × (next_hop links hops leg.bridge leg.port ≡ Some (record { hop = stream_hop x.1; delay = x.0 }))
    × IsRouteOfStream links hops queues x.1 more

-- Holds if the frame keeps the delays of its route, and these delays lie within the delays of the stream.
pub record KeepsStreamLatency {A : Type 0} (t : Traffic) (leg : RouteHop A) (more : List (ℕ × RouteHop A)) (r : StreamLatency) : Type 0 where
  pub figures : StreamLatency
  pub done : Phases
  pub are : IsRouteLatency t.from (first_hop_arrival t) leg more figures done
  pub within : IsLatencyWithinOther figures r
  pub keeps : IsWithinRouteLatency t.period leg.copy.at (hop_end (last_hop leg more)) figures done
