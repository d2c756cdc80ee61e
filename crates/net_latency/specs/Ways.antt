-- The route of a frame through several bridges, and its delay bound.
use Rattle.std.specs.Prelude.{◌≡◌, ℕ, ◌+◌, List, [], ◌∷◌, Some, slice_get}
use Rattle.bridge_limits.specs.Members.{IsMember}
use Rattle.bridge_frame.specs.Link.{transmission_time}
use Rattle.bridge_port.specs.Schedule.{Copy, Started}
use Rattle.bridge_config.specs.declared.ports.PortPlan.{PortPlan}
use Rattle.bridge_config.specs.Model.{Plan}
use Rattle.bridge_config.specs.Rules.{find_port}
use Rattle.bridge_semantics.specs.Offers.{CarriedFrame}
use Rattle.net_model.specs.Networks.{Network, sender}
use Rattle.bridge_bounds.specs.Bounds.{IsQueueBound}

-- A hop of a frame's route: a queue of a filter at a bridge, with a started copy of the frame, and the queue's bound.
pub record RouteHop (A : Type 0) : Type 0 where
  pub bridge : ℕ
  pub plan : Plan A
  pub port : ℕ
  pub out : PortPlan A
  pub filter : ℕ
  pub copy : Copy CarriedFrame
  pub start : ℕ
  pub bound : ℕ

-- The end of transmission of the copy at this hop.
abbrev pub hop_end : {A : Type 0} → RouteHop A → ℕ
hop_end leg = leg.start + transmission_time leg.copy.item.len leg.out.speed

-- Holds if `leg` is a queue of the network, and its copy is sent in a run with the copies `lists`, by bridge and port.
pub record IsRouteHop {A : Type 0} (n : Network A) (lists : ℕ → ℕ → List (Copy CarriedFrame)) (leg : RouteHop A) : Type 0 where
  pub plan : slice_get n.bridges leg.bridge ≡ Some leg.plan
  pub port : find_port leg.plan.ports leg.port ≡ Some leg.out
  pub listed : IsMember leg.copy (lists leg.bridge leg.port)
  pub flow : leg.copy.item.flow ≡ Some leg.filter
  pub started : leg.copy.fate ≡ Started leg.start
  pub bound : IsQueueBound leg.plan leg.filter leg.port leg.copy.class leg.bound

-- Holds if the copy of `next` arrives over a link, `delay` ns after the end of transmission of the copy of `leg`.
pub record IsNextHop {A : Type 0} (n : Network A) (leg next : RouteHop A) (delay : ℕ) : Type 0 where
  pub port : ℕ
  pub linked : sender n.links next.bridge port ≡ Some (record { from = record { bridge = leg.bridge; port = leg.port }; delay = delay })
  pub comes : next.copy.at ≡ hop_end leg + delay

-- Holds if hop `leg` and the later hops in the list are a route of the network. Each later hop has the delay of the link before it.
abbrev pub IsRoute : {A : Type 0} → Network A → (ℕ → ℕ → List (Copy CarriedFrame)) → RouteHop A → List (ℕ × RouteHop A) → Type 0
IsRoute n lists leg [] = IsRouteHop n lists leg
IsRoute n lists leg (x ∷ more) = IsRouteHop n lists leg × IsNextHop n leg x.1 x.0 × IsRoute n lists x.1 more

-- The last hop of a route. The frame's delay ends with the end of transmission there.
abbrev pub last_hop : {A : Type 0} → RouteHop A → List (ℕ × RouteHop A) → RouteHop A
last_hop leg [] = leg
last_hop leg (x ∷ more) = last_hop x.1 more

-- The sum in ns of the bounds of all hops of a route and the delays of all links between them.
abbrev pub route_bound : {A : Type 0} → RouteHop A → List (ℕ × RouteHop A) → ℕ
route_bound leg [] = leg.bound
route_bound leg (x ∷ more) = leg.bound + (x.0 + route_bound x.1 more)
