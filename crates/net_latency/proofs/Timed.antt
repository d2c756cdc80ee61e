-- Bounds of hops add up.
use Rattle.std.proofs.Common.{◌≤◌, ◌+◌, ℕ, List, [], ◌∷◌, arith}
use Rattle.bridge_capture.specs.Grammar.{CapturedFrame}
use Rattle.bridge_semantics.specs.Merge.{Input, input_events}
use Rattle.bridge_semantics.specs.declared.outcome.Outcome.{Outcome}
use Rattle.net_model.specs.Networks.{IsNetwork, IsNetworkRun, Network}
use Rattle.bridge_bounds.proofs.Whole.{in_bound}
use Rattle.net_latency.specs.Ways.{IsRouteHop, IsRoute, RouteHop, route_bound, hop_end, last_hop}

module _ {A : Type 0} (n : Network A) (commands : ℕ → List Input) (captures : ℕ → ℕ → List CapturedFrame) (o : ℕ → Outcome A)
    (network : IsNetwork n) (run : IsNetworkRun n commands captures o) where
  leg_in_time : (leg : RouteHop A) → IsRouteHop n run.lists leg → hop_end leg ≤ leg.copy.at + leg.bound
  leg_in_time leg is =
      let outcome = run.outcome leg.bridge leg.plan is.plan in
      in_bound leg.plan leg.filter leg.bound (input_events (run.inputs leg.bridge)) outcome.moments (run.lists leg.bridge) leg.port leg.start leg.out leg.copy
      (network.plan leg.bridge leg.plan is.plan) (network.acceptable leg.bridge leg.plan is.plan) outcome.run outcome.whole is.port is.listed is.flow is.started is.bound

  pub way_in_time : (leg : RouteHop A) (more : List (ℕ × RouteHop A)) → IsRoute n run.lists leg more → hop_end (last_hop leg more) ≤ leg.copy.at + route_bound leg more
  way_in_time leg [] way = leg_in_time leg way
  way_in_time leg (x ∷ more) (is, joined, way) =
      let first = leg_in_time leg is in
      let rest = way_in_time x.1 more way in
      let comes = joined.comes in
      omega (arith, first, rest, comes)
