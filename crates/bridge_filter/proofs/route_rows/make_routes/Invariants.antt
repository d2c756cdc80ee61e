use Rattle.std.proofs.Common.{◌≡◌, ℕ, Some, length}
use Rattle.std.specs.Prelude.{slice_get}
use Rattle.std.specs.Map.{keys_of}
use Rattle.bridge_filter.specs.declared.route.Route.{Route}
use Rattle.bridge_filter.specs.Routes.{IsRoute}
use Rattle.bridge_filter.specs.Steps.{filter_plans}
use Rattle.bridge_filter.proofs.route_rows.make_routes.Given as goal

abbrev pub invariant-loop-place : goal.invariant-loop-place
invariant-loop-place g l = record {
  size : length l.routes.items ≡ l.place;
  places : (i : ℕ) (r : Route) → slice_get l.routes.items i ≡ Some r → r.filter ≡ i;
  each : (i : ℕ) (r : Route) → slice_get l.routes.items i ≡ Some r → IsRoute (filter_plans l.filters.entries) (keys_of l.gates.entries) (keys_of l.meters.entries) r;
}
