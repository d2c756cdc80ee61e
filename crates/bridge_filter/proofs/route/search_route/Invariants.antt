use Rattle.std.proofs.Common.{◌≡◌, take}
use Rattle.std.specs.Prelude.{IfSome}
use Rattle.std.specs.Option.{option_map}
use Rattle.std.specs.Map.{keys_of}
use Rattle.bridge_filter.specs.declared.route.Route.{Route}
use Rattle.bridge_filter.specs.Routes.{least_match, IsRoute}
use Rattle.bridge_filter.specs.Steps.{filter_plans}
use Rattle.bridge_filter.proofs.route.search_route.Given as goal

abbrev pub invariant-loop-place : goal.invariant-loop-place
invariant-loop-place g l = record {
  number : option_map (λ (r : Route). r.number) l.least ≡ least_match l.handle l.priority (take l.place (filter_plans l.filters.entries));
  route : IfSome l.least (IsRoute (filter_plans l.filters.entries) (keys_of l.gates.entries) (keys_of l.meters.entries));
}
