use Rattle.std.proofs.Common.{ℕ, List, take}
use Rattle.bridge_filter.specs.Routes.{read_row, AreRoutes, IsDefaultRow, HasRoutes}
use Rattle.bridge_filter.specs.Steps.{filter_plans}
use Rattle.bridge_filter.proofs.route_rows.default_row.Given as goal

abbrev pub invariant-loop-place : goal.invariant-loop-place
invariant-loop-place g l = record {
  numbers : (gates meters : List ℕ) → AreRoutes l.routes (filter_plans l.filters.entries) gates meters → IsDefaultRow (read_row l.routes l.any) (take l.place (filter_plans l.filters.entries));
  routes : (gates meters : List ℕ) → AreRoutes l.routes (filter_plans l.filters.entries) gates meters → HasRoutes (read_row l.routes l.any) (filter_plans l.filters.entries) gates meters;
}
