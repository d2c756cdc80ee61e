use Rattle.std.proofs.Common.{ℕ, List, take}
use Rattle.bridge_filter.specs.Routes.{read_row, read_rows, AreRoutes, AreHandleRows, HasRoutes, HaveRoutes}
use Rattle.bridge_filter.specs.Steps.{filter_plans}
use Rattle.bridge_filter.proofs.route_rows.handle_rows.Given as goal

abbrev pub invariant-loop-place : goal.invariant-loop-place
invariant-loop-place g l = record {
  numbers : (gates meters : List ℕ) → AreRoutes l.routes (filter_plans l.filters.entries) gates meters → AreHandleRows (read_rows l.routes l.rows.entries) (read_row l.routes l.any) (take l.place (filter_plans l.filters.entries));
  routes : (gates meters : List ℕ) → AreRoutes l.routes (filter_plans l.filters.entries) gates meters → HasRoutes (read_row l.routes l.any) (filter_plans l.filters.entries) gates meters → HaveRoutes (read_rows l.routes l.rows.entries) (read_row l.routes l.any) (filter_plans l.filters.entries) gates meters;
}
