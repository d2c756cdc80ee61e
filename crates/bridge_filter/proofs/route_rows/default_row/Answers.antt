use Rattle.std.proofs.Common.{arith, ℕ, List, Option, [], sym, subst}
use Rattle.bridge_filter.specs.declared.FilterPlan.{FilterPlan}
use Rattle.bridge_filter.specs.declared.route.Route.{Route}
use Rattle.bridge_filter.specs.Routes.{read_row, IsDefaultRow, HasRoutes}
use Rattle.bridge_filter.specs.Steps.{filter_plans}
use Rattle.bridge_filter.proofs.Rowed.{any_more, routes_any, empty_numbers, empty_routes, read-past, all_plans}
use Rattle.bridge_filter.proofs.route_rows.default_row.Goals as goal

pub loop-place-init : goal.loop-place-init
loop-place-init g c =
    let a = c.args in
    let empty = sym (read-past a.routes.now 8) in
    record {
      numbers = λ gates meters are. subst (λ (row : List (Option Route)). IsDefaultRow row []) empty empty_numbers;
      routes = λ gates meters are. subst (λ (row : List (Option Route)). HasRoutes row (filter_plans a.filters.now.entries) gates meters) empty (empty_routes (filter_plans a.filters.now.entries) gates meters);
    }

pub loop-place-preserved : goal.loop-place-preserved
loop-place-preserved g c =
    let a = c.args in
    let fs = filter_plans a.filters.now.entries in
    let at = c.listed_route in
    let row = read_row a.routes.now c.loop-place.any in
    let more = read_row a.routes.now c.add_to_default_row.new.any in
    record {
      numbers = λ gates meters are. any_more row more fs c.loop-place.place at.result.0 at.result.1 (at.ensures.plan gates meters are) (c.loop-place.invariant.numbers gates meters are) c.add_to_default_row.ensures;
      routes = λ gates meters are. routes_any row more fs gates meters at.result.0 at.result.1 (are.each c.loop-place.place at.result.1 at.ensures.route) (c.loop-place.invariant.routes gates meters are) c.add_to_default_row.ensures;
    }

pub returns-clause-numbers : goal.returns-clause-numbers
returns-clause-numbers g c = λ gates meters are.
    let a = c.args in
    let all = all_plans a.filters.now.entries c.loop-place.place (omega (arith, c.loop-place-test.false, c.len-place-end.ensures.len)) in
    subst (λ (fs : List (ℕ × FilterPlan)). IsDefaultRow (read_row a.routes.now c.loop-place.any) fs) all (c.loop-place.invariant.numbers gates meters are)
