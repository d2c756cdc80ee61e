use Rattle.std.proofs.Common.{arith, ℕ, List, [], refl, sym, subst, ◌≡◌, ◌<◌, Some}
use Rattle.std.specs.Prelude.{if◌then◌else◌}
use Rattle.bridge_filter.specs.declared.FilterPlan.{FilterPlan}
use Rattle.bridge_filter.specs.Routes.{read_row, read_rows, slot, find_row, is_named_handle, add_to_slot, AreHandleRows, HaveRoutes}
use Rattle.bridge_filter.specs.Steps.{filter_plans}
use Rattle.bridge_filter.proofs.Rowed.{own_more, routes_own, routes_start, find-read, all_plans}
use Rattle.bridge_filter.proofs.route_rows.handle_rows.Goals as goal

pub loop-place-init : goal.loop-place-init
loop-place-init g c =
    let a = c.args in
    let fs = filter_plans a.filters.now.entries in
    let any = read_row a.routes.now a.any.now in
    let empty = sym c.in_ok-rows.ensures.empty in
    record {
      numbers = λ gates meters are. subst (λ (rows : List (ℕ × List ℕ)). AreHandleRows (read_rows a.routes.now rows) any []) empty (λ h k l. refl);
      routes = λ gates meters are all. subst (λ (rows : List (ℕ × List ℕ)). HaveRoutes (read_rows a.routes.now rows) any fs gates meters) empty (routes_start any fs gates meters all);
    }

pub loop-place-preserved : goal.loop-place-preserved
loop-place-preserved g c =
    let a = c.args in
    let fs = filter_plans a.filters.now.entries in
    let at = c.listed_route in
    let any = read_row a.routes.now a.any.now in
    let was = c.loop-place.rows.entries in
    let now = c.add_to_handle_row.new.rows.entries in
    let rows = read_rows a.routes.now was in
    let more = read_rows a.routes.now now in
    let plan = at.result.0 in
    let put : (h k : ℕ) → k < 8 → slot (find_row more any (Some h)) k ≡ (if is_named_handle h plan.handle then add_to_slot (slot (find_row rows any (Some h)) k) plan.priority at.result.1 k else slot (find_row rows any (Some h)) k) = λ h k l. rw (find-read a.routes.now now a.any.now (Some h), find-read a.routes.now was a.any.now (Some h)) (c.in_ok-add_to_handle_row.ensures h k l) in
    record {
      numbers = λ gates meters are. own_more rows more any fs c.loop-place.place at.result.0 at.result.1 (at.ensures.plan gates meters are) (c.loop-place.invariant.numbers gates meters are) put;
      routes = λ gates meters are all. routes_own rows more any fs gates meters at.result.0 at.result.1 (are.each c.loop-place.place at.result.1 at.ensures.route) (c.loop-place.invariant.routes gates meters are all) put;
    }

pub returns-clause-numbers : goal.returns-clause-numbers
returns-clause-numbers g c = λ gates meters are.
    let a = c.args in
    let all = all_plans a.filters.now.entries c.loop-place.place (omega (arith, c.loop-place-test.false, c.len-place-end.ensures.len)) in
    subst (λ (fs : List (ℕ × FilterPlan)). AreHandleRows (read_rows a.routes.now c.loop-place.rows.entries) (read_row a.routes.now a.any.now) fs) all (c.loop-place.invariant.numbers gates meters are)
