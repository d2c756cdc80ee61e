use Rattle.std.proofs.Common.{◌∙◌, sym, subst, ap, Option}
use Rattle.std.specs.Prelude.{IfSome}
use Rattle.std.specs.Option.{option_map}
use Rattle.std.specs.Map.{keys_of}
use Rattle.bridge_filter.specs.declared.route.Route.{Route}
use Rattle.bridge_filter.specs.Routes.{IsRoute}
use Rattle.bridge_filter.specs.Steps.{filter_plans}
use Rattle.bridge_filter.proofs.Found.{flow-least}
use Rattle.bridge_filter.proofs.Rowed.{number_of, found_in_rows}
use Rattle.bridge_filter.proofs.route.look_up_route.Goals as goal

pub returns-then-priority-lt8-clause-number : goal.returns-then-priority-lt8-clause-number
returns-then-priority-lt8-clause-number g c = λ at sdu octets dei.
    let a = c.args in
    let routes = a.routes.now in
    let found = found_in_rows routes a.rows.now.entries a.any.now a.handle a.priority c.find_row.result.now c.route_in_row.result c.find_row.ensures c.route_in_row.ensures in
    ap number_of found ∙ (c.requires.rows a.handle a.priority c.if-priority-lt8.true ∙ sym (flow-least (filter_plans a.filters.now.entries) at a.handle a.priority sdu octets dei))

pub returns-then-priority-lt8-clause-route : goal.returns-then-priority-lt8-clause-route
returns-then-priority-lt8-clause-route g c =
    let a = c.args in
    let routes = a.routes.now in
    let found = found_in_rows routes a.rows.now.entries a.any.now a.handle a.priority c.find_row.result.now c.route_in_row.result c.find_row.ensures c.route_in_row.ensures in
    subst (λ (o : Option Route). IfSome o (IsRoute (filter_plans a.filters.now.entries) (keys_of a.gates.now.entries) (keys_of a.meters.now.entries))) (sym found) (c.requires.routes a.handle a.priority c.if-priority-lt8.true)

pub returns-in-Some-clause-number : goal.returns-in-Some-clause-number
returns-in-Some-clause-number g c = λ at sdu octets dei.
    let a = c.args in
    sym (ap (option_map (λ (r : Route). r.number)) c.in-Some.is) ∙ (c.search_route.ensures.number ∙ sym (flow-least (filter_plans a.filters.now.entries) at a.handle a.priority sdu octets dei))

pub returns-in-None-clause-number : goal.returns-in-None-clause-number
returns-in-None-clause-number g c = λ at sdu octets dei.
    let a = c.args in
    sym (ap (option_map (λ (r : Route). r.number)) c.in-None.is) ∙ (c.search_route.ensures.number ∙ sym (flow-least (filter_plans a.filters.now.entries) at a.handle a.priority sdu octets dei))
