use Rattle.std.specs.Map.{keys_of}
use Rattle.bridge_filter.specs.Steps.{filter_plans}
use Rattle.bridge_filter.proofs.Rowed.{listed_push}
use Rattle.bridge_filter.proofs.route_rows.make_routes.Goals as goal

pub loop-place-preserved : goal.loop-place-preserved
loop-place-preserved g c =
    let a = c.args in
    let i = c.loop-place.invariant in
    let at = c.plan_and_route in
    let listed = listed_push (filter_plans a.filters.now.entries) (keys_of a.gates.now.entries) (keys_of a.meters.now.entries) c.loop-place.routes.items c.push.new.self.items at.result.1 c.loop-place.place c.in_ok-push.ensures.items i.size at.ensures.place at.ensures.route i.places i.each in
    record { size = listed.0; places = listed.1.0; each = listed.1.1 }
