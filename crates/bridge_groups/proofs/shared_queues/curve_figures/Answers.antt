use Rattle.std.proofs.Common.{◌≡◌, ℕ, ap, ◌∙◌, arith}
use Rattle.bridge_frame.specs.Link.{transmission_time}
use Rattle.bridge_check.specs.Windows.{longest_frame}
use Rattle.bridge_groups.proofs.SharedQueues.{cost_bound_is, least_small, meter_bound_is, meter_room_is}
use Rattle.bridge_groups.proofs.Sums.{least_occupied}
use Rattle.bridge_groups.proofs.shared_queues.curve_figures.Goals as goal

pub lists_bound-requires-clause-least : goal.lists_bound-requires-clause-least
lists_bound-requires-clause-least g c = let few = least_small c.args.port.now.speed in let is = c.occupation-least.ensures.exact in omega (arith, few, is)

pub lists_room-requires-clause-least : goal.lists_room-requires-clause-least
lists_room-requires-clause-least g c = let few = least_small c.args.port.now.speed in let is = c.occupation-least.ensures.exact in omega (arith, few, is)

pub returns-clause-bound : goal.returns-clause-bound
returns-clause-bound g c =
    let out = c.args.port.now in
    let occ : c.occupation-occ.result ≡ transmission_time (longest_frame c.args.sdu) out.speed = c.occupation-occ.ensures.exact ∙ ap (λ (n : ℕ). transmission_time n out.speed) c.min.ensures in
    meter_bound_is c.args.plan.now out c.args.sharers.now c.args.class c.args.sdu c.occupation-occ.result c.occupation-least.result c.in-Some.lists c.args.curve.now c.lists_bound.result c.requires.sdu occ c.occupation-least.ensures.exact c.in-Some.is c.requires.metered c.requires.curve c.lists_bound.ensures

pub lists_cost_bound-requires-clause-shortest : goal.lists_cost_bound-requires-clause-shortest
lists_cost_bound-requires-clause-shortest g c = let low = least_occupied (longest_frame c.args.sdu) c.args.port.now.speed in let is = c.occupation-occ.ensures.exact ∙ ap (λ (n : ℕ). transmission_time n c.args.port.now.speed) c.min.ensures in omega (arith, low, is)

pub returns-clause-cost : goal.returns-clause-cost
returns-clause-cost g c =
    let out = c.args.port.now in
    let occ : c.occupation-occ.result ≡ transmission_time (longest_frame c.args.sdu) out.speed = c.occupation-occ.ensures.exact ∙ ap (λ (n : ℕ). transmission_time n out.speed) c.min.ensures in
    cost_bound_is c.args.plan.now out c.args.sharers.now c.args.class c.args.sdu c.occupation-occ.result c.in-Some.lists c.lists_cost_bound.result c.requires.sdu occ c.in-Some.is c.requires.metered c.lists_cost_bound.ensures

pub returns-clause-room : goal.returns-clause-room
returns-clause-room g c =
    let out = c.args.port.now in
    let occ : c.occupation-occ.result ≡ transmission_time (longest_frame c.args.sdu) out.speed = c.occupation-occ.ensures.exact ∙ ap (λ (n : ℕ). transmission_time n out.speed) c.min.ensures in
    meter_room_is c.args.plan.now out c.args.sharers.now c.args.class c.args.sdu c.occupation-occ.result c.occupation-least.result c.in-Some.lists c.args.curve.now c.args.counts.now c.lists_room.result c.requires.sdu occ c.occupation-least.ensures.exact c.in-Some.is c.requires.metered c.requires.curve c.requires.limit c.lists_room.ensures
