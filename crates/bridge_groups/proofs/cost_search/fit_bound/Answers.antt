use Rattle.std.proofs.Common.{arith}
use Rattle.bridge_port.specs.GateSchedule.{list_opens}
use Rattle.bridge_groups.proofs.FrameCosts.{shortest_some}
use Rattle.bridge_groups.proofs.SharedQueues.{window_bound_is}
use Rattle.bridge_groups.proofs.cost_search.fit_bound.Goals as goal

pub has_long_starts-requires-clause-some : goal.has_long_starts-requires-clause-some
has_long_starts-requires-clause-some g c = let some = shortest_some c.args.speed in let low = c.requires.shortest in omega (arith, some, low)

pub returns : goal.returns
returns g c = window_bound_is c.args.plan.now c.args.sharers.now c.args.speed (list_opens c.args.list.now c.args.class) c.args.long c.args.fit c.occupation.result c.in_ok-curve.curve c.list_delay_bound.result c.requires.shortest (c.has_long_starts.ensures c.if-not-has_long_starts.false) c.occupation.ensures.exact c.in_ok-curve.ensures c.list_delay_bound.ensures
