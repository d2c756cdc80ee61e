use Rattle.std.proofs.Common.{arith}
use Rattle.bridge_port.specs.GateSchedule.{list_opens}
use Rattle.bridge_groups.specs.SharedQueues.{IsWindowCostBound}
use Rattle.bridge_groups.proofs.LongStarts.{shorter_can_fit}
use Rattle.bridge_groups.proofs.SharedQueues.{one_of_two}
use Rattle.bridge_groups.proofs.cost_search.list_cost_bound.Goals as goal

pub fit_bound-requires-clause-ever : goal.fit_bound-requires-clause-ever
fit_bound-requires-clause-ever g c = let short = c.min-fit.ensures in shorter_can_fit c.args.list.now c.args.class c.min-fit.result c.args.long c.requires.lawful (omega (arith, short)) c.requires.ever

pub loop-length-preserved : goal.loop-length-preserved
loop-length-preserved g c = one_of_two (IsWindowCostBound c.args.plan.now c.args.sharers.now c.args.speed (list_opens c.args.list.now c.args.class) c.args.long) c.lesser_known-least.result c.loop-length.least c.fit_bound.result c.lesser_known-least.ensures c.loop-length.invariant c.fit_bound.ensures
