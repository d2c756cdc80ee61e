use Rattle.std.proofs.Common.{Some, ap}
use Rattle.bridge_groups.proofs.SharedQueues.{one_list_costs}
use Rattle.bridge_groups.proofs.cost_search.lists_cost_bound.Goals as goal

pub returns-in-Cyclic : goal.returns-in-Cyclic
returns-in-Cyclic g c = one_list_costs c.args.plan.now c.args.sharers.now c.args.speed (Some c.args.lists.now) c.in-Cyclic.list c.args.class c.args.long c.list_cost_bound.result (ap Some c.in-Cyclic.is) c.list_cost_bound.ensures
