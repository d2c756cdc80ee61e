use Rattle.std.proofs.Common.{Some, ap}
use Rattle.bridge_groups.specs.LinearCurves.{curve_at}
use Rattle.bridge_groups.proofs.SharedQueues.{change_sum, one_list_bound}
use Rattle.bridge_groups.proofs.shared_queues.lists_bound.Goals as goal

pub returns-in-Cyclic : goal.returns-in-Cyclic
returns-in-Cyclic g c = one_list_bound (Some c.args.lists.now) c.in-Cyclic.list c.args.class c.args.occ c.args.least (curve_at c.args.curve.now) c.list_delay_bound.result (ap Some c.in-Cyclic.is) c.list_delay_bound.ensures

pub returns-in-Joined : goal.returns-in-Joined
returns-in-Joined g c = change_sum (Some c.args.lists.now) c.in-Joined.joined c.args.class c.args.occ c.args.least (curve_at c.args.curve.now) c.change_bound.result (ap Some c.in-Joined.is) c.change_bound.ensures
