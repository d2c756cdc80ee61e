use Rattle.std.proofs.Common.{Some, ap}
use Rattle.bridge_groups.specs.LinearCurves.{count_at, curve_at}
use Rattle.bridge_groups.proofs.SharedQueues.{one_list_room}
use Rattle.bridge_groups.proofs.shared_queues.lists_room.Goals as goal

pub returns-in-Cyclic : goal.returns-in-Cyclic
returns-in-Cyclic g c = one_list_room (Some c.args.lists.now) c.in-Cyclic.list c.args.class c.args.occ c.args.least (curve_at c.args.curve.now) (count_at c.args.counts.now) c.sufficient_room.result (ap Some c.in-Cyclic.is) c.sufficient_room.ensures.sufficient
