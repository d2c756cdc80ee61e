use Rattle.std.proofs.Common.{◌-◌}
use Rattle.bridge_port.specs.GateSchedule.{list_opens}
use Rattle.bridge_bounds.proofs.Lists.{IsTried}
use Rattle.bridge_bounds.proofs.longest_time.longest_time_after_edges.Given as goal

abbrev pub invariant-loop-seen : goal.invariant-loop-seen
invariant-loop-seen g l = IsTried (list_opens l.list l.class) l.occ l.room l.from l.to l.seen l.longest

abbrev pub decreases-loop-seen : goal.decreases-loop-seen
decreases-loop-seen g l = l.end - l.seen
