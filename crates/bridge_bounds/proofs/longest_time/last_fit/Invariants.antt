use Rattle.std.proofs.Common.{◌-◌}
use Rattle.bridge_port.specs.GateSchedule.{list_opens}
use Rattle.bridge_bounds.proofs.Windows.{IsOpenUntil}
use Rattle.bridge_bounds.proofs.longest_time.last_fit.Given as goal

abbrev pub invariant-loop-seen : goal.invariant-loop-seen
invariant-loop-seen g l = IsOpenUntil (list_opens l.list l.class) l.occ l.at l.seen l.end

abbrev pub decreases-loop-seen : goal.decreases-loop-seen
decreases-loop-seen g l = l.end - l.seen
