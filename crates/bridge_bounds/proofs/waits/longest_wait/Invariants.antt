use Rattle.std.proofs.Common.{◌-◌}
use Rattle.bridge_port.specs.GateSchedule.{list_opens}
use Rattle.bridge_bounds.proofs.Waiting.{IsWaited}
use Rattle.bridge_bounds.proofs.waits.longest_wait.Given as goal

abbrev pub invariant-loop-seen : goal.invariant-loop-seen
invariant-loop-seen g l = IsWaited (list_opens l.list l.class) l.occ l.from l.to l.seen l.longest

abbrev pub decreases-loop-seen : goal.decreases-loop-seen
decreases-loop-seen g l = l.end - l.seen
