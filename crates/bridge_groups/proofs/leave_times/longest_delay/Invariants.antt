use Rattle.std.proofs.Common.{◌≤◌, max}
use Rattle.bridge_port.specs.GateSchedule.{list_opens}
use Rattle.bridge_groups.proofs.LeaveTimes.{AreDelaysBounded}
use Rattle.bridge_groups.proofs.NthFits.{HasFits}
use Rattle.bridge_groups.proofs.leave_times.longest_delay.Given as goal

abbrev pub invariant-loop-run : goal.invariant-loop-run
invariant-loop-run g l = record {
  some : HasFits (list_opens l.list l.class) l.occ;
  bounded : AreDelaysBounded (list_opens l.list l.class) l.occ l.least l.work some l.clear l.first l.seen l.longest;
  begun : l.from ≤ l.seen;
  near : l.seen ≤ max l.from l.last;
}
