use Rattle.std.proofs.Common.{◌≤◌, ◌*◌, ◌-◌}
use Rattle.bridge_cycle.specs.declared.cyclic_list.TheConstants.{LONGEST_CYCLE}
use Rattle.bridge_port.specs.GateSchedule.{list_opens}
use Rattle.bridge_groups.proofs.LongStarts.{StartLongBetween}
use Rattle.bridge_groups.proofs.cost_search.has_long_starts.Given as goal

abbrev pub invariant-loop-covered : goal.invariant-loop-covered
invariant-loop-covered g l = record {
  starts : StartLongBetween (list_opens l.list l.class) l.fit l.long l.start l.covered;
  near : l.covered ≤ 5 * LONGEST_CYCLE;
}

abbrev pub decreases-loop-covered : goal.decreases-loop-covered
decreases-loop-covered g l = l.end - l.covered
