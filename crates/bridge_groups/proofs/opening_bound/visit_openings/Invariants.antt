use Rattle.std.proofs.Common.{◌≤◌, ◌+◌, ◌*◌, ℕ}
use Rattle.bridge_cycle.specs.declared.cyclic_list.TheConstants.{LONGEST_CYCLE}
use Rattle.bridge_port.specs.GateSchedule.{list_opens}
use Rattle.bridge_groups.specs.GateIntervals.{IsNextOpening, LeaveInTime}
use Rattle.bridge_groups.proofs.opening_bound.visit_openings.Given as goal

abbrev pub invariant-loop-opening : goal.invariant-loop-opening
invariant-loop-opening g l = record {
  from : ℕ;
  is : IsNextOpening l.gate from l.opening;
  covers : LeaveInTime (list_opens l.list l.class) l.occ l.least l.share l.gate l.carry l.delays.longest l.delays.carry l.fn.first.start l.opening.start;
  near : l.opening.start ≤ l.end + 2 * LONGEST_CYCLE;
}
