use Rattle.std.proofs.Common.{◌≤◌, ◌+◌, ◌-◌, ◌*◌, ℕ}
use Rattle.bridge_cycle.specs.declared.cyclic_list.TheConstants.{LONGEST_CYCLE}
use Rattle.bridge_port.specs.GateSchedule.{list_opens}
use Rattle.bridge_groups.specs.FitRuns.{IsFitRun}
use Rattle.bridge_groups.specs.Work.{IsNthFit}
use Rattle.bridge_groups.proofs.leave_times.nth_fit.Given as goal

abbrev pub invariant-loop-run : goal.invariant-loop-run
invariant-loop-run g l = record {
  at : ℕ;
  is : IsFitRun (list_opens l.list l.class) l.occ at l.run;
  ranked : IsNthFit (list_opens l.list l.class) l.occ (l.number - l.left) l.from l.run.first;
  upto : l.left ≤ l.number;
  near : l.run.first + l.run.length ≤ l.from + (l._run + 1) * (3 * LONGEST_CYCLE);
}
