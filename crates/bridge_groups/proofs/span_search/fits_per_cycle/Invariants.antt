use Rattle.std.proofs.Common.{ℕ, ◌≤◌, ◌+◌, ◌-◌}
use Rattle.bridge_port.specs.GateSchedule.{list_opens}
use Rattle.bridge_groups.specs.FitRuns.{IsFitRun}
use Rattle.bridge_groups.specs.Work.{IsNthFit}
use Rattle.bridge_groups.proofs.span_search.fits_per_cycle.Given as goal

abbrev pub invariant-loop-run : goal.invariant-loop-run
invariant-loop-run g l = record {
  from : ℕ;
  is : IsFitRun (list_opens l.list l.class) l.occ from l.run;
  ranked : IsNthFit (list_opens l.list l.class) l.occ l.count (l.end - l.cycle) l.run.first;
  early : l.run.first ≤ l.end;
  few : l.count + (l.end - l.cycle) ≤ l.run.first;
  small : l.run.length ≤ l.end + 4_000_000_000;
}

abbrev pub decreases-loop-run : goal.decreases-loop-run
decreases-loop-run g l = (l.end + 1) - l.run.first
