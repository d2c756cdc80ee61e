use Rattle.std.proofs.Common.{◌≤◌, ◌*◌, ◌+◌, ◌-◌}
use Rattle.bridge_cycle.specs.declared.cyclic_list.TheConstants.{LONGEST_CYCLE}
use Rattle.bridge_port.specs.GateSchedule.{list_opens}
use Rattle.bridge_groups.specs.LinearCurves.{curve_at}
use Rattle.bridge_groups.proofs.SpanCovers.{AreStartsCovered}
use Rattle.bridge_groups.proofs.delay_bound.all_spans_bound.Given as goal

abbrev pub invariant-loop-covered : goal.invariant-loop-covered
invariant-loop-covered g l = record {
  covers : AreStartsCovered (list_opens l.list l.class) l.occ l.work (curve_at l.curve) l.shortest (l.shortest + l.list.cycle) l.covered l.bound;
  near : l.covered ≤ 4 * LONGEST_CYCLE;
}

abbrev pub decreases-loop-covered : goal.decreases-loop-covered
decreases-loop-covered g l = l.cycle - l.covered
