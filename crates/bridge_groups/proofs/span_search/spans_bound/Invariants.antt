use Rattle.std.proofs.Common.{◌≤◌, ◌+◌, ◌*◌}
use Rattle.bridge_cycle.specs.declared.cyclic_list.TheConstants.{LONGEST_CYCLE}
use Rattle.bridge_port.specs.GateSchedule.{list_opens}
use Rattle.bridge_groups.specs.LinearCurves.{curve_at}
use Rattle.bridge_groups.specs.SpanSearches.{IsSearched}
use Rattle.bridge_groups.proofs.span_search.spans_bound.Given as goal

abbrev pub invariant-loop-run : goal.invariant-loop-run
invariant-loop-run g l = record {
  searched : IsSearched (list_opens l.list l.class) l.occ (curve_at l.curve) l.limits l.search;
  near : l.search.from ≤ l.start + l._run * (3 * LONGEST_CYCLE);
}
