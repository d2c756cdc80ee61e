use Rattle.std.proofs.Common.{◌≤◌, ◌-◌}
use Rattle.bridge_groups.specs.MergedGates.{AreMergedEntries}
use Rattle.bridge_groups.proofs.merged_gates.merged_entries.Given as goal

abbrev pub invariant-loop-seen : goal.invariant-loop-seen
invariant-loop-seen g l = record {
  are : AreMergedEntries l.lists l.entries.items 0 l.seen;
  upto : l.seen ≤ l.cycle;
}

abbrev pub decreases-loop-seen : goal.decreases-loop-seen
decreases-loop-seen g l = l.cycle - l.seen
