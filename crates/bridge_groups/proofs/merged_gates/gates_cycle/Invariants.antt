use Rattle.std.proofs.Common.{◌≤◌}
use Rattle.bridge_cycle.specs.declared.cyclic_list.TheConstants.{LONGEST_CYCLE}
use Rattle.bridge_groups.proofs.merged_gates.gates_cycle.Given as goal

abbrev pub invariant-loop-list : goal.invariant-loop-list
invariant-loop-list g l = record {
  some : 1 ≤ l.cycle;
  upto : l.cycle ≤ LONGEST_CYCLE;
}
