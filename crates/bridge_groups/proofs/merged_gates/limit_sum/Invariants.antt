use Rattle.std.proofs.Common.{◌≡◌, ◌≤◌, ◌+◌, ◌*◌, drop}
use Rattle.bridge_groups.specs.MergedGates.{limit_sum}
use Rattle.bridge_groups.proofs.merged_gates.limit_sum.Given as goal

abbrev pub invariant-loop-list : goal.invariant-loop-list
invariant-loop-list g l = record {
  total : l.sum + limit_sum (drop l.list-index l.lists) l.at ≡ limit_sum l.fn.lists l.at;
  few : l.sum ≤ l.list-index * 4294967295;
}
