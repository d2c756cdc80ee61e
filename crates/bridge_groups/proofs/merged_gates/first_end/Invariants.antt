use Rattle.std.proofs.Common.{◌≡◌, ◌≤◌, ◌<◌, drop}
use Rattle.bridge_groups.specs.MergedGates.{first_end}
use Rattle.bridge_groups.proofs.merged_gates.first_end.Given as goal

abbrev pub invariant-loop-list : goal.invariant-loop-list
invariant-loop-list g l = record {
  rest : first_end (drop l.list-index l.lists) l.at l.end ≡ first_end l.fn.lists l.at l.until;
  after : l.at < l.end;
  upto : l.end ≤ l.until;
}
