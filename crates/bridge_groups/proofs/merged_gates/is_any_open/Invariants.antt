use Rattle.std.proofs.Common.{◌≡◌, drop}
use Rattle.bridge_groups.specs.MergedGates.{is_any_open}
use Rattle.bridge_groups.proofs.merged_gates.is_any_open.Given as goal

abbrev pub invariant-loop-list : goal.invariant-loop-list
invariant-loop-list g l = is_any_open (drop l.list-index l.lists) l.at ≡ is_any_open l.fn.lists l.at
