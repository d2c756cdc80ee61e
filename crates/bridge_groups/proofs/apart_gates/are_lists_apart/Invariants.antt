use Rattle.std.proofs.Common.{◌<◌, ℕ}
use Rattle.bridge_groups.specs.ApartGates.{LeavesGap}
use Rattle.bridge_groups.proofs.apart_gates.are_lists_apart.Given as goal

abbrev pub invariant-loop-index : goal.invariant-loop-index
invariant-loop-index g l = (i : ℕ) → i < l.index → LeavesGap l.lists l.gap l.cycle i
