use Rattle.bridge_groups.specs.ApartGates.{LeavesGap}
use Rattle.bridge_groups.proofs.apart_gates.leaves_gap.Given as goal

abbrev pub invariant-loop-interval : goal.invariant-loop-interval
invariant-loop-interval g l = LeavesGap l.lists l.gap l.seen l.own
