use Rattle.bridge_groups.proofs.ApartGates.{AreOthersClosedBefore}
use Rattle.bridge_groups.proofs.apart_gates.are_others_closed.Given as goal

abbrev pub invariant-loop-index : goal.invariant-loop-index
invariant-loop-index g l = AreOthersClosedBefore l.lists l.own l.from l.until l.index
