use Rattle.bridge_groups.specs.ApartGates.{IsClosedUntil}
use Rattle.bridge_groups.proofs.apart_gates.is_closed.Given as goal

abbrev pub invariant-loop-interval : goal.invariant-loop-interval
invariant-loop-interval g l = IsClosedUntil l.list l.from l.seen
