use Rattle.net_latency.specs.Bounds.{AreBoundsSoFar}
use Rattle.net_latency.proofs.bounds.put_all_bounds.Given as goal

abbrev pub invariant-loop-at : goal.invariant-loop-at
invariant-loop-at g l = AreBoundsSoFar l.accepted l.order l.at 0 l.rows.items
