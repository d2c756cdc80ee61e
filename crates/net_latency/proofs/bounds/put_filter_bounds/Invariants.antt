use Rattle.net_latency.specs.Bounds.{AreBoundsSoFar}
use Rattle.net_latency.proofs.bounds.put_filter_bounds.Given as goal

abbrev pub invariant-loop-place : goal.invariant-loop-place
invariant-loop-place g l = AreBoundsSoFar l.accepted l.order l.at l.place l.rows.items
