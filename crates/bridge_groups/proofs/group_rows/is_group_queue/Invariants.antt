use Rattle.std.proofs.Common.{◌≡◌, drop}
use Rattle.bridge_groups.specs.Sharers.{has_sharer}
use Rattle.bridge_groups.proofs.group_rows.is_group_queue.Given as goal

abbrev pub invariant-loop-at : goal.invariant-loop-at
invariant-loop-at g l = has_sharer l.plan l.group l.port.number l.class (drop l.at l.plan.filters) ≡ has_sharer l.plan l.group l.port.number l.class l.plan.filters
