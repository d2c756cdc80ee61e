use Rattle.std.proofs.Common.{◌≡◌, ◌++◌, drop}
use Rattle.bridge_groups.specs.Sharers as spec
use Rattle.bridge_groups.proofs.sharers.queue_sharers.Given as goal

abbrev pub invariant-loop-at : goal.invariant-loop-at
invariant-loop-at g l = l.sharers.items ++ spec.queue_sharers l.plan l.group l.port.number l.class (drop l.at l.plan.filters) ≡ spec.queue_sharers l.plan l.group l.port.number l.class l.plan.filters
