use Rattle.std.proofs.Common.{◌≡◌, drop, fold}
use Rattle.show_tables.specs.GroupBounds.{greater_at, group_bound}
use Rattle.show_tables.proofs.group_bounds.group_bound.Given as goal

abbrev pub invariant-loop-queue : goal.invariant-loop-queue
invariant-loop-queue l = fold (greater_at l.group l.port) l.bound (drop l.queue-index l.queues) ≡ group_bound l.fn.queues l.group l.port
