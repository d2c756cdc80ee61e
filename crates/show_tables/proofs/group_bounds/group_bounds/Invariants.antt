use Rattle.std.proofs.Common.{◌≡◌, ◌+◌, length}
use Rattle.show_tables.specs.GroupBounds.{AreGroupBoundsByPort}
use Rattle.show_tables.proofs.group_bounds.group_bounds.Given as goal

abbrev pub invariant-loop-port : goal.invariant-loop-port
invariant-loop-port g l = record {
  many : length l.bounds.items + 1 ≡ l.port;
  all : AreGroupBoundsByPort l.queues l.group l.bounds.items;
}
