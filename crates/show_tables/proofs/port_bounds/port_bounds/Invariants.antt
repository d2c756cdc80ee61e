use Rattle.std.proofs.Common.{◌≡◌, ◌+◌, length}
use Rattle.show_tables.specs.PortBounds.{AreBoundsByPort}
use Rattle.show_tables.proofs.port_bounds.port_bounds.Given as goal

abbrev pub invariant-loop-port : goal.invariant-loop-port
invariant-loop-port g l = record {
  many : length l.bounds.items + 1 ≡ l.port;
  all : AreBoundsByPort l.accepted l.filter l.bounds.items;
}
