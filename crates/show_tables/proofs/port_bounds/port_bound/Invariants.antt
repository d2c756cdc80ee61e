use Rattle.show_tables.specs.PortBounds.{IsGreatestBound}
use Rattle.show_tables.proofs.port_bounds.port_bound.Given as goal

abbrev pub invariant-loop-class : goal.invariant-loop-class
invariant-loop-class g l = IsGreatestBound l.accepted l.filter l.port l.class l.bound
