use Rattle.std.proofs.Common.{◌≡◌, take}
use Rattle.show_tables.specs.DelayTable.{port_delays}
use Rattle.show_tables.proofs.delay_figures.port_delays.Given as goal

abbrev pub invariant-loop-departure : goal.invariant-loop-departure
invariant-loop-departure g l = l.delays.items ≡ port_delays l.origins l.port (take l.departure-index l.departures)
