use Rattle.std.proofs.Common.{◌≡◌, take}
use Rattle.net_report.specs.HopCounts.{departure_delays}
use Rattle.net_report.proofs.hop_counting.departure_delays.Given as goal

abbrev pub invariant-loop-departure : goal.invariant-loop-departure
invariant-loop-departure g l = l.delays.items ≡ departure_delays l.ways l.roots (take l.departure-index l.departures)
