use Rattle.std.proofs.Common.{◌≡◌, take}
use Rattle.net_report.specs.HopCounts.{delays_at_hop}
use Rattle.net_report.proofs.hop_counting.delays_at_hop.Given as goal

abbrev pub invariant-loop-departure : goal.invariant-loop-departure
invariant-loop-departure g l = l.delays.items ≡ delays_at_hop l.origins (take l.departure-index l.departures)
