use Rattle.std.proofs.Common.{◌≡◌, take}
use Rattle.net_report.specs.Counting.{with_departures}
use Rattle.net_report.proofs.copy_counting.count_departures.Given as goal

abbrev pub invariant-loop-departure : goal.invariant-loop-departure
invariant-loop-departure l = l.tallies ≡ with_departures l.ways l.roots l.initial.tallies (take l.departure-index l.departures)
