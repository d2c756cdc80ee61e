use Rattle.std.proofs.Common.{take}
use Rattle.net_latency.specs.Traffic.{AreRowTimings}
use Rattle.net_latency.proofs.timings.row_timings.Given as goal

abbrev pub invariant-loop-bound : goal.invariant-loop-bound
invariant-loop-bound g l = AreRowTimings l.accepted l.index l.row (take l.bound-index l.bounds) l.made.items
