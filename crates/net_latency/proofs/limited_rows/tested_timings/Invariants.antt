use Rattle.std.proofs.Common.{take}
use Rattle.net_latency.specs.LimitedTraffic.{AreLimitedTimings}
use Rattle.net_latency.proofs.limited_rows.tested_timings.Given as goal

abbrev pub invariant-loop-queue : goal.invariant-loop-queue
invariant-loop-queue g l = AreLimitedTimings l.accepted l.tested.index l.tested.row (take l.queue-index l.shared) l.made.items
