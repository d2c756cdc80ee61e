use Rattle.std.proofs.Common.{take}
use Rattle.net_latency.specs.Bounds.{AreLowered}
use Rattle.net_latency.proofs.tight.lower_bounds.Given as goal

abbrev pub invariant-loop-queue : goal.invariant-loop-queue
invariant-loop-queue g l = AreLowered l.accepted (take l.queue-index l.bounds) l.made.items
