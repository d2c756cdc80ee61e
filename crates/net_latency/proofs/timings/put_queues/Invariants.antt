use Rattle.std.proofs.Common.{◌≡◌, ◌++◌, take}
use Rattle.std.specs.Prelude.{map}
use Rattle.net_latency.specs.declared.timings.TrafficFigures.TheVariants as figures
use Rattle.net_latency.proofs.timings.put_queues.Given as goal

abbrev pub invariant-loop-queue : goal.invariant-loop-queue
invariant-loop-queue g l = l.made.items ≡ l.initial.made.items ++ map figures.Queue (take l.queue-index l.queues)
