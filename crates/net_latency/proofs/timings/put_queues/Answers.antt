use Rattle.std.proofs.Common.{◌∙◌, ◌++◌, ap, map, take_all}
use Rattle.net_latency.specs.declared.timings.TrafficFigures.TheVariants as figures
use Rattle.net_latency.proofs.Gathered.{map_behind}
use Rattle.net_latency.proofs.timings.put_queues.Goals as goal

pub loop-queue-preserved : goal.loop-queue-preserved
loop-queue-preserved g c =
    map_behind figures.Queue c.args.made.now.items c.args.queues.now c.loop-queue.queue-index _ c.loop-queue.made.items _ c.loop-queue-test.true c.loop-queue.invariant c.in-Ok.ensures.items

pub returns : goal.returns
returns g c = c.loop-queue.invariant ∙ ap (λ l. c.args.made.now.items ++ map figures.Queue l) (take_all c.loop-queue.queue-index c.args.queues.now c.loop-queue-test.false)
