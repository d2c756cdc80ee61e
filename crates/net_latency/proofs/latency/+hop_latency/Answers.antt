use Rattle.std.proofs.Common.{◌≤◌, arith, length, refl, rules, subst}
use Rattle.net_latency.specs.StreamLatency.{KeepsHeadroom, stream_model}
use Rattle.net_latency.proofs.Gathering.{gathered_next, told_all}
use Rattle.net_latency.proofs.latency.+hop_latency.Goals as goal

pub queue_latency-hop_latency-requires : goal.queue_latency-hop_latency-requires
queue_latency-hop_latency-requires g t c κs within =
    let keeps = subst (KeepsHeadroom c.args.depth) c.in-Next.is (c.in_ok-stop.ensures.keeps c.args.depth c.requires.room) in
    let room = keeps.0 in
    let traffic = keeps.1 in
    search rules

pub hop_latency-loop-queue-preserved : goal.hop_latency-loop-queue-preserved
hop_latency-loop-queue-preserved g t c =
    gathered_next _ _ _ _ _ c.args.case.now.queues.now c.loop-queue.queue-index _ _ c.loop-queue.gathered _ c.loop-queue-test.true c.loop-queue.invariant c.add_queue_latency-gathered.ensures refl

pub hop_latency-returns : goal.hop_latency-returns
hop_latency-returns g t c =
    let some : 1 ≤ c.args.depth = omega arith in
    let whole : length c.args.case.now.queues.now ≤ c.loop-queue.queue-index = omega arith in
    told_all (stream_model c.args.case.now) c.args.depth c.args.hop c.args.came.now _ c.args.case.now.queues.now c.loop-queue.queue-index c.loop-queue.gathered _ some whole refl c.hop_passes-passes.ensures c.loop-queue.invariant c.known_latency.ensures
