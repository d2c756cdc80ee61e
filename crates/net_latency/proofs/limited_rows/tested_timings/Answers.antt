use Rattle.std.proofs.Common.{subst, sym, take, take_all}
use Rattle.std.proofs.lemmas.List.{take_more}
use Rattle.net_latency.specs.LimitedTraffic.{AreLimitedTimings}
use Rattle.net_latency.proofs.Gathered.{in_at}
use Rattle.net_latency.proofs.limited_rows.tested_timings.Goals as goal

pub push_limited_timing-requires-clause-shared : goal.push_limited_timing-requires-clause-shared
push_limited_timing-requires-clause-shared g c = c.requires.shared.each _ (in_at c.args.shared.now c.loop-queue.queue-index _ c.loop-queue-test.true)

pub loop-queue-preserved : goal.loop-queue-preserved
loop-queue-preserved g c =
    let shared = c.args.shared.now in
    let i = c.loop-queue.queue-index in
    subst (λ l. AreLimitedTimings c.args.accepted.now c.args.tested.now.index c.args.tested.now.row l c.push_limited_timing.new.made.items) (sym (take_more shared i _ c.loop-queue-test.true)) (c.in-Ok.ensures.one_more (take i shared) c.loop-queue.invariant)

pub returns : goal.returns
returns g c = subst (λ l. AreLimitedTimings c.args.accepted.now c.args.tested.now.index c.args.tested.now.row l c.loop-queue.made.items) (take_all c.loop-queue.queue-index c.args.shared.now c.loop-queue-test.false) c.loop-queue.invariant
