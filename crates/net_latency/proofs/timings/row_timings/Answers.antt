use Rattle.std.proofs.Common.{subst, sym, take, take_all}
use Rattle.std.proofs.lemmas.List.{take_more}
use Rattle.net_latency.specs.Traffic.{AreRowTimings}
use Rattle.net_latency.proofs.Gathered.{in_at}
use Rattle.net_latency.proofs.timings.row_timings.Goals as goal

pub push_queue_timing-requires-clause-bound : goal.push_queue_timing-requires-clause-bound
push_queue_timing-requires-clause-bound g c = c.requires.bounds.each _ (in_at c.args.bounds.now c.loop-bound.bound-index _ c.loop-bound-test.true)

pub loop-bound-preserved : goal.loop-bound-preserved
loop-bound-preserved g c =
    let bounds = c.args.bounds.now in
    let i = c.loop-bound.bound-index in
    subst (λ l. AreRowTimings c.args.accepted.now c.args.index c.args.row.now l c.push_queue_timing.new.made.items) (sym (take_more bounds i _ c.loop-bound-test.true)) (c.in-Ok.ensures.one_more (take i bounds) c.loop-bound.invariant)

pub returns : goal.returns
returns g c = subst (λ l. AreRowTimings c.args.accepted.now c.args.index c.args.row.now l c.loop-bound.made.items) (take_all c.loop-bound.bound-index c.args.bounds.now c.loop-bound-test.false) c.loop-bound.invariant
