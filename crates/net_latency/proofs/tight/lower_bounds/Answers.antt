use Rattle.std.proofs.Common.{◌+◌, [], ◌∷◌, ◌++◌, subst, sym, take, take_all}
use Rattle.std.proofs.lemmas.List.{take_more}
use Rattle.net_latency.specs.Bounds.{AreLowered}
use Rattle.net_latency.proofs.Gathered.{in_at}
use Rattle.net_latency.proofs.Lowered.{lower_more}
use Rattle.net_latency.proofs.tight.lower_bounds.Goals as goal

pub lower_bound-row-requires : goal.lower_bound-row-requires
lower_bound-row-requires g c = record { bound = c.requires.bounds.each _ (in_at c.args.bounds.now c.loop-queue.queue-index _ c.loop-queue-test.true) }

pub loop-queue-preserved : goal.loop-queue-preserved
loop-queue-preserved g c =
    let bounds = c.args.bounds.now in
    let i = c.loop-queue.queue-index in
    let more = lower_more c.args.accepted.now _ _ (take i bounds) c.loop-queue.made.items c.lower_bound-row.ensures c.loop-queue.invariant in
    subst (λ l. AreLowered c.args.accepted.now (take (i + 1) bounds) l) (sym c.in-Ok.ensures.items)
    (subst (λ l. AreLowered c.args.accepted.now l (c.loop-queue.made.items ++ c.lower_bound-row.result ∷ [])) (sym (take_more bounds i _ c.loop-queue-test.true)) more)

pub returns : goal.returns
returns g c = subst (λ l. AreLowered c.args.accepted.now l c.loop-queue.made.items) (take_all c.loop-queue.queue-index c.args.bounds.now c.loop-queue-test.false) c.loop-queue.invariant
