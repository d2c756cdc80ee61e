use Rattle.std.proofs.Common.{subst, sym, take, take_all}
use Rattle.std.proofs.lemmas.List.{take_more}
use Rattle.net_latency.specs.Bounds.{AreTightened}
use Rattle.net_latency.proofs.Gathered.{in_at}
use Rattle.net_latency.proofs.tight.tighten_bounds.Goals as goal

pub put_tight_bound-requires : goal.put_tight_bound-requires
put_tight_bound-requires g c = record { bound = c.requires.bounds.each _ (in_at c.args.bounds.now c.loop-bound.bound-index _ c.loop-bound-test.true) }

pub loop-bound-preserved : goal.loop-bound-preserved
loop-bound-preserved g c =
    let bounds = c.args.bounds.now in
    let i = c.loop-bound.bound-index in
    subst (λ l. AreTightened c.args.accepted.now l c.put_tight_bound.new.made.items) (sym (take_more bounds i _ c.loop-bound-test.true)) (c.in-Ok.ensures.one_more (take i bounds) c.loop-bound.invariant)

pub returns : goal.returns
returns g c = subst (λ l. AreTightened c.args.accepted.now l c.loop-bound.made.items) (take_all c.loop-bound.bound-index c.args.bounds.now c.loop-bound-test.false) c.loop-bound.invariant
