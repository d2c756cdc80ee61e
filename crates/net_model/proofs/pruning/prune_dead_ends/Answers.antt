use Rattle.net_model.proofs.Laid.{laid_first, laid_more}
use Rattle.net_model.proofs.pruning.prune_dead_ends.Goals as goal

pub loop-init : goal.loop-init
loop-init g c = laid_first _ _ c.in_ok-kept.ensures

pub returns-then-len : goal.returns-then-len
returns-then-len g c = laid_more _ c.loop.kept.items _ c.loop.invariant (rw c.deref.ensures.value at c.in_ok-next.ensures)

pub loop-preserved : goal.loop-preserved
loop-preserved g c = laid_more _ c.loop.kept.items _ c.loop.invariant (rw c.deref.ensures.value at c.in_ok-next.ensures)
