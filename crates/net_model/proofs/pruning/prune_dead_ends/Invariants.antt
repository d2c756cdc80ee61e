use Rattle.net_model.specs.Pruning.{IsPruned}
use Rattle.net_model.proofs.pruning.prune_dead_ends.Given as goal

abbrev pub invariant-loop : goal.invariant-loop
invariant-loop g l = IsPruned l.steps l.kept.items
