use Rattle.std.proofs.Common.{length}
use Rattle.net_model.specs.Searching.{IsSearchState}
use Rattle.net_model.proofs.loop_search.is_on_loop.Given as goal

abbrev pub invariant-loop-pending : goal.invariant-loop-pending
invariant-loop-pending g l = IsSearchState l.steps l.start l.reached.items l.pending.items

abbrev pub decreases-loop-pending : goal.decreases-loop-pending
decreases-loop-pending g l = length l.pending.items
