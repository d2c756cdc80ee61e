use Rattle.std.proofs.Common.{◌≤◌}
use Rattle.bridge_groups.proofs.cost_search.next_search_sdu.Given as goal

abbrev pub invariant-loop-filter : goal.invariant-loop-filter
invariant-loop-filter l = l.longest ≤ l.most
