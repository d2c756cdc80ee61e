use Rattle.std.proofs.Common.{◌≡◌, drop, max}
use Rattle.bridge_groups.specs.Sharers as spec
use Rattle.bridge_groups.proofs.sharers.longest_sdu.Given as goal

abbrev pub invariant-loop-filter : goal.invariant-loop-filter
invariant-loop-filter l = max l.longest (spec.longest_sdu (drop l.filter-index l.filters)) ≡ spec.longest_sdu l.fn.filters
