use Rattle.std.proofs.Common.{◌≡◌, drop}
use Rattle.show_lint.specs.Filters.{has_tested}
use Rattle.show_lint.proofs.unused_parts.has_tested.Given as goal

abbrev pub invariant-loop-filter : goal.invariant-loop-filter
invariant-loop-filter l = has_tested (drop l.filter-index l.filters) ≡ has_tested l.filters
