use Rattle.std.proofs.Common.{◌≡◌, drop}
use Rattle.show_lint.specs.Filters.{is_used}
use Rattle.show_lint.proofs.unused_parts.is_used.Given as goal

abbrev pub invariant-loop-filter : goal.invariant-loop-filter
invariant-loop-filter l = is_used l.gate (drop l.filter-index l.filters) ≡ is_used l.gate l.filters
