use Rattle.std.proofs.Common.{◌≡◌, drop}
use Rattle.show_lint.specs.Filters.{first_hiding_filter}
use Rattle.show_lint.proofs.unused_parts.first_hiding_filter.Given as goal

abbrev pub invariant-loop-lower : goal.invariant-loop-lower
invariant-loop-lower l = first_hiding_filter l.filter l.number (drop l.lower-index l.filters) ≡ first_hiding_filter l.filter l.number l.filters
