use Rattle.std.proofs.Common.{◌≡◌, drop}
use Rattle.show_lint.specs.Filters.{tested_with}
use Rattle.show_lint.proofs.unused_parts.tested_filter_with_gate.Given as goal

abbrev pub invariant-loop-filter : goal.invariant-loop-filter
invariant-loop-filter l = tested_with l.gate (drop l.filter-index l.filters) ≡ tested_with l.gate l.filters
