use Rattle.std.proofs.Common.{◌≡◌, drop}
use Rattle.show_lint.specs.Filters.{taker_at}
use Rattle.show_lint.proofs.unused_parts.taking_filter.Given as goal

abbrev pub invariant-loop-lower : goal.invariant-loop-lower
invariant-loop-lower l = taker_at l.filter l.number l.priority (drop l.lower-index l.filters) ≡ taker_at l.filter l.number l.priority l.filters
