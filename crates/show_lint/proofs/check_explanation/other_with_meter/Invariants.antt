use Rattle.std.proofs.Common.{◌≡◌, drop}
use Rattle.show_lint.specs.Filters.{has_meter, first_other_filter}
use Rattle.show_lint.proofs.check_explanation.other_with_meter.Given as goal

abbrev pub invariant-loop-filter : goal.invariant-loop-filter
invariant-loop-filter l = first_other_filter (has_meter l.meter) l.number (drop l.filter-index l.filters) ≡ first_other_filter (has_meter l.meter) l.number l.filters
