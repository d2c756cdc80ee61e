use Rattle.std.proofs.Common.{◌≡◌, drop, nat_eq}
use Rattle.show_lint.specs.Filters.{first_other_filter}
use Rattle.show_lint.proofs.check_explanation.other_with_gate.Given as goal

abbrev pub invariant-loop-filter : goal.invariant-loop-filter
invariant-loop-filter l = first_other_filter (λ f. nat_eq f.gate l.gate) l.number (drop l.filter-index l.filters) ≡ first_other_filter (λ f. nat_eq f.gate l.gate) l.number l.filters
