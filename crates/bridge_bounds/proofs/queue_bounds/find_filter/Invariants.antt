use Rattle.std.proofs.Common.{◌≡◌, drop, nat_eq}
use Rattle.std.specs.Map.{lookup}
use Rattle.bridge_bounds.proofs.queue_bounds.find_filter.Given as goal

abbrev pub invariant-loop-filter : goal.invariant-loop-filter
invariant-loop-filter l = lookup (nat_eq l.number) (drop l.filter-index l.filters) ≡ lookup (nat_eq l.number) l.filters
