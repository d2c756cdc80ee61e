use Rattle.std.proofs.Common.{◌≡◌, drop, nat_eq}
use Rattle.std.specs.Map.{lookup}
use Rattle.net_check.proofs.warning_lines.filter_sdu.Given as goal

abbrev pub invariant-loop-filter : goal.invariant-loop-filter
invariant-loop-filter g l = lookup (nat_eq l.number) l.plan.filters ≡ lookup (nat_eq l.number) (drop l.filter-index l.plan.filters)
