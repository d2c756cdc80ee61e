use Rattle.std.proofs.Common.{◌≡◌, nat_eq, drop}
use Rattle.std.specs.Map.{lookup}
use Rattle.bridge_report.proofs.sections.find_view.Given as goal

abbrev pub invariant-loop-f : goal.invariant-loop-f
invariant-loop-f g l = lookup (nat_eq l.filter) (drop l.f-index l.f-items) ≡ lookup (nat_eq l.filter) l.f-items
