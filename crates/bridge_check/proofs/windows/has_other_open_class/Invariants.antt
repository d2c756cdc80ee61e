use Rattle.std.proofs.Common.{◌≡◌, ◌≤◌, ◌&&◌, not, nat_eq}
use Rattle.bridge_cycle.specs.Fits.{is_open}
use Rattle.bridge_check.specs.Reach.{some_number_passes}
use Rattle.bridge_check.proofs.windows.has_other_open_class.Given as goal

abbrev pub invariant-loop-other : goal.invariant-loop-other
invariant-loop-other l = (l.other ≤ 8) × (l.found ≡ some_number_passes l.other (λ d. not (nat_eq d l.class) && is_open l.state d))
