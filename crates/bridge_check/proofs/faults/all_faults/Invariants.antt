use Rattle.std.proofs.Common.{◌≡◌, ◌++◌, drop}
use Rattle.std.specs.Prelude.{flat_map}
use Rattle.bridge_check.specs.Faults.{all_faults, filter_failures}
use Rattle.bridge_check.proofs.faults.all_faults.Given as goal

abbrev pub invariant-loop-number : goal.invariant-loop-number
invariant-loop-number g l = l.faults.items ++ flat_map (filter_failures l.plan) (drop l.number-index l.plan.filters) ≡ all_faults l.fn.plan
