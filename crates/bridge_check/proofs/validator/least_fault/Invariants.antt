use Rattle.std.proofs.Common.{◌≡◌, drop}
use Rattle.bridge_check.specs.Faults.{lesser_fault, least_fault}
use Rattle.bridge_check.proofs.validator.least_fault.Given as goal

abbrev pub invariant-loop-number : goal.invariant-loop-number
invariant-loop-number g l = lesser_fault l.least (least_fault l.plan (drop l.number-index l.plan.filters)) ≡ least_fault l.plan l.plan.filters
