use Rattle.std.proofs.Common.{◌≡◌, ◌++◌, drop}
use Rattle.bridge_check.specs.Faults.{failed_tests}
use Rattle.bridge_check.proofs.faults.push_failing.Given as goal

abbrev pub invariant-loop-told : goal.invariant-loop-told
invariant-loop-told g l = l.faults.items ++ failed_tests (drop l.told-index l.tests) ≡ l.fn.faults.items ++ failed_tests l.fn.tests
