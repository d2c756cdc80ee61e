use Rattle.std.proofs.Common.{◌≡◌, drop}
use Rattle.bridge_check.specs.Faults as spec
use Rattle.bridge_check.proofs.filter_tests.first_test_fault.Given as goal

abbrev pub invariant-loop-told : goal.invariant-loop-told
invariant-loop-told l = spec.first_test_fault (drop l.told-index l.tests) ≡ spec.first_test_fault l.fn.tests
