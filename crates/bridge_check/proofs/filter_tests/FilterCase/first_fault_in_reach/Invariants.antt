use Rattle.std.proofs.Common.{◌≡◌, ◌≤◌, ◌+◌}
use Rattle.bridge_check.specs.Faults.{first_among_numbers}
use Rattle.bridge_check.specs.ReachTables.{reached_queue_fault}
use Rattle.bridge_check.proofs.filter_tests.FilterCase.first_fault_in_reach.Given as goal

abbrev pub invariant-loop-i : goal.invariant-loop-i
invariant-loop-i g l = (l.i ≤ 16) × (l.first ≡ first_among_numbers l.i (λ i. first_among_numbers 8 (reached_queue_fault l.self.plan.now l.self.number l.self.filter l.test (i + 1))))
