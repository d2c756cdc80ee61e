use Rattle.std.proofs.Common.{◌≡◌, ◌≤◌}
use Rattle.bridge_check.specs.Faults.{first_among_numbers}
use Rattle.bridge_check.specs.ReachTables.{reached_queue_fault}
use Rattle.bridge_check.proofs.filter_tests.FilterCase.first_fault_on_port.Given as goal

abbrev pub invariant-loop-class : goal.invariant-loop-class
invariant-loop-class g l = (l.class ≤ 8) × (l.first ≡ first_among_numbers l.class (reached_queue_fault l.self.plan.now l.self.number l.self.filter l.test l.q))
