use Rattle.std.proofs.Common.{◌≡◌, ◌≤◌, ◌+◌}
use Rattle.bridge_check.specs.Faults.{first_among_numbers}
use Rattle.net_model.specs.Faults.{first_taken_at_port_number}
use Rattle.net_model.specs.TestedNetwork.{tested_parts}
use Rattle.net_model.proofs.network_tests.TestedHop.first_frame_by_port.Given as goal

abbrev pub invariant-loop-j : goal.invariant-loop-j
invariant-loop-j g l = (l.j ≤ 16) × (l.first ≡ first_among_numbers l.j (λ j. first_taken_at_port_number l.question (tested_parts l.self.case) l.self.stream.now l.self.hop l.self.next.now (j + 1)))
