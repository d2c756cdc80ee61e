use Rattle.std.proofs.Common.{◌≡◌, ◌≤◌, length}
use Rattle.std.specs.Prelude.{slice_get}
use Rattle.bridge_check.specs.Faults.{first_among_numbers}
use Rattle.net_model.specs.Faults.{if_some, link_test_fault}
use Rattle.net_model.specs.TestedNetwork.{tested_parts}
use Rattle.net_model.proofs.network_tests.TestedNetwork.link_fault.Given as goal

abbrev pub invariant-loop-i : goal.invariant-loop-i
invariant-loop-i g l = (l.i ≤ length l.self.links.now) × (l.first ≡ first_among_numbers l.i (λ i. if_some (link_test_fault (tested_parts l.self) l.test i) (slice_get l.self.links.now i)))
