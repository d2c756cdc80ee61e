use Rattle.std.proofs.Common.{◌≡◌, ◌≤◌, length}
use Rattle.std.specs.Prelude.{slice_get}
use Rattle.bridge_check.specs.Faults.{first_among_numbers}
use Rattle.net_model.specs.Faults.{if_some, hop_test_fault}
use Rattle.net_model.specs.TestedNetwork.{tested_parts}
use Rattle.net_model.proofs.network_tests.TestedNetwork.stream_test_fault.Given as goal

abbrev pub invariant-loop-k : goal.invariant-loop-k
invariant-loop-k g l = (l.k ≤ length l.stream) × (l.first ≡ first_among_numbers l.k (λ k. if_some (hop_test_fault (tested_parts l.self) l.test l.i l.stream k) (slice_get l.stream k)))
