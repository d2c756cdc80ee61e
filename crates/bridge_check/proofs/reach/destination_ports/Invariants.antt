use Rattle.std.proofs.Common.{◌≡◌, ◌+◌, take}
use Rattle.bridge_check.specs.Reach.{leads_through_port}
use Rattle.bridge_check.specs.ReachTables.{test_results}
use Rattle.bridge_check.proofs.reach.destination_ports.Given as goal

abbrev pub invariant-loop-stream : goal.invariant-loop-stream
invariant-loop-stream g l = l.ports ≡ test_results 16 (λ i. leads_through_port l.plan.database l.handle (i + 1) (take l.stream-index l.plan.streams))
