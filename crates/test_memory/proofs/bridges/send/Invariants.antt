use Rattle.std.proofs.Common.{◌≡◌}
use Rattle.bridge_core.specs.Bridges.{bridge_plan, bridge_queued}
use Rattle.test_memory.proofs.bridges.send.Given as goal

-- The bridge keeps its plan.
abbrev pub invariant-loop-bridge : goal.invariant-loop-bridge
invariant-loop-bridge g l = bridge_plan l.bridge ≡ bridge_plan l.fn.bridge

-- Each iteration has fewer queued copies.
abbrev pub decreases-loop-bridge : goal.decreases-loop-bridge
decreases-loop-bridge g l = bridge_queued l.bridge
