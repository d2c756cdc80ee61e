use Rattle.std.proofs.Common.{◌≡◌}
use Rattle.bridge_core.specs.Bridges.{bridge_plan, bridge_queued}
use Rattle.fixture_bridge.proofs.depart.Given as goal

-- The bridge keeps its plan.
abbrev pub invariant-loop-port : goal.invariant-loop-port
invariant-loop-port g l = bridge_plan l.bridge ≡ bridge_plan l.fn.bridge

-- Each iteration has fewer queued copies.
abbrev pub decreases-loop-port : goal.decreases-loop-port
decreases-loop-port g l = bridge_queued l.bridge
