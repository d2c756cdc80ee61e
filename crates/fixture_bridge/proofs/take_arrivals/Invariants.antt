use Rattle.std.proofs.Common.{◌≡◌}
use Rattle.bridge_core.specs.Bridges.{bridge_plan}
use Rattle.fixture_bridge.proofs.take_arrivals.Given as goal

-- The bridge keeps its plan.
abbrev pub invariant-loop-moment : goal.invariant-loop-moment
invariant-loop-moment g l = bridge_plan l.bridge ≡ bridge_plan l.fn.bridge
