use Rattle.std.proofs.Common.{sym, ◌∙◌}
use Rattle.bridge_core.specs.Bridges.{bridge_plan}
use Rattle.fixture_bridge.proofs.Known.{known}
use Rattle.fixture_bridge.proofs.hand.Goals as goal

pub arrive-requires-clause-known : goal.arrive-requires-clause-known
arrive-requires-clause-known g c = known (bridge_plan c.args.bridge.now) c.plan.result.now c.args.port c.in-Some.field-0.now (c.requires.plan ∙ sym c.plan.ensures.plan) c.in-Some.ensures.port
