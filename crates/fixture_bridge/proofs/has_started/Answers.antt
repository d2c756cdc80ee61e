use Rattle.std.proofs.Common.{sym, ◌∙◌}
use Rattle.bridge_core.specs.Bridges.{bridge_plan}
use Rattle.fixture_bridge.proofs.Known.{known}
use Rattle.fixture_bridge.proofs.has_started.Goals as goal

pub started-requires : goal.started-requires
started-requires g c = known (bridge_plan c.args.bridge.now) c.plan.result.now c.args.port c.in-Some.field-0.now (c.requires.plan ∙ sym c.plan.ensures.plan) c.in-Some.ensures.port
