use Rattle.std.proofs.Common.{subst, sym}
use Rattle.bridge_core.specs.Bridges.{BridgeStandsFor}
use Rattle.bridge_core.proofs.bridge.Bridge.started.Goals as goal

pub returns : goal.returns
returns g c = λ p es left stands. c.started.ensures p es left (subst (λ b. BridgeStandsFor p b es left) (sym c.self.view_is) stands)
