use Rattle.std.proofs.Common.{subst, sym}
use Rattle.bridge_semantics.specs.NextStarts.{AreNextStarts}
use Rattle.bridge_core.specs.Bridges.{next_start, BridgeStandsFor}
use Rattle.bridge_core.proofs.bridge.Bridge.assert_reached.Goals as goal

pub returns-clause-next : goal.returns-clause-next
returns-clause-next g c = λ p es left stands.
    subst (λ b. AreNextStarts p es left (next_start g.G.Agenda.held b)) c.self.view_is
    (c.assert_reached.ensures.each_next p es left (subst (λ b. BridgeStandsFor p b es left) (sym c.self.view_is) stands))
