use Rattle.std.proofs.Common.{◌+◌, ◌<◌, rules, subst, sym}
use Rattle.bridge_port.specs.StandsFor.{time_limit}
use Rattle.bridge_core.specs.Bridges.{BridgeStandsFor}
use Rattle.bridge_core.proofs.bridge.Bridge.advance.Goals as goal

pub returns-clause-bounded : goal.returns-clause-bounded
returns-clause-bounded g c = λ p es left stands.
    let sent = c.advance-sent.ensures.sent in
    let own = subst (λ b. BridgeStandsFor p b es left) (sym c.self.view_is) stands in
    let many = (own.leaves c.advance-sent.result.port sent.slot c.advance-sent.ensures.port sent.there).many in
    subst (λ n. c.advance-sent.result.done < time_limit (n + 1)) many sent.bounded

pub returns-clause-sends : goal.returns-clause-sends
returns-clause-sends g c = search rules

pub returns-clause-reaches : goal.returns-clause-reaches
returns-clause-reaches g c = search rules
