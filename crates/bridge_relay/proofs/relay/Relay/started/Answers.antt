use Rattle.std.proofs.Common.{◌≡◌, ◌≤◌, ◌∙◌, Some, ap, arith, subst, sym}
use Rattle.bridge_relay.specs.declared.port_state.PortState.{PortState}
use Rattle.bridge_config.specs.Rules.{find_port}
use Rattle.bridge_relay.specs.Ports.{port_state}
use Rattle.bridge_relay.specs.RelayState.{IsSound}
use Rattle.bridge_relay.proofs.Relayed.{port_is}
use Rattle.bridge_relay.proofs.Ways.{slot_of}
use Rattle.bridge_relay.proofs.relay.Relay.started.Goals as goal

pub started-requires-clause-from : goal.started-requires-clause-from
started-requires-clause-from g c =
    let now = c.args.self.now in
    let sound : IsSound g.G.Agenda.held now = subst (IsSound g.G.Agenda.held) c.self.view_is c.self.invariant in
    let is = port_is now.plan.ports c.args.port c.requires.known.0 sound.rules.ports.each c.requires.known.1 in
    let from = is.0.number_from in
    let number = is.1 in
    omega (arith, from, number)

pub started-requires-clause-there : goal.started-requires-clause-there
started-requires-clause-there g c =
    let now = c.args.self.now in
    let sound : IsSound g.G.Agenda.held now = subst (IsSound g.G.Agenda.held) c.self.view_is c.self.invariant in
    let is = port_is now.plan.ports c.args.port c.requires.known.0 sound.rules.ports.each c.requires.known.1 in
    let from = is.0.number_from in
    let number = is.1 in
    let low : 1 ≤ c.args.port = omega (arith, from, number) in
    let there = slot_of (find_port now.plan.ports c.args.port) (port_state now.ports c.args.port) c.requires.known.0 (sound.alike c.args.port low) c.requires.known.1 in
    subst (λ b. (s : PortState _) × (port_state b.ports c.args.port ≡ Some s)) (sym c.self.view_is) there

pub returns : goal.returns
returns g c = λ p es left stands.
    let now = c.args.self.now in
    let sound : IsSound g.G.Agenda.held now = subst (IsSound g.G.Agenda.held) c.self.view_is c.self.invariant in
    let is = port_is now.plan.ports c.args.port c.requires.known.0 sound.rules.ports.each c.requires.known.1 in
    let from = is.0.number_from in
    let number = is.1 in
    let low : 1 ≤ c.args.port = omega (arith, from, number) in
    let slot = slot_of (find_port now.plan.ports c.args.port) (port_state now.ports c.args.port) c.requires.known.0 (sound.alike c.args.port low) c.requires.known.1 in
    let at = ap (λ b. port_state b.ports c.args.port) c.self.view_is ∙ slot.1 in
    c.started.ensures slot.0 at ∙ (stands.leaves c.args.port slot.0 low slot.1).many
