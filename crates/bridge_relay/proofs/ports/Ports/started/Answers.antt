use Rattle.std.proofs.Common.{◌≡◌, ℕ, ◌-◌, ◌<◌, ◌∙◌, ap, sym, subst, Some}
use Rattle.bridge_relay.specs.declared.port_state.PortState.{PortState}
use Rattle.bridge_relay.specs.Ports.{PortsState, port_state}
use Rattle.bridge_relay.proofs.Porting.{below, here, not_none, same_slot}
use Rattle.bridge_relay.proofs.ports.Ports.started.Goals as goal

pub index-requires : goal.index-requires
index-requires g c =
    let there = c.requires.there in
    let given = subst (λ (z : PortsState _ _). port_state z c.args.number ≡ Some there.0) (sym c.self.view_is) there.1 in
    let slots = c.self.inside.slots in
    subst (λ (n : ℕ). c.args.number - 1 < n) (sym slots.ok.0) (below slots.items c.args.number there.0 given)

pub unreachable-requires : goal.unreachable-requires
unreachable-requires g c =
    let there = c.requires.there in
    let given = subst (λ (z : PortsState _ _). port_state z c.args.number ≡ Some there.0) (sym c.self.view_is) there.1 in
    not_none c.self.inside.slots.items c.args.number c.index.result.now there.0 given c.index.ensures c.in-None.is

pub returns : goal.returns
returns g c = λ s is.
    let slots = c.self.inside.slots.items in
    let q = c.args.number in
    let given = subst (λ (z : PortsState _ _). port_state z q ≡ Some s) (sym c.self.view_is) is in
    let at = here slots q c.index.result.now c.in-Some.slot (below slots q s given) c.index.ensures c.in-Some.is in
    c.started.ensures ∙ ap (λ (v : PortState _). v.port.started) (same_slot slots q c.in-Some.slot s at given)
