use Rattle.std.proofs.Common.{◌≡◌, ◌≤◌, ◌<◌, ◌+◌, arith, sym, subst, refl, Some}
use Rattle.bridge_relay.specs.declared.port_state.PortState.{PortState}
use Rattle.bridge_relay.specs.Ports.{port_state}
use Rattle.bridge_relay.specs.RelayState.{RelayState, RelayStandsFor}
use Rattle.bridge_relay.specs.RelayedFrames.{HasCountedFrame}
use Rattle.bridge_relay.proofs.Passing.{sound_passed, stands_passed}
use Rattle.bridge_relay.proofs.relay.Relay.count_unforwarded.Goals as goal

pub count_arrival-requires-clause-there : goal.count_arrival-requires-clause-there
count_arrival-requires-clause-there g c =
    let there = subst (λ (v : RelayState _ _). (s : PortState _) × (port_state v.ports c.args.port ≡ Some s)) (sym c.self.view_is) c.requires.known in
    let few = subst (λ (v : RelayState _ _). v.arrived < 16000000) (sym c.self.view_is) c.requires.few in
    let frames = c.self.invariant.frames c.args.port there.0 c.requires.from there.1 in
    (there.0, there.1, omega (arith, few, frames))

pub invariant_of-self : goal.invariant_of-self
invariant_of-self g c =
    let b = c.self.inside in
    let old : RelayState _ _ = record { plan = b.plan.now; streams = b.ident; police = b.police; ports = b.ports; tables = b.tables.entries; arrived = b.arrived; earliest = b.earliest } in
    let new : RelayState _ _ = record { plan = b.plan.now; streams = b.ident; police = b.police; ports = c.count_arrival.new.self; tables = b.tables.entries; arrived = b.arrived + 1; earliest = c.args.t } in
    let there = subst (λ (v : RelayState _ _). (s : PortState _) × (port_state v.ports c.args.port ≡ Some s)) (sym c.self.view_is) c.requires.known in
    let few = subst (λ (v : RelayState _ _). v.arrived < 16000000) (sym c.self.view_is) c.requires.few in
    let time = subst (λ (v : RelayState _ _). v.earliest ≤ c.args.t) (sym c.self.view_is) c.requires.time in
    let h : HasCountedFrame old new c.args.port there.0 c.args.t c.args.came = record { slots = c.count_arrival.ensures.slots there.0 there.1; agenda = c.count_arrival.ensures.agenda; tables = refl; plan = refl; streams = refl; police = refl; arrived = refl; earliest = refl } in
    sound_passed g.G.Agenda.held old new c.args.port there.0 c.args.t c.args.came c.self.invariant h there.1 c.requires.from time few

pub returns-clause-passed : goal.returns-clause-passed
returns-clause-passed g c =
    let b = c.self.inside in
    let old : RelayState _ _ = record { plan = b.plan.now; streams = b.ident; police = b.police; ports = b.ports; tables = b.tables.entries; arrived = b.arrived; earliest = b.earliest } in
    let new : RelayState _ _ = record { plan = b.plan.now; streams = b.ident; police = b.police; ports = c.count_arrival.new.self; tables = b.tables.entries; arrived = b.arrived + 1; earliest = c.args.t } in
    let there = subst (λ (v : RelayState _ _). (s : PortState _) × (port_state v.ports c.args.port ≡ Some s)) (sym c.self.view_is) c.requires.known in
    let h : HasCountedFrame old new c.args.port there.0 c.args.t c.args.came = record { slots = c.count_arrival.ensures.slots there.0 there.1; agenda = c.count_arrival.ensures.agenda; tables = refl; plan = refl; streams = refl; police = refl; arrived = refl; earliest = refl } in
    (there.0, subst (λ (v : RelayState _ _). port_state v.ports c.args.port ≡ Some there.0) c.self.view_is there.1, subst (λ (v : RelayState _ _). HasCountedFrame v new c.args.port there.0 c.args.t c.args.came) c.self.view_is h)

pub returns-clause-stands : goal.returns-clause-stands
returns-clause-stands g c = λ p es a left port over st.
    let b = c.self.inside in
    let old : RelayState _ _ = record { plan = b.plan.now; streams = b.ident; police = b.police; ports = b.ports; tables = b.tables.entries; arrived = b.arrived; earliest = b.earliest } in
    let new : RelayState _ _ = record { plan = b.plan.now; streams = b.ident; police = b.police; ports = c.count_arrival.new.self; tables = b.tables.entries; arrived = b.arrived + 1; earliest = c.args.t } in
    let there = subst (λ (v : RelayState _ _). (s : PortState _) × (port_state v.ports c.args.port ≡ Some s)) (sym c.self.view_is) c.requires.known in
    let h : HasCountedFrame old new c.args.port there.0 c.args.t c.args.came = record { slots = c.count_arrival.ensures.slots there.0 there.1; agenda = c.count_arrival.ensures.agenda; tables = refl; plan = refl; streams = refl; police = refl; arrived = refl; earliest = refl } in
    stands_passed old new c.args.port there.0 c.args.t c.args.came h there.1 c.requires.from p es a port over left (subst (λ (v : RelayState _ _). RelayStandsFor p v es left) (sym c.self.view_is) st)
