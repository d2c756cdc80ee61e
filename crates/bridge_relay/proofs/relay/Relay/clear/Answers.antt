use Rattle.std.proofs.Common.{◌≤◌, sym, subst}
use Rattle.std.specs.Prelude.{IsTrue}
use Rattle.bridge_config.specs.Commands.{has_instance}
use Rattle.bridge_relay.specs.RelayState.{RelayState, RelayStandsFor}
use Rattle.bridge_relay.proofs.Clearing.{instance_there, sound_cleared, stands_cleared}
use Rattle.bridge_relay.proofs.relay.Relay.clear.Goals as goal

pub clear-requires : goal.clear-requires
clear-requires g c =
    let b = c.self.inside in
    let old : RelayState _ _ = record { plan = b.plan.now; streams = b.ident; police = b.police; ports = b.ports; tables = b.tables.entries; arrived = b.arrived; earliest = b.earliest } in
    instance_there g.G.Agenda.held old c.args.clear c.args.number c.self.invariant (subst (λ (v : RelayState _ _). IsTrue (has_instance v.plan c.args.clear c.args.number)) (sym c.self.view_is) c.requires.instance)

pub invariant_of-self : goal.invariant_of-self
invariant_of-self g c =
    let b = c.self.inside in
    let old : RelayState _ _ = record { plan = b.plan.now; streams = b.ident; police = b.police; ports = b.ports; tables = b.tables.entries; arrived = b.arrived; earliest = b.earliest } in
    let e = c.clear.ensures in
    sound_cleared g.G.Agenda.held old c.clear.new.self c.args.t c.self.invariant (subst (λ (v : RelayState _ _). v.earliest ≤ c.args.t) (sym c.self.view_is) c.requires.time) e.filters e.gates e.meters e.calls e.earliest

pub returns-clause-stands : goal.returns-clause-stands
returns-clause-stands g c = λ p es left st.
    let b = c.self.inside in
    let old : RelayState _ _ = record { plan = b.plan.now; streams = b.ident; police = b.police; ports = b.ports; tables = b.tables.entries; arrived = b.arrived; earliest = b.earliest } in
    stands_cleared old c.clear.new.self c.args.t c.args.clear c.args.number p es left c.clear.ensures.stands (subst (λ (v : RelayState _ _). RelayStandsFor p v es left) (sym c.self.view_is) st)
