use Rattle.std.proofs.Common.{◌≤◌, sym, subst}
use Rattle.bridge_relay.specs.Ports.{StartsNoEarlier}
use Rattle.bridge_relay.specs.RelayState.{RelayState, RelayStandsFor}
use Rattle.bridge_relay.proofs.Ending.{ran_of, reaches_of}
use Rattle.bridge_relay.proofs.Nexts.{are_next, next_after}
use Rattle.bridge_events.specs.Least.{IsLeast}
use Rattle.bridge_semantics.specs.NextStarts.{AreNextStarts}
use Rattle.bridge_relay.proofs.relay.Relay.assert_reached.Goals as goal

pub returns-clause-reaches : goal.returns-clause-reaches
returns-clause-reaches g c = λ p es left h st late due.
    let b = c.self.inside in
    let old : RelayState _ _ = record { plan = b.plan.now; streams = b.ident; police = b.police; ports = b.ports; tables = b.tables.entries; arrived = b.arrived; earliest = b.earliest } in
    reaches_of g.G.Agenda.held p old es left h (subst (λ (v : RelayState _ _). RelayStandsFor p v es left) (sym c.self.view_is) st) c.self.invariant c.assert_agenda.ensures
    (subst (λ (v : RelayState _ _). v.earliest ≤ h) (sym c.self.view_is) late)
    (subst (λ (v : RelayState _ _). StartsNoEarlier (g.G.Agenda.held v.ports.agenda) h) (sym c.self.view_is) due)

pub returns-clause-ran : goal.returns-clause-ran
returns-clause-ran g c = λ p es left until st early.
    let b = c.self.inside in
    let old : RelayState _ _ = record { plan = b.plan.now; streams = b.ident; police = b.police; ports = b.ports; tables = b.tables.entries; arrived = b.arrived; earliest = b.earliest } in
    ran_of g.G.Agenda.held p old es left until (subst (λ (v : RelayState _ _). RelayStandsFor p v es left) (sym c.self.view_is) st) c.self.invariant
    (λ t is. subst (λ (v : RelayState _ _). v.earliest ≤ t) (sym c.self.view_is) (early t is))

pub returns-clause-each_next : goal.returns-clause-each_next
returns-clause-each_next g c = λ p es left st.
    let b = c.self.inside in
    let old : RelayState _ _ = record { plan = b.plan.now; streams = b.ident; police = b.police; ports = b.ports; tables = b.tables.entries; arrived = b.arrived; earliest = b.earliest } in
    subst (λ (v : RelayState _ _). AreNextStarts p es left (g.G.Agenda.held v.ports.agenda)) c.self.view_is
    (are_next g.G.Agenda.held p old es left (subst (λ (v : RelayState _ _). RelayStandsFor p v es left) (sym c.self.view_is) st) c.self.invariant c.assert_agenda.ensures)

pub returns-clause-next : goal.returns-clause-next
returns-clause-next g c = λ p es left o st least.
    let b = c.self.inside in
    let old : RelayState _ _ = record { plan = b.plan.now; streams = b.ident; police = b.police; ports = b.ports; tables = b.tables.entries; arrived = b.arrived; earliest = b.earliest } in
    next_after g.G.Agenda.held p old es left o (subst (λ (v : RelayState _ _). RelayStandsFor p v es left) (sym c.self.view_is) st) c.self.invariant c.assert_agenda.ensures
    (subst (λ (v : RelayState _ _). IsLeast (g.G.Agenda.held v.ports.agenda) o) (sym c.self.view_is) least)
