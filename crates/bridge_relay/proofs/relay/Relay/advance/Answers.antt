use Rattle.bridge_events.specs.Least.{IsLeast}
use Rattle.std.proofs.Common.{◌≡◌, ℕ, [], ◌∷◌, ◌++◌, ◌+◌, arith, sym, subst, ap, ◌∙◌, refl, Some, true}
use Rattle.std.specs.Prelude.{nat_eq, if◌then◌else◌}
use Rattle.bridge_relay.specs.Recorders.{RecorderState, update_if_some, with_departure}
use Rattle.bridge_relay.specs.RelayState.{RelayState, count_all_items, with_sent_frame, count_waiting_copies, IsSent, RelayStandsFor}
use Rattle.bridge_relay.specs.declared.relay.Sent.{Sent}
use Rattle.bridge_relay.proofs.Advancing.{count_started, right_item, short_item, owes_by, is_sent}
use Rattle.bridge_semantics.specs.declared.outcome.Departure.{Departure}
use Rattle.bridge_relay.proofs.Sound.{sound_started}
use Rattle.bridge_relay.proofs.Standing.{stands_started}
use Rattle.bridge_relay.proofs.Times.{short_time}
use Rattle.bridge_relay.proofs.Nexts.{made_after, made_at, reaches_start, sends_head}
use Rattle.bridge_relay.proofs.relay.Relay.advance.Goals as goal

pub record_departure-requires : goal.record_departure-requires
record_departure-requires g c =
    let s = c.start-port.ensures.started in
    let b = c.self.inside in
    let old : RelayState _ _ = record { plan = b.plan.now; streams = b.ident; police = b.police; ports = b.ports; tables = b.tables.entries; arrived = b.arrived; earliest = b.earliest } in
    owes_by g.G.Agenda.held old c.start-port.new.self c.start-port.result.0 s.0 c.start-port.result.1 c.start-port.result.2 c.start-port.result.2.item.load.flow c.self.invariant s.1 refl
    (right_item b.plan.now.filters b.ports c.start-port.new.self c.start-port.result.0 s.0 c.start-port.result.1 c.start-port.result.2 s.1 c.self.invariant.right)

pub invariant_of-self : goal.invariant_of-self
invariant_of-self g c =
    let s = c.start-port.ensures.started in
    let b = c.self.inside in
    let old : RelayState _ _ = record { plan = b.plan.now; streams = b.ident; police = b.police; ports = b.ports; tables = b.tables.entries; arrived = b.arrived; earliest = b.earliest } in
    let r = c.start-port.result in
    let d : Departure = record { own = r.2.item.load.own; port = r.0; start = r.1; done = r.2.done } in
    let told = subst (λ (e : Departure). c.record_departure.new.tables.entries ≡ update_if_some r.2.item.load.flow (λ (t : RecorderState). with_departure t e c.saturating_sub.result) b.tables.entries) c.new-departure.ensures c.record_departure.ensures in
    sound_started g.G.Agenda.held old c.start-port.new.self c.record_departure.new.tables.entries c.max-self-inside.result r.0 r.1 s.0 r.2 d c.saturating_sub.result c.self.invariant s.1 s.1.from c.start-port.ensures.which.0 c.start-port.ensures.later refl refl told c.max-self-inside.ensures

pub returns-clause-stands : goal.returns-clause-stands
returns-clause-stands g c = λ p es left st.
    let s = c.start-port.ensures.started in
    let b = c.self.inside in
    let old : RelayState _ _ = record { plan = b.plan.now; streams = b.ident; police = b.police; ports = b.ports; tables = b.tables.entries; arrived = b.arrived; earliest = b.earliest } in
    let r = c.start-port.result in
    let d : Departure = record { own = r.2.item.load.own; port = r.0; start = r.1; done = r.2.done } in
    let told = subst (λ (e : Departure). c.record_departure.new.tables.entries ≡ update_if_some r.2.item.load.flow (λ (t : RecorderState). with_departure t e c.saturating_sub.result) b.tables.entries) c.new-departure.ensures c.record_departure.ensures in
    let sent : Sent _ = record { port = r.0; class = r.2.class; start = r.1; done = r.2.done; len = r.2.item.len; octets = r.2.item.load.octets } in
    let sound = sound_started g.G.Agenda.held old c.start-port.new.self c.record_departure.new.tables.entries c.max-self-inside.result r.0 r.1 s.0 r.2 d c.saturating_sub.result c.self.invariant s.1 s.1.from c.start-port.ensures.which.0 c.start-port.ensures.later refl refl told c.max-self-inside.ensures in
    stands_started g.G.Agenda.held old c.start-port.new.self c.record_departure.new.tables.entries c.max-self-inside.result r.0 r.1 s.0 r.2 d c.saturating_sub.result c.self.invariant sound s.1 refl refl refl refl c.saturating_sub.ensures told p es left (with_sent_frame left sent) (λ q. ap (λ (t : ℕ). if nat_eq q r.0 then left q ++ (record { time = t; len = r.2.item.len; octets = r.2.item.load.octets.items }) ∷ [] else left q) s.1.done) (subst (λ (v : RelayState _ _). RelayStandsFor p v es left) (sym c.self.view_is) st)

pub returns-clause-reaches : goal.returns-clause-reaches
returns-clause-reaches g c = λ p es left st.
    let s = c.start-port.ensures.started in
    let b = c.self.inside in
    let old : RelayState _ _ = record { plan = b.plan.now; streams = b.ident; police = b.police; ports = b.ports; tables = b.tables.entries; arrived = b.arrived; earliest = b.earliest } in
    let r = c.start-port.result in
    let d : Departure = record { own = r.2.item.load.own; port = r.0; start = r.1; done = r.2.done } in
    let told = subst (λ (e : Departure). c.record_departure.new.tables.entries ≡ update_if_some r.2.item.load.flow (λ (t : RecorderState). with_departure t e c.saturating_sub.result) b.tables.entries) c.new-departure.ensures c.record_departure.ensures in
    let sent : Sent _ = record { port = r.0; class = r.2.class; start = r.1; done = r.2.done; len = r.2.item.len; octets = r.2.item.load.octets } in
    let sound = sound_started g.G.Agenda.held old c.start-port.new.self c.record_departure.new.tables.entries c.max-self-inside.result r.0 r.1 s.0 r.2 d c.saturating_sub.result c.self.invariant s.1 s.1.from c.start-port.ensures.which.0 c.start-port.ensures.later refl refl told c.max-self-inside.ensures in
    let stood = stands_started g.G.Agenda.held old c.start-port.new.self c.record_departure.new.tables.entries c.max-self-inside.result r.0 r.1 s.0 r.2 d c.saturating_sub.result c.self.invariant sound s.1 refl refl refl refl c.saturating_sub.ensures told p es left (with_sent_frame left sent) (λ q. ap (λ (t : ℕ). if nat_eq q r.0 then left q ++ (record { time = t; len = r.2.item.len; octets = r.2.item.load.octets.items }) ∷ [] else left q) s.1.done) (subst (λ (v : RelayState _ _). RelayStandsFor p v es left) (sym c.self.view_is) st) in
    let new : RelayState _ _ = record old { ports = c.start-port.new.self; tables = c.record_departure.new.tables.entries; earliest = c.max-self-inside.result } in
    reaches_start g.G.Agenda.held p new es (with_sent_frame left sent) r.0 r.1 stood sound c.start-port.ensures.keeps (made_after g.G.Agenda.held old c.start-port.new.self c.record_departure.new.tables.entries c.max-self-inside.result r.0 r.1 s.0 r.2 c.self.invariant s.1 s.1.from c.start-port.ensures.which.0 c.start-port.ensures.later)

pub returns-clause-sends : goal.returns-clause-sends
returns-clause-sends g c = λ p es left st.
    let s = c.start-port.ensures.started in
    let b = c.self.inside in
    let old : RelayState _ _ = record { plan = b.plan.now; streams = b.ident; police = b.police; ports = b.ports; tables = b.tables.entries; arrived = b.arrived; earliest = b.earliest } in
    let r = c.start-port.result in
    sends_head g.G.Agenda.held p old es left r.0 r.1 r.2.class r.2.done s.0 r.2.item (subst (λ (v : RelayState _ _). RelayStandsFor p v es left) (sym c.self.view_is) st) c.self.invariant c.start-port.ensures.kept (made_at g.G.Agenda.held old (r.0, r.1) c.self.invariant c.start-port.ensures.which) s.1.from s.1.there s.1.next s.1.done

pub returns-clause-sent : goal.returns-clause-sent
returns-clause-sent g c =
    let s = c.start-port.ensures.started in
    let b = c.self.inside in
    let old : RelayState _ _ = record { plan = b.plan.now; streams = b.ident; police = b.police; ports = b.ports; tables = b.tables.entries; arrived = b.arrived; earliest = b.earliest } in
    let new : RelayState _ _ = record { plan = b.plan.now; streams = b.ident; police = b.police; ports = c.start-port.new.self; tables = c.record_departure.new.tables.entries; arrived = b.arrived; earliest = c.max-self-inside.result } in
    let r = c.start-port.result in
    let sent : Sent _ = record { port = r.0; class = r.2.class; start = r.1; done = r.2.done; len = r.2.item.len; octets = r.2.item.load.octets } in
    subst (λ (v : RelayState _ _). IsSent v new sent) c.self.view_is (is_sent old new sent s.0 r.2 s.1 refl refl refl refl c.max-self-inside.ensures)

pub returns-clause-fewer : goal.returns-clause-fewer
returns-clause-fewer g c =
    let s = c.start-port.ensures.started in
    let z = count_started c.self.inside.ports c.start-port.new.self c.start-port.result.0 s.0 c.start-port.result.1 c.start-port.result.2 s.1 (λ x. true) in
    subst (λ (v : RelayState _ _). count_all_items (λ x. true) c.start-port.new.self + 1 ≡ count_waiting_copies v) c.self.view_is (let y = z in omega arith)

pub returns-clause-writable : goal.returns-clause-writable
returns-clause-writable g c =
    let s = c.start-port.ensures.started in
    let b = c.self.inside in
    let right = right_item b.plan.now.filters b.ports c.start-port.new.self c.start-port.result.0 s.0 c.start-port.result.1 c.start-port.result.2 s.1 c.self.invariant.right in
    let early = s.1.early in
    (omega arith, short_item b.plan.now.filters c.start-port.result.2.item right, s.1.short)

pub returns-clause-later : goal.returns-clause-later
returns-clause-later g c = c.start-port.ensures.later

pub returns-clause-same : goal.returns-clause-same
returns-clause-same g c = (ap (λ (v : RelayState _ _). v.plan) c.self.view_is, ap (λ (v : RelayState _ _). v.arrived) c.self.view_is)

pub returns-clause-which : goal.returns-clause-which
returns-clause-which g c = subst (λ (v : RelayState _ _). IsLeast (g.G.Agenda.held v.ports.agenda) (Some (c.start-port.result.0, c.start-port.result.1))) c.self.view_is c.start-port.ensures.which

pub start-port-requires : goal.start-port-requires
start-port-requires g c = (c.requires.0, c.requires.1, ap (λ (v : RelayState _ _). g.G.Agenda.held v.ports.agenda c.requires.0) c.self.view_is ∙ c.requires.2)

pub new-departure-requires : goal.new-departure-requires
new-departure-requires g c =
    let s = c.start-port.ensures.started in
    let short = short_time c.start-port.result.2.item.len s.0.speed s.1.short in
    let done = s.1.done in
    record { ordered = omega (arith, done); short = omega (arith, done, short) }
