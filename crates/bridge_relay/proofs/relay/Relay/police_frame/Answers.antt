use Rattle.std.proofs.Common.{◌≡◌, ◌≤◌, sym, subst, ap, ◌∙◌, refl, Option, Some, None}
use Rattle.std.specs.Option.{option_map}
use Rattle.bridge_filter.specs.declared.Ruling.{Ruling}
use Rattle.bridge_filter.specs.Routes.{IsFoundRoute}
use Rattle.bridge_relay.specs.declared.port_state.PortState.{PortState}
use Rattle.bridge_relay.specs.Ports.{port_state}
use Rattle.bridge_relay.specs.RelayState.{RelayState}
use Rattle.bridge_relay.specs.RelayedFrames.{HasPoliced, HasUncountedFrame, HasSequence}
use Rattle.bridge_relay.proofs.Ruling.{has_ruled, sound_ruled}
use Rattle.bridge_relay.proofs.relay.Relay.police_frame.Goals as goal

pub invariant_of-self : goal.invariant_of-self
invariant_of-self g c =
    let b = c.self.inside in
    let old : RelayState _ _ = record { plan = b.plan.now; streams = b.ident; police = b.police; ports = b.ports; tables = b.tables.entries; arrived = b.arrived; earliest = b.earliest } in
    let known = subst (λ (v : RelayState _ _). (s : PortState _) × (port_state v.ports c.args.port ≡ Some s)) (sym c.self.view_is) c.requires.known in
    let e = c.pass_routed-ruling.ensures in
    let h = has_ruled old c.pass_routed-ruling.new.self c.count_arrival.new.self b.tables.entries c.args.port known.0 c.args.call None e.stands (λ p es st. sym c.in-None.is ∙ e.answer p es st) (ap (option_map (λ (x : Ruling). x.filter)) (sym c.in-None.is) ∙ e.filter) c.self.invariant.filters e.filters e.gates e.meters e.calls e.earliest (c.count_arrival.ensures.slots known.0 known.1) c.count_arrival.ensures.agenda refl in
    let fresh = subst (λ (v : RelayState _ _). HasUncountedFrame v) (sym c.self.view_is) c.requires.fresh in
    let time = subst (λ (v : RelayState _ _). v.earliest ≤ c.args.call.at) (sym c.self.view_is) c.requires.time.0 in
    sound_ruled g.G.Agenda.held old (record old { police = c.pass_routed-ruling.new.self; ports = c.count_arrival.new.self; tables = b.tables.entries; earliest = c.args.call.at }) c.args.port known.0 c.args.call None c.self.invariant fresh h known.1 c.requires.from time

pub invariant_of-self-in-Some : goal.invariant_of-self-in-Some
invariant_of-self-in-Some g c =
    let b = c.self.inside in
    let old : RelayState _ _ = record { plan = b.plan.now; streams = b.ident; police = b.police; ports = b.ports; tables = b.tables.entries; arrived = b.arrived; earliest = b.earliest } in
    let known = subst (λ (v : RelayState _ _). (s : PortState _) × (port_state v.ports c.args.port ≡ Some s)) (sym c.self.view_is) c.requires.known in
    let e = c.pass_routed-ruling.ensures in
    let h = has_ruled old c.pass_routed-ruling.new.self c.count_arrival-in-Some.new.self c.record_verdict-own.new.tables.entries c.args.port known.0 c.args.call (Some c.in-Some.ruling) e.stands (λ p es st. sym c.in-Some.is ∙ e.answer p es st) (ap (option_map (λ (x : Ruling). x.filter)) (sym c.in-Some.is) ∙ e.filter) c.self.invariant.filters e.filters e.gates e.meters e.calls e.earliest (c.count_arrival-in-Some.ensures.slots known.0 known.1) c.count_arrival-in-Some.ensures.agenda c.record_verdict-own.ensures.told in
    let fresh = subst (λ (v : RelayState _ _). HasUncountedFrame v) (sym c.self.view_is) c.requires.fresh in
    let time = subst (λ (v : RelayState _ _). v.earliest ≤ c.args.call.at) (sym c.self.view_is) c.requires.time.0 in
    sound_ruled g.G.Agenda.held old (record old { police = c.pass_routed-ruling.new.self; ports = c.count_arrival-in-Some.new.self; tables = c.record_verdict-own.new.tables.entries; earliest = c.args.call.at }) c.args.port known.0 c.args.call (Some c.in-Some.ruling) c.self.invariant fresh h known.1 c.requires.from time

pub returns-in-None-clause-ruled : goal.returns-in-None-clause-ruled
returns-in-None-clause-ruled g c =
    let b = c.self.inside in
    let old : RelayState _ _ = record { plan = b.plan.now; streams = b.ident; police = b.police; ports = b.ports; tables = b.tables.entries; arrived = b.arrived; earliest = b.earliest } in
    let known = subst (λ (v : RelayState _ _). (s : PortState _) × (port_state v.ports c.args.port ≡ Some s)) (sym c.self.view_is) c.requires.known in
    let e = c.pass_routed-ruling.ensures in
    let h = has_ruled old c.pass_routed-ruling.new.self c.count_arrival.new.self b.tables.entries c.args.port known.0 c.args.call None e.stands (λ p es st. sym c.in-None.is ∙ e.answer p es st) (ap (option_map (λ (x : Ruling). x.filter)) (sym c.in-None.is) ∙ e.filter) c.self.invariant.filters e.filters e.gates e.meters e.calls e.earliest (c.count_arrival.ensures.slots known.0 known.1) c.count_arrival.ensures.agenda refl in
    subst (λ (v : RelayState _ _). (s : PortState _) × (port_state v.ports c.args.port ≡ Some s) × ((r : Option Ruling) × HasPoliced v (record old { police = c.pass_routed-ruling.new.self; ports = c.count_arrival.new.self; tables = b.tables.entries; earliest = c.args.call.at }) c.args.port s c.args.call r × HasSequence v.tables r None)) c.self.view_is (known.0, known.1, (None, h, tt))

pub returns-in-None-clause-sound : goal.returns-in-None-clause-sound
returns-in-None-clause-sound g c =
    let b = c.self.inside in
    let old : RelayState _ _ = record { plan = b.plan.now; streams = b.ident; police = b.police; ports = b.ports; tables = b.tables.entries; arrived = b.arrived; earliest = b.earliest } in
    let known = subst (λ (v : RelayState _ _). (s : PortState _) × (port_state v.ports c.args.port ≡ Some s)) (sym c.self.view_is) c.requires.known in
    let e = c.pass_routed-ruling.ensures in
    let h = has_ruled old c.pass_routed-ruling.new.self c.count_arrival.new.self b.tables.entries c.args.port known.0 c.args.call None e.stands (λ p es st. sym c.in-None.is ∙ e.answer p es st) (ap (option_map (λ (x : Ruling). x.filter)) (sym c.in-None.is) ∙ e.filter) c.self.invariant.filters e.filters e.gates e.meters e.calls e.earliest (c.count_arrival.ensures.slots known.0 known.1) c.count_arrival.ensures.agenda refl in
    let fresh = subst (λ (v : RelayState _ _). HasUncountedFrame v) (sym c.self.view_is) c.requires.fresh in
    let time = subst (λ (v : RelayState _ _). v.earliest ≤ c.args.call.at) (sym c.self.view_is) c.requires.time.0 in
    sound_ruled g.G.Agenda.held old (record old { police = c.pass_routed-ruling.new.self; ports = c.count_arrival.new.self; tables = b.tables.entries; earliest = c.args.call.at }) c.args.port known.0 c.args.call None c.self.invariant fresh h known.1 c.requires.from time

pub returns-in-Some-clause-ruled : goal.returns-in-Some-clause-ruled
returns-in-Some-clause-ruled g c =
    let b = c.self.inside in
    let old : RelayState _ _ = record { plan = b.plan.now; streams = b.ident; police = b.police; ports = b.ports; tables = b.tables.entries; arrived = b.arrived; earliest = b.earliest } in
    let known = subst (λ (v : RelayState _ _). (s : PortState _) × (port_state v.ports c.args.port ≡ Some s)) (sym c.self.view_is) c.requires.known in
    let e = c.pass_routed-ruling.ensures in
    let h = has_ruled old c.pass_routed-ruling.new.self c.count_arrival-in-Some.new.self c.record_verdict-own.new.tables.entries c.args.port known.0 c.args.call (Some c.in-Some.ruling) e.stands (λ p es st. sym c.in-Some.is ∙ e.answer p es st) (ap (option_map (λ (x : Ruling). x.filter)) (sym c.in-Some.is) ∙ e.filter) c.self.invariant.filters e.filters e.gates e.meters e.calls e.earliest (c.count_arrival-in-Some.ensures.slots known.0 known.1) c.count_arrival-in-Some.ensures.agenda c.record_verdict-own.ensures.told in
    subst (λ (v : RelayState _ _). (s : PortState _) × (port_state v.ports c.args.port ≡ Some s) × ((r : Option Ruling) × HasPoliced v (record old { police = c.pass_routed-ruling.new.self; ports = c.count_arrival-in-Some.new.self; tables = c.record_verdict-own.new.tables.entries; earliest = c.args.call.at }) c.args.port s c.args.call r × HasSequence v.tables r (Some (c.in-Some.ruling, c.record_verdict-own.result)))) c.self.view_is (known.0, known.1, (Some c.in-Some.ruling, h, (refl, λ t found. c.record_verdict-own.ensures.own t found)))

pub returns-in-Some-clause-sound : goal.returns-in-Some-clause-sound
returns-in-Some-clause-sound g c =
    let b = c.self.inside in
    let old : RelayState _ _ = record { plan = b.plan.now; streams = b.ident; police = b.police; ports = b.ports; tables = b.tables.entries; arrived = b.arrived; earliest = b.earliest } in
    let known = subst (λ (v : RelayState _ _). (s : PortState _) × (port_state v.ports c.args.port ≡ Some s)) (sym c.self.view_is) c.requires.known in
    let e = c.pass_routed-ruling.ensures in
    let h = has_ruled old c.pass_routed-ruling.new.self c.count_arrival-in-Some.new.self c.record_verdict-own.new.tables.entries c.args.port known.0 c.args.call (Some c.in-Some.ruling) e.stands (λ p es st. sym c.in-Some.is ∙ e.answer p es st) (ap (option_map (λ (x : Ruling). x.filter)) (sym c.in-Some.is) ∙ e.filter) c.self.invariant.filters e.filters e.gates e.meters e.calls e.earliest (c.count_arrival-in-Some.ensures.slots known.0 known.1) c.count_arrival-in-Some.ensures.agenda c.record_verdict-own.ensures.told in
    let fresh = subst (λ (v : RelayState _ _). HasUncountedFrame v) (sym c.self.view_is) c.requires.fresh in
    let time = subst (λ (v : RelayState _ _). v.earliest ≤ c.args.call.at) (sym c.self.view_is) c.requires.time.0 in
    sound_ruled g.G.Agenda.held old (record old { police = c.pass_routed-ruling.new.self; ports = c.count_arrival-in-Some.new.self; tables = c.record_verdict-own.new.tables.entries; earliest = c.args.call.at }) c.args.port known.0 c.args.call (Some c.in-Some.ruling) c.self.invariant fresh h known.1 c.requires.from time

pub pass_routed-ruling-requires-clause-found : goal.pass_routed-ruling-requires-clause-found
pass_routed-ruling-requires-clause-found g c = subst (λ (v : RelayState _ _). IsFoundRoute v.police c.args.call.handle c.args.call.priority c.args.found) (sym c.self.view_is) c.requires.found

pub returns-in-Some-clause-priority : goal.returns-in-Some-clause-priority
returns-in-Some-clause-priority g c = c.in-Some.ensures.priority

pub count_arrival-requires-clause-from : goal.count_arrival-requires-clause-from
count_arrival-requires-clause-from g c = c.requires.from

pub count_arrival-requires-in-Some-clause-from : goal.count_arrival-requires-in-Some-clause-from
count_arrival-requires-in-Some-clause-from g c = c.requires.from

pub pass_routed-ruling-requires-clause-range : goal.pass_routed-ruling-requires-clause-range
pass_routed-ruling-requires-clause-range g c = c.requires.time.1
