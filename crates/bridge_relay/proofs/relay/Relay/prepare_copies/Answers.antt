use Rattle.std.proofs.Common.{◌<◌, sym, subst}
use Rattle.std.specs.Prelude.{IfSome, IsTrue}
use Rattle.bridge_filter.specs.Plans.{is_listed}
use Rattle.bridge_relay.specs.RelayState.{RelayState}
use Rattle.bridge_relay.proofs.Sound.{may_promise, sound_promised, promised_state}
use Rattle.bridge_relay.proofs.relay.Relay.prepare_copies.Goals as goal

pub reserve_room-requires : goal.reserve_room-requires
reserve_room-requires g c =
    let b = c.self.inside in
    let old : RelayState _ _ = record { plan = b.plan.now; streams = b.ident; police = b.police; ports = b.ports; tables = b.tables.entries; arrived = b.arrived; earliest = b.earliest } in
    record { there = may_promise g.G.Agenda.held old c.args.filter c.count_outputs-count.result.0 c.self.invariant c.count_outputs-count.ensures.few (subst (λ (v : RelayState _ _). IfSome c.args.filter (λ n. IsTrue (is_listed n v.plan.filters))) (sym c.self.view_is) c.requires.there) }

pub invariant_of-self-2 : goal.invariant_of-self-2
invariant_of-self-2 g c =
    let b = c.self.inside in
    let old : RelayState _ _ = record { plan = b.plan.now; streams = b.ident; police = b.police; ports = b.ports; tables = b.tables.entries; arrived = b.arrived; earliest = b.earliest } in
    sound_promised g.G.Agenda.held old c.reserve_room.new.tables.entries c.args.filter c.count_outputs-count.result.0 c.self.invariant (subst (λ (v : RelayState _ _). v.arrived < 16000000) (sym c.self.view_is) c.requires.few) c.count_outputs-count.ensures.few c.in-Ok-reserve_room.ensures.ok

pub returns-clause-ok : goal.returns-clause-ok
returns-clause-ok g c =
    let b = c.self.inside in
    let old : RelayState _ _ = record { plan = b.plan.now; streams = b.ident; police = b.police; ports = b.ports; tables = b.tables.entries; arrived = b.arrived; earliest = b.earliest } in
    promised_state old c.args.self.now c.reserve_room.new.tables.entries c.args.filter c.count_outputs-count.result.0 c.args.set c.self.view_is c.in-Ok-reserve_room.ensures.ok c.count_outputs-count.ensures.count

pub returns-clause-sound : goal.returns-clause-sound
returns-clause-sound g c =
    let b = c.self.inside in
    let old : RelayState _ _ = record { plan = b.plan.now; streams = b.ident; police = b.police; ports = b.ports; tables = b.tables.entries; arrived = b.arrived; earliest = b.earliest } in
    sound_promised g.G.Agenda.held old c.reserve_room.new.tables.entries c.args.filter c.count_outputs-count.result.0 c.self.invariant (subst (λ (v : RelayState _ _). v.arrived < 16000000) (sym c.self.view_is) c.requires.few) c.count_outputs-count.ensures.few c.in-Ok-reserve_room.ensures.ok
