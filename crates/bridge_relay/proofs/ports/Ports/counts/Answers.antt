use Rattle.std.proofs.Common.{◌<◌, ◌∙◌, ℕ, ap, sym, subst}
use Rattle.bridge_relay.specs.Counting.{port_counts}
use Rattle.bridge_relay.specs.Ports.{PortsState, ArePortsSound}
use Rattle.bridge_relay.proofs.Rooms.{in_octet, in_word, is_end, room_left}
use Rattle.bridge_relay.proofs.ports.Ports.counts.Goals as goal

pub overflow_add-place : goal.overflow_add-place
overflow_add-place g c = record { fits = in_octet c.loop-place.place c.loop-place-test.true }

pub overflow_cast-place : goal.overflow_cast-place
overflow_cast-place g c = record { fits = in_word c.loop-place.place c.loop-place-test.true }

pub push_reserved-requires : goal.push_reserved-requires
push_reserved-requires g c =
    let was = c.loop-place.invariant in
    room_left _ c.loop-place.place 16 _ was.few c.loop-place-test.true was.room

pub index-requires : goal.index-requires
index-requires g c = subst (λ (n : ℕ). c.loop-place.place < n) (sym (c.self.inside.slots.ok.0 ∙ c.self.invariant.sound.size)) c.loop-place-test.true

pub returns-clause-counts : goal.returns-clause-counts
returns-clause-counts g c =
    let all = is_end c.loop-place.place 16 c.loop-place.auto.place-end c.loop-place-test.false in
    c.loop-place.invariant.counts ∙ (ap (port_counts c.self.inside.slots.items) all ∙ ap (λ (p : PortsState _ _). port_counts p.slots 16) c.self.view_is)

pub returns-clause-kept : goal.returns-clause-kept
returns-clause-kept g c = subst (λ (p : PortsState _ _). ArePortsSound g.G.Agenda.held p.slots p.agenda) c.self.view_is c.self.invariant.sound
