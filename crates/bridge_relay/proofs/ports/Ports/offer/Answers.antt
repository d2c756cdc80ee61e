use Rattle.std.proofs.Common.{◌≡◌, ℕ, ◌-◌, ◌<◌, arith, sym, subst, ap, Some, length}
use Rattle.std.specs.Prelude.{slice_index, slice_set}
use Rattle.bridge_relay.specs.declared.port_state.PortState.{PortState}
use Rattle.bridge_relay.specs.Ports.{PortsState, port_state, HasOffered}
use Rattle.bridge_relay.proofs.Porting.{below, held_is, here, kept_set, not_late, not_before, not_none, slot_offered, same_slot, has_offered}
use Rattle.bridge_relay.proofs.Present.{present_kept}
use Rattle.bridge_relay.proofs.ports.Ports.offer.Goals as goal

pub index_mut-requires : goal.index_mut-requires
index_mut-requires g c =
    let there = c.requires.there in
    let slots = c.self.inside.slots in
    subst (λ (n : ℕ). c.args.number - 1 < n) (sym slots.ok.0) (below slots.items c.args.number there.0 (subst (λ (z : PortsState _ _). port_state z c.args.number ≡ Some there.0) (sym c.self.view_is) there.1))

pub offer-answer-requires : goal.offer-answer-requires
offer-answer-requires g c =
    let slots = c.self.inside.slots.items in
    let q = c.args.number in
    let there = c.requires.there in
    let at = here slots q c.index_mut.result.now c.in-Some.slot (below slots q there.0 (subst (λ (z : PortsState _ _). port_state z q ≡ Some there.0) (sym c.self.view_is) there.1)) c.index_mut.ensures.value c.in-Some.is in
    let may = c.requires.early c.in-Some.slot (subst (λ (z : PortsState _ _). port_state z q ≡ Some c.in-Some.slot) c.self.view_is at) in
    let slot = c.self.invariant.sound.each q c.in-Some.slot c.requires.from at in
    record {
      time = (may.0, c.requires.range);
      not_late = not_late c.in-Some.slot.port c.args.t (g.G.Agenda.held c.self.inside.agenda q) (c.self.invariant.sound.due q c.in-Some.slot c.requires.from at) (λ k e. c.requires.due q k (subst (λ (z : PortsState _ _). g.G.Agenda.held z.agenda q ≡ Some k) c.self.view_is e));
      length = c.requires.length;
      few = may.1;
      counted = slot.counted;
      priority = c.requires.priority;
      class = slot.classes c.args.priority c.requires.priority;
    }

pub update_next_start-requires : goal.update_next_start-requires
update_next_start-requires g c =
    let slots = c.self.inside.slots.items in
    let there = c.requires.there in
    let low = below slots c.args.number there.0 (subst (λ (z : PortsState _ _). port_state z c.args.number ≡ Some there.0) (sym c.self.view_is) there.1) in
    let size : length slots ≡ 16 = c.self.invariant.sound.size in
    let from = c.requires.from in
    let at = here slots c.args.number c.index_mut.result.now c.in-Some.slot low c.index_mut.ensures.value c.in-Some.is in
    record { from = from; to = omega arith; held = held_is g.G.Agenda.held slots c.self.inside.agenda c.args.number c.in-Some.slot c.next_start-before.result c.self.invariant.sound from at c.next_start-before.ensures.due }

pub invariant_of-self : goal.invariant_of-self
invariant_of-self g c =
    let slots = c.self.inside.slots.items in
    let q = c.args.number in
    let there = c.requires.there in
    let low = below slots q there.0 (subst (λ (z : PortsState _ _). port_state z q ≡ Some there.0) (sym c.self.view_is) there.1) in
    let at = here slots q c.index_mut.result.now c.in-Some.slot low c.index_mut.ensures.value c.in-Some.is in
    record {
      sound = kept_set g.G.Agenda.held slots c.self.inside.agenda c.update_next_start.new.agenda q c.offer-answer.new.self c.next_start-due.result c.self.invariant.sound c.requires.from low c.update_next_start.ensures c.next_start-due.ensures.due
          (slot_offered c.in-Some.slot c.offer-answer.new.self c.args.t (slice_index c.in-Some.slot.classes c.args.priority) c.args.item c.offer-answer.ensures.moved (c.self.invariant.sound.each q c.in-Some.slot c.requires.from at));
      present = present_kept slots c.self.inside.present q c.in-Some.slot c.offer-answer.new.self c.self.invariant.present c.requires.from low at;
    }

pub returns-clause-offered : goal.returns-clause-offered
returns-clause-offered g c = λ s is.
    let slots = c.self.inside.slots.items in
    let q = c.args.number in
    let slot = c.in-Some.slot in
    let given = subst (λ (z : PortsState _ _). port_state z q ≡ Some s) (sym c.self.view_is) is in
    let at = here slots q c.index_mut.result.now slot (below slots q s given) c.index_mut.ensures.value c.in-Some.is in
    let f = c.offer-answer.ensures in
    subst (λ (v : PortState _). HasOffered c.args.self.now (record { slots = slice_set slots (q - 1) (Some c.offer-answer.new.self); agenda = c.update_next_start.new.agenda }) q v c.args.t (slice_index v.classes c.args.priority) c.args.item c.offer-answer.result) (same_slot slots q slot s at given)
    (has_offered c.args.self.now slots c.self.inside.agenda c.update_next_start.new.agenda q slot c.offer-answer.new.self c.args.t (slice_index slot.classes c.args.priority) c.args.item c.offer-answer.result c.self.view_is f.moved f.answer (λ xs st. f.stands xs st) (λ t. f.counts t))

pub returns-clause-due : goal.returns-clause-due
returns-clause-due g c =
    not_before g.G.Agenda.held c.self.inside.agenda c.update_next_start.new.agenda c.args.number c.args.t c.offer-answer.new.self.port c.next_start-due.result c.update_next_start.ensures c.next_start-due.ensures.due
    (ap (λ (s : PortState _). s.port.earliest) c.offer-answer.ensures.moved)
    (λ r k e. c.requires.due r k (subst (λ (z : PortsState _ _). g.G.Agenda.held z.agenda r ≡ Some k) c.self.view_is e))

pub overflow_sub-number : goal.overflow_sub-number
overflow_sub-number g c = c.requires.from

pub unreachable-requires : goal.unreachable-requires
unreachable-requires g c =
    let there = c.requires.there in
    let given = subst (λ (z : PortsState _ _). port_state z c.args.number ≡ Some there.0) (sym c.self.view_is) there.1 in
    not_none c.self.inside.slots.items c.args.number c.index_mut.result.now there.0 given c.index_mut.ensures.value c.in-None.is

pub unreachable-unreachable : goal.unreachable-unreachable
unreachable-unreachable g c = c.unreachable.type_inv
