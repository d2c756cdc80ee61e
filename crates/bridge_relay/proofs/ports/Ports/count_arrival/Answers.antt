use Rattle.std.proofs.Common.{◌≡◌, ℕ, ◌-◌, ◌<◌, sym, subst, ap, ◌∙◌, Some}
use Rattle.bridge_relay.specs.declared.port_state.PortState.{PortState}
use Rattle.bridge_relay.specs.Ports.{PortsState, port_state}
use Rattle.bridge_relay.specs.PortStates.{count_ingress}
use Rattle.std.specs.Prelude.{slice_set}
use Rattle.bridge_relay.proofs.Porting.{below, here, kept_same, not_none, slot_counted, same_slot}
use Rattle.bridge_relay.proofs.Present.{present_kept}
use Rattle.bridge_relay.proofs.ports.Ports.count_arrival.Goals as goal

pub index_mut-requires : goal.index_mut-requires
index_mut-requires g c =
    let there = c.requires.there in
    let given = subst (λ (z : PortsState _ _). port_state z c.args.number ≡ Some there.0) (sym c.self.view_is) there.1 in
    let slots = c.self.inside.slots in
    subst (λ (n : ℕ). c.args.number - 1 < n) (sym slots.ok.0) (below slots.items c.args.number there.0 given)

pub count_frame-requires : goal.count_frame-requires
count_frame-requires g c =
    let slots = c.self.inside.slots.items in
    let q = c.args.number in
    let there = c.requires.there in
    let given = subst (λ (z : PortsState _ _). port_state z q ≡ Some there.0) (sym c.self.view_is) there.1 in
    let at = here slots q c.index_mut.result.now c.in-Some.slot (below slots q there.0 given) c.index_mut.ensures.value c.in-Some.is in
    record {
      few = subst (λ (v : PortState _). v.count.frames < 16000000) (sym (same_slot slots q c.in-Some.slot there.0 at given)) there.2;
      counted = (c.self.invariant.sound.each q c.in-Some.slot c.requires.from at).came;
    }

pub invariant_of-self : goal.invariant_of-self
invariant_of-self g c =
    let slots = c.self.inside.slots.items in
    let q = c.args.number in
    let there = c.requires.there in
    let given = subst (λ (z : PortsState _ _). port_state z q ≡ Some there.0) (sym c.self.view_is) there.1 in
    let at = here slots q c.index_mut.result.now c.in-Some.slot (below slots q there.0 given) c.index_mut.ensures.value c.in-Some.is in
    record {
      sound = kept_same g.G.Agenda.held slots c.self.inside.agenda q c.in-Some.slot c.count_frame.new.self c.self.invariant.sound c.requires.from at (ap (λ (v : PortState _). v.port) c.count_frame.ensures) (slot_counted c.in-Some.slot c.count_frame.new.self c.args.came c.count_frame.ensures (c.self.invariant.sound.each q c.in-Some.slot c.requires.from at));
      present = present_kept slots c.self.inside.present q c.in-Some.slot c.count_frame.new.self c.self.invariant.present c.requires.from (below slots q there.0 given) at;
    }

pub returns-clause-slots : goal.returns-clause-slots
returns-clause-slots g c = λ s is.
    let slots = c.self.inside.slots.items in
    let q = c.args.number in
    let slot = c.in-Some.slot in
    let given = subst (λ (z : PortsState _ _). port_state z q ≡ Some s) (sym c.self.view_is) is in
    let at = here slots q c.index_mut.result.now slot (below slots q s given) c.index_mut.ensures.value c.in-Some.is in
    let e : c.count_frame.new.self ≡ record s { count = count_ingress s.count c.args.came } = c.count_frame.ensures ∙ ap (λ (v : PortState _). record v { count = count_ingress v.count c.args.came }) (same_slot slots q slot s at given) in
    ap (λ (v : PortState _). slice_set slots (q - 1) (Some v)) e ∙ ap (λ (z : PortsState _ _). slice_set z.slots (q - 1) (Some (record s { count = count_ingress s.count c.args.came }))) c.self.view_is

pub overflow_sub-number : goal.overflow_sub-number
overflow_sub-number g c = c.requires.from

pub unreachable-requires : goal.unreachable-requires
unreachable-requires g c =
    let there = c.requires.there in
    let given = subst (λ (z : PortsState _ _). port_state z c.args.number ≡ Some there.0) (sym c.self.view_is) there.1 in
    not_none c.self.inside.slots.items c.args.number c.index_mut.result.now there.0 given c.index_mut.ensures.value c.in-None.is

pub unreachable-unreachable : goal.unreachable-unreachable
unreachable-unreachable g c = c.unreachable.type_inv
