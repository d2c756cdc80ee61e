use Rattle.std.proofs.Common.{ℕ, List, Option, length, subst, ap, ◌∙◌}
use Rattle.bridge_relay.specs.declared.port_state.PortState.{PortState}
use Rattle.bridge_relay.specs.Ports.{IsPresentSet}
use Rattle.bridge_relay.proofs.Making.{AreFirst, first_start, first_next, first_end, kept_first}
use Rattle.bridge_relay.proofs.Rooms.{few_more, in_octet, is_end, none_few, room_kept, room_left}
use Rattle.bridge_relay.proofs.ports.Ports.new.Goals as goal

pub overflow_add-place : goal.overflow_add-place
overflow_add-place g c = record { fits = in_octet c.loop-place.place c.loop-place-test.true }

pub push_reserved-requires : goal.push_reserved-requires
push_reserved-requires g c =
    let was = c.loop-place.invariant in
    room_left _ c.loop-place.place 16 _ was.few c.loop-place-test.true was.room

pub loop-place-preserved : goal.loop-place-preserved
loop-place-preserved g c =
    let was = c.loop-place.invariant in
    let is = c.push_reserved.ensures in
    record {
      first = first_next c.args.plan.now.ports c.loop-place.slots.items c.push_reserved.new.self.items c.loop-place.place c.in-Ok-make_port_state.slot was.first c.in-Ok-make_port_state.ensures is.items;
      few = few_more _ _ c.loop-place.place was.few is.len;
      room = room_kept 16 _ _ was.room is.capacity;
    }

pub invariant_of-result : goal.invariant_of-result
invariant_of-result g c =
    let all = is_end c.loop-place.place 16 c.loop-place.auto.place-end c.loop-place-test.false in
    let first = subst (λ (n : ℕ). AreFirst c.args.plan.now.ports c.loop-place.slots.items n) all c.loop-place.invariant.first in
    record {
      sound = kept_first g.G.Agenda.held c.args.plan.now.ports c.loop-place.slots.items c.empty.result c.ports-ports.ensures.rules.ports first c.empty.ensures;
      present = subst (λ (l : List (Option (PortState _))). IsPresentSet l c.present_ports-present.result) c.deref.ensures.value c.present_ports-present.ensures;
    }

pub returns-clause-first : goal.returns-clause-first
returns-clause-first g c =
    let all = is_end c.loop-place.place 16 c.loop-place.auto.place-end c.loop-place-test.false in
    let first = subst (λ (n : ℕ). AreFirst c.args.plan.now.ports c.loop-place.slots.items n) all c.loop-place.invariant.first in
    first_end c.args.plan.now.ports c.loop-place.slots.items c.ports-ports.ensures.rules.ports first

pub returns-clause-size : goal.returns-clause-size
returns-clause-size g c =
    let all = is_end c.loop-place.place 16 c.loop-place.auto.place-end c.loop-place-test.false in
    (subst (λ (n : ℕ). AreFirst c.args.plan.now.ports c.loop-place.slots.items n) all c.loop-place.invariant.first).size

pub returns-clause-none_held : goal.returns-clause-none_held
returns-clause-none_held g c = c.empty.ensures

pub loop-place-init : goal.loop-place-init
loop-place-init g c =
    let made = c.in-Ok.ensures in
    record {
      first = first_start c.args.plan.now.ports c.in-Ok.slots.items made.items;
      few = none_few _ made.len;
      room = made.capacity;
    }

pub present_ports-present-requires : goal.present_ports-present-requires
present_ports-present-requires g c =
    let all = is_end c.loop-place.place 16 c.loop-place.auto.place-end c.loop-place-test.false in
    let first = subst (λ (n : ℕ). AreFirst c.args.plan.now.ports c.loop-place.slots.items n) all c.loop-place.invariant.first in
    ap length c.deref.ensures.value ∙ first.size
