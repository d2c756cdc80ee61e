use Rattle.std.proofs.Common.{◌≡◌, ℕ, ◌-◌, ◌<◌, arith, sym, subst, ap, Some, length}
use Rattle.bridge_relay.specs.declared.port_state.PortState.{PortState}
use Rattle.bridge_relay.specs.Ports.{PortsState, ArePortsSound}
use Rattle.bridge_port.specs.StandsFor.{IsNextStartTime}
use Rattle.bridge_events.specs.Least.{IsLeast}
use Rattle.bridge_relay.proofs.Porting.{below, here, kept_set, is_after, slot_started, has_started, none_held, not_none}
use Rattle.bridge_relay.proofs.Present.{present_kept}
use Rattle.bridge_relay.proofs.ports.Ports.start.Goals as goal

pub index_mut-requires : goal.index_mut-requires
index_mut-requires g c =
    let o = c.self.invariant.sound.others c.in-Some.number c.in-Some.start c.in-Some.ensures.0 in
    let slots = c.self.inside.slots in
    subst (λ (n : ℕ). c.in-Some.number - 1 < n) (sym slots.ok.0) (below slots.items c.in-Some.number o.1.0 o.1.1)

pub start-begun-requires : goal.start-begun-requires
start-begun-requires g c =
    let slots = c.self.inside.slots.items in
    let q = c.in-Some.number in
    let slot = c.in-Some-index_mut.slot in
    let o = c.self.invariant.sound.others q c.in-Some.start c.in-Some.ensures.0 in
    let at = here slots q c.index_mut.result.now slot (below slots q o.1.0 o.1.1) c.index_mut.ensures.value c.in-Some-index_mut.is in
    record {
      due = subst (IsNextStartTime slot.port) c.in-Some.ensures.0 (c.self.invariant.sound.due q slot o.0 at);
      speed = (c.self.invariant.sound.each q slot o.0 at).pace;
    }

pub set_next_start-requires : goal.set_next_start-requires
set_next_start-requires g c =
    let slots = c.self.inside.slots.items in
    let o = c.self.invariant.sound.others c.in-Some.number c.in-Some.start c.in-Some.ensures.0 in
    let low = below slots c.in-Some.number o.1.0 o.1.1 in
    let size : length slots ≡ 16 = c.self.invariant.sound.size in
    let from = o.0 in
    record { from = from; to = omega arith }

pub invariant_of-self : goal.invariant_of-self
invariant_of-self g c =
    let slots = c.self.inside.slots.items in
    let q = c.in-Some.number in
    let slot = c.in-Some-index_mut.slot in
    let o = c.self.invariant.sound.others q c.in-Some.start c.in-Some.ensures.0 in
    let low = below slots q o.1.0 o.1.1 in
    let at = here slots q c.index_mut.result.now slot low c.index_mut.ensures.value c.in-Some-index_mut.is in
    record {
      sound = kept_set g.G.Agenda.held slots c.self.inside.agenda c.set_next_start.new.agenda q c.start-begun.new.self c.next_start-due.result c.self.invariant.sound o.0 low c.set_next_start.ensures c.next_start-due.ensures.due
          (slot_started slot c.start-begun.new.self c.in-Some.start c.start-begun.result.class c.start-begun.result.item c.start-begun.ensures.moved (c.self.invariant.sound.each q slot o.0 at));
      present = present_kept slots c.self.inside.present q slot c.start-begun.new.self c.self.invariant.present o.0 low at;
    }

pub overflow_sub-number : goal.overflow_sub-number
overflow_sub-number g c = (c.self.invariant.sound.others c.in-Some.number c.in-Some.start c.in-Some.ensures.0).0

pub unreachable-requires : goal.unreachable-requires
unreachable-requires g c = let o = c.self.invariant.sound.others c.in-Some.number c.in-Some.start c.in-Some.ensures.0 in not_none c.self.inside.slots.items c.in-Some.number c.index_mut.result.now o.1.0 o.1.1 c.index_mut.ensures.value c.in-None-index_mut.is

pub unreachable-requires-in-None : goal.unreachable-requires-in-None
unreachable-requires-in-None g c = let r = c.requires in none_held (g.G.Agenda.held c.self.inside.agenda) r.0 r.1 c.in-None.ensures (subst (λ (z : PortsState _ _). g.G.Agenda.held z.agenda r.0 ≡ Some r.1) (sym c.self.view_is) r.2)

pub returns-clause-which : goal.returns-clause-which
returns-clause-which g c =
    let z = subst (IsLeast (g.G.Agenda.held c.self.inside.agenda)) c.in-Some.is c.least.ensures in
    subst (λ (v : PortsState _ _). IsLeast (g.G.Agenda.held v.agenda) (Some (c.in-Some.number, c.in-Some.start))) c.self.view_is z

pub returns-clause-started : goal.returns-clause-started
returns-clause-started g c =
    let slots = c.self.inside.slots.items in
    let q = c.in-Some.number in
    let slot = c.in-Some-index_mut.slot in
    let o = c.self.invariant.sound.others q c.in-Some.start c.in-Some.ensures.0 in
    let at = here slots q c.index_mut.result.now slot (below slots q o.1.0 o.1.1) c.index_mut.ensures.value c.in-Some-index_mut.is in
    let f = c.start-begun.ensures in
    (slot, has_started c.args.self.now slots c.self.inside.agenda c.set_next_start.new.agenda q slot c.start-begun.new.self c.in-Some.start c.start-begun.result c.self.view_is o.0 at f.moved f.next (λ xs st. f.stands xs st) (λ t. f.counts t) f.done f.bounded f.early f.length)

pub returns-clause-later : goal.returns-clause-later
returns-clause-later g c =
    let z = subst (IsLeast (g.G.Agenda.held c.self.inside.agenda)) c.in-Some.is c.least.ensures in
    is_after g.G.Agenda.held c.self.inside.agenda c.set_next_start.new.agenda c.in-Some.number c.in-Some.start c.start-begun.new.self.port c.next_start-due.result c.set_next_start.ensures c.next_start-due.ensures.due (ap (λ (s : PortState _). s.port.earliest) c.start-begun.ensures.moved) z

pub returns-clause-kept : goal.returns-clause-kept
returns-clause-kept g c = subst (λ (v : PortsState _ _). ArePortsSound g.G.Agenda.held v.slots v.agenda) c.self.view_is c.self.invariant.sound

pub returns-clause-keeps : goal.returns-clause-keeps
returns-clause-keeps g c =
    let slots = c.self.inside.slots.items in
    let q = c.in-Some.number in
    let slot = c.in-Some-index_mut.slot in
    let o = c.self.invariant.sound.others q c.in-Some.start c.in-Some.ensures.0 in
    let low = below slots q o.1.0 o.1.1 in
    let at = here slots q c.index_mut.result.now slot low c.index_mut.ensures.value c.in-Some-index_mut.is in
    kept_set g.G.Agenda.held slots c.self.inside.agenda c.set_next_start.new.agenda q c.start-begun.new.self c.next_start-due.result c.self.invariant.sound o.0 low c.set_next_start.ensures c.next_start-due.ensures.due
    (slot_started slot c.start-begun.new.self c.in-Some.start c.start-begun.result.class c.start-begun.result.item c.start-begun.ensures.moved (c.self.invariant.sound.each q slot o.0 at))

pub unreachable-unreachable : goal.unreachable-unreachable
unreachable-unreachable g c = c.unreachable.type_inv

pub unreachable-unreachable-in-None : goal.unreachable-unreachable-in-None
unreachable-unreachable-in-None g c = c.unreachable-in-None.type_inv
