use Rattle.std.proofs.Common.{◌≡◌, ◌≤◌, ◌<◌, arith, sym, subst, Some, false}
use Rattle.std.specs.Prelude.{IfSome, slice_index}
use Rattle.bridge_port.specs.declared.item.Item.{Item}
use Rattle.bridge_semantics.specs.declared.queued_frame.QueuedFrame.{QueuedFrame}
use Rattle.bridge_relay.specs.declared.port_state.PortState.{PortState}
use Rattle.bridge_relay.specs.Ports.{port_state, StartsNoEarlier}
use Rattle.bridge_relay.specs.RelayedFrames.{HasOfferedCopy}
use Rattle.bridge_relay.specs.RelayState.{RelayState, AwaitsCopy, is_filter_unknown}
use Rattle.bridge_relay.proofs.Sound.{owes_awaited, right_of, sound_offered, has_offered_to}
use Rattle.bridge_relay.proofs.relay.Relay.offer_to_port.Goals as goal

pub record_answer-requires : goal.record_answer-requires
record_answer-requires g c =
    let b = c.self.inside in
    let old : RelayState _ _ = record { plan = b.plan.now; streams = b.ident; police = b.police; ports = b.ports; tables = b.tables.entries; arrived = b.arrived; earliest = b.earliest } in
    owes_awaited old c.args.load.flow c.args.load.own c.args.number (subst (λ (v : RelayState _ _). IfSome c.args.load.flow (λ n. AwaitsCopy v n c.args.load.own c.args.number)) (sym c.self.view_is) c.requires.awaited)

pub offer-answer-requires : goal.offer-answer-requires
offer-answer-requires g c =
    let there = subst (λ (v : RelayState _ _). (s : PortState _) × (port_state v.ports c.args.number ≡ Some s)) (sym c.self.view_is) c.requires.there in
    let time = subst (λ (v : RelayState _ _). v.earliest ≤ c.args.load.at) (sym c.self.view_is) c.requires.time.0 in
    record {
      from = c.requires.from;
      there = there;
      early = λ s at.
          let e = c.self.invariant.early c.args.number s c.requires.from at in
          let low = e.0 in
          let fresh = subst (λ (v : RelayState _ _). s.port.offered < v.arrived) (sym c.self.view_is) (c.requires.fresh s (subst (λ (v : RelayState _ _). port_state v.ports c.args.number ≡ Some s) c.self.view_is at)) in
          let few = c.self.invariant.few.1 in
          (omega arith, omega arith);
      due = subst (λ (v : RelayState _ _). StartsNoEarlier (g.G.Agenda.held v.ports.agenda) c.args.load.at) (sym c.self.view_is) c.requires.due;
      range = c.requires.time.1;
      length = c.requires.length.0;
      priority = c.requires.priority;
    }

pub invariant_of-self : goal.invariant_of-self
invariant_of-self g c =
    let b = c.self.inside in
    let q = c.args.number in
    let x : Item (QueuedFrame _) = record { len = c.args.len; load = c.args.load } in
    let old : RelayState _ _ = record { plan = b.plan.now; streams = b.ident; police = b.police; ports = b.ports; tables = b.tables.entries; arrived = b.arrived; earliest = b.earliest } in
    let there = subst (λ (v : RelayState _ _). (s : PortState _) × (port_state v.ports q ≡ Some s)) (sym c.self.view_is) c.requires.there in
    let s = there.0 in
    let time = subst (λ (v : RelayState _ _). v.earliest ≤ c.args.load.at) (sym c.self.view_is) c.requires.time.0 in
    let fresh = subst (λ (v : RelayState _ _). s.port.offered < v.arrived) (sym c.self.view_is) (c.requires.fresh s (subst (λ (v : RelayState _ _). port_state v.ports q ≡ Some s) c.self.view_is there.1)) in
    let stray = subst (λ (v : RelayState _ _). is_filter_unknown v.plan.filters c.args.load.flow ≡ false) (sym c.self.view_is) c.requires.right in
    let awaits = subst (λ (v : RelayState _ _). IfSome c.args.load.flow (λ n. AwaitsCopy v n c.args.load.own q)) (sym c.self.view_is) c.requires.awaited in
    sound_offered g.G.Agenda.held old c.offer-answer.new.self c.record_answer.new.tables.entries q c.args.load.at (slice_index s.classes c.args.priority) s x c.offer-answer.result c.self.invariant there.1 (c.offer-answer.ensures.offered s there.1) c.requires.from c.offer-answer.ensures.due time fresh (right_of b.plan.now.filters x stray c.requires.length.1) awaits c.record_answer.ensures

pub returns-clause-offered : goal.returns-clause-offered
returns-clause-offered g c = λ s is.
    let b = c.self.inside in
    let q = c.args.number in
    let x : Item (QueuedFrame _) = record { len = c.args.len; load = c.args.load } in
    let old : RelayState _ _ = record { plan = b.plan.now; streams = b.ident; police = b.police; ports = b.ports; tables = b.tables.entries; arrived = b.arrived; earliest = b.earliest } in
    let new : RelayState _ _ = record { plan = b.plan.now; streams = b.ident; police = b.police; ports = c.offer-answer.new.self; tables = c.record_answer.new.tables.entries; arrived = b.arrived; earliest = c.args.load.at } in
    let at = subst (λ (v : RelayState _ _). port_state v.ports q ≡ Some s) (sym c.self.view_is) is in
    subst (λ (v : RelayState _ _). HasOfferedCopy v new q s (slice_index s.classes c.args.priority) x) c.self.view_is (has_offered_to old c.offer-answer.new.self c.record_answer.new.tables.entries q (slice_index s.classes c.args.priority) s x c.offer-answer.result at (c.offer-answer.ensures.offered s at) c.record_answer.ensures)

pub returns-clause-sound : goal.returns-clause-sound
returns-clause-sound g c =
    let b = c.self.inside in
    let q = c.args.number in
    let x : Item (QueuedFrame _) = record { len = c.args.len; load = c.args.load } in
    let old : RelayState _ _ = record { plan = b.plan.now; streams = b.ident; police = b.police; ports = b.ports; tables = b.tables.entries; arrived = b.arrived; earliest = b.earliest } in
    let there = subst (λ (v : RelayState _ _). (s : PortState _) × (port_state v.ports q ≡ Some s)) (sym c.self.view_is) c.requires.there in
    let s = there.0 in
    let time = subst (λ (v : RelayState _ _). v.earliest ≤ c.args.load.at) (sym c.self.view_is) c.requires.time.0 in
    let fresh = subst (λ (v : RelayState _ _). s.port.offered < v.arrived) (sym c.self.view_is) (c.requires.fresh s (subst (λ (v : RelayState _ _). port_state v.ports q ≡ Some s) c.self.view_is there.1)) in
    let stray = subst (λ (v : RelayState _ _). is_filter_unknown v.plan.filters c.args.load.flow ≡ false) (sym c.self.view_is) c.requires.right in
    let awaits = subst (λ (v : RelayState _ _). IfSome c.args.load.flow (λ n. AwaitsCopy v n c.args.load.own q)) (sym c.self.view_is) c.requires.awaited in
    sound_offered g.G.Agenda.held old c.offer-answer.new.self c.record_answer.new.tables.entries q c.args.load.at (slice_index s.classes c.args.priority) s x c.offer-answer.result c.self.invariant there.1 (c.offer-answer.ensures.offered s there.1) c.requires.from c.offer-answer.ensures.due time fresh (right_of b.plan.now.filters x stray c.requires.length.1) awaits c.record_answer.ensures
