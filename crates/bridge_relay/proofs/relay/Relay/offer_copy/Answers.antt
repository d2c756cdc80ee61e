use Rattle.std.proofs.Common.{◌≡◌, ℕ, ◌≤◌, List, length, arith, sym, subst, ap, ◌∙◌}
use Rattle.bridge_forward.specs.Ports.{has_port}
use Rattle.bridge_port.specs.declared.item.Item.{Item}
use Rattle.bridge_semantics.specs.declared.queued_frame.QueuedFrame.{QueuedFrame}
use Rattle.bridge_semantics.specs.Offers.{carried_frame}
use Rattle.bridge_config.specs.Model as config
use Rattle.bridge_relay.specs.Ports.{port_state, is_present}
use Rattle.bridge_relay.specs.RelayState.{is_filter_unknown}
use Rattle.bridge_relay.specs.RelayedFrames.{leaving_frame}
use Rattle.bridge_relay.proofs.Offering.{offering_more, left_some, goes_first, awaited_by, and_right, some_there}
use Rattle.bridge_relay.proofs.relay.Relay.offer_copy.Goals as goal

pub offer_to_port-requires : goal.offer_to_port-requires
offer_to_port-requires g c =
    let b = c.requires.along.0 in
    let may = c.requires.along.1 in
    let a = c.requires.along.2 in
    let k = c.args.number in
    let now = c.args.self.now in
    let x = leaving_frame c.args.load c.args.len c.args.eligible in
    let goes = sym (goes_first g.G.Agenda.held b now c.args.set c.args.priority x k a c.requires.from) ∙ c.requires.goes in
    let some = left_some g.G.Agenda.held b now c.args.set c.args.priority x k a c.requires.from c.requires.to goes in
    let there = some_there (port_state now.ports k) (and_right (has_port c.args.set k) (is_present (port_state now.ports k)) c.requires.goes) in
    let marked = c.mark_if_eligible-octets.ensures.marked in
    record {
      from = c.requires.from;
      there = there;
      time = (a.early, may.range);
      due = a.due;
      awaited = awaited_by now c.args.load.flow c.args.load.own k a.left some a.pending;
      right = ap (λ (v : config.Plan _). is_filter_unknown v.filters c.args.load.flow) a.plan ∙ may.right;
      fresh = λ s at. let f = may.fresh k s c.requires.from (sym (a.ahead k (omega arith)) ∙ at) in let e = a.arrived in omega arith;
      length = (may.short.0, subst (λ (v : List ℕ). length v ≤ c.args.len) (sym marked) may.short.1);
      priority = c.requires.priority;
      few = let e = a.arrived in let f = may.few in omega arith;
    }

pub returns : goal.returns
returns g c = record {
  next = λ b a.
      let k = c.args.number in
      let now = c.args.self.now in
      let x = leaving_frame c.args.load c.args.len c.args.eligible in
      let there = some_there (port_state now.ports k) (and_right (has_port c.args.set k) (is_present (port_state now.ports k)) c.requires.goes) in
      let item : Item (QueuedFrame _) = record { len = c.args.len; load = record { at = c.args.load.at; flow = c.args.load.flow; own = c.args.load.own; recorder = c.args.load.recorder; octets = c.mark_if_eligible-octets.result } } in
      let same : carried_frame item ≡ x = ap (λ (v : List ℕ). record { at = c.args.load.at; flow = c.args.load.flow; own = c.args.load.own; len = c.args.len; octets = v }) c.mark_if_eligible-octets.ensures.marked in
      offering_more g.G.Agenda.held b now c.offer_to_port.new.self c.args.set c.args.priority x k there.0 item a c.requires.from c.requires.to c.requires.goes there.1 same (c.offer_to_port.ensures.offered there.0 there.1) c.offer_to_port.ensures.sound c.offer_to_port.ensures.due;
}
