use Rattle.std.proofs.Common.{◌≡◌, ◌+◌, length, arith, sym, subst, ◌∙◌, false, true}
use Rattle.bridge_semantics.specs.Offers.{CarriedFrame}
use Rattle.bridge_relay.specs.Ports.{port_state, is_present, is_output}
use Rattle.bridge_relay.specs.RelayState.{RelayState}
use Rattle.bridge_relay.specs.RelayedFrames.{leaving_frame, CanRelay, IsOfferingSet}
use Rattle.bridge_relay.proofs.Offering.{skipped, not_out, out_not, out_yes, same_leaves, copies_pop, copies_left, goes_first}
use Rattle.bridge_relay.proofs.relay.Relay.offer_next_copy.Goals.{then-not-has-via-then-not-has, then-not-has-via-else-not-has+then-not-has-2}
use Rattle.bridge_relay.proofs.relay.Relay.offer_next_copy.Goals as goal

pub returns-then-not-has : goal.returns-then-not-has
returns-then-not-has g c =
    let now = c.args.self.now in
    let k = c.args.number in
    let none : is_output now.ports.slots c.args.set k ≡ false = elim c.then-not-has.branch [
      | then-not-has-via-then-not-has w ↦ not_out now.ports.slots c.args.set k (sym c.has.ensures ∙ w.if-not-has.true)
      | then-not-has-via-else-not-has+then-not-has-2 w ↦ out_not now.ports.slots c.args.set k (subst (λ (v : RelayState _ _). is_present (port_state v.ports k) ≡ false) c.self.view_is (sym w.has-else-not-has.ensures ∙ w.if-not-has-2.true))
    ] in
    record { next = λ b a h. skipped g.G.Agenda.held b now c.args.set c.args.priority (leaving_frame c.args.first.now c.args.len c.args.eligible) k c.args.first.now.octets.items c.args.copies.now.items c.requires.from none a h }

pub offer_listed_copy-requires : goal.offer_listed_copy-requires
offer_listed_copy-requires g c =
    let now = c.args.self.now in
    let k = c.args.number in
    let b = c.requires.along.0 in
    let may = c.requires.along.1 in
    let a = c.requires.along.2 in
    let h = c.requires.along.3 in
    let goes = out_yes now.ports.slots c.args.set k (sym c.has.ensures ∙ c.if-not-has.false) (subst (λ (v : RelayState _ _). is_present (port_state v.ports k) ≡ true) c.self.view_is (sym c.has-else-not-has.ensures ∙ c.if-not-has-2.false)) in
    let goes_b = sym (goes_first g.G.Agenda.held b now c.args.set c.args.priority (leaving_frame c.args.first.now c.args.len c.args.eligible) k a c.requires.from) ∙ goes in
    let e = c.in-Some.ensures in
    let p = copies_pop b.ports.slots c.args.set k c.args.first.now.octets.items c.args.copies.now.items c.pop.new.self.items c.in-Some.octets h e.items c.requires.from goes_b in
    let same = same_leaves c.args.first.now c.in-Some.octets c.args.len c.args.eligible p.1 in
    record {
      from = c.requires.from;
      to = c.requires.to;
      priority = c.requires.priority;
      along = (b, subst (CanRelay b) (sym same) may, subst (λ (x : CarriedFrame). IsOfferingSet g.G.Agenda.held b now c.args.set c.args.priority x k) (sym same) a);
      goes = goes;
    }

pub unreachable-requires : goal.unreachable-requires
unreachable-requires g c =
    let now = c.args.self.now in
    let k = c.args.number in
    let b = c.requires.along.0 in
    let a = c.requires.along.2 in
    let h = c.requires.along.3 in
    let goes = out_yes now.ports.slots c.args.set k (sym c.has.ensures ∙ c.if-not-has.false) (subst (λ (v : RelayState _ _). is_present (port_state v.ports k) ≡ true) c.self.view_is (sym c.has-else-not-has.ensures ∙ c.if-not-has-2.false)) in
    let goes_b = sym (goes_first g.G.Agenda.held b now c.args.set c.args.priority (leaving_frame c.args.first.now c.args.len c.args.eligible) k a c.requires.from) ∙ goes in
    let e = c.in-None.ensures in
    let z : length c.args.copies.now.items ≡ 0 = (let o = c.args.copies.now.ok in let w = e.cases.0 in omega (arith, o, w)) in
    copies_left b.ports.slots c.args.set k c.args.first.now.octets.items c.args.copies.now.items h z c.requires.from goes_b c.requires.along.4

pub returns : goal.returns
returns g c = record {
  next = λ b a h.
      let now = c.args.self.now in
      let k = c.args.number in
      let x = leaving_frame c.args.first.now c.args.len c.args.eligible in
      let goes = out_yes now.ports.slots c.args.set k (sym c.has.ensures ∙ c.if-not-has.false) (subst (λ (v : RelayState _ _). is_present (port_state v.ports k) ≡ true) c.self.view_is (sym c.has-else-not-has.ensures ∙ c.if-not-has-2.false)) in
      let goes_b = sym (goes_first g.G.Agenda.held b now c.args.set c.args.priority x k a c.requires.from) ∙ goes in
      let e = c.in-Some.ensures in
      let p = copies_pop b.ports.slots c.args.set k c.args.first.now.octets.items c.args.copies.now.items c.pop.new.self.items c.in-Some.octets h e.items c.requires.from goes_b in
      let same = same_leaves c.args.first.now c.in-Some.octets c.args.len c.args.eligible p.1 in
      let moved = c.offer_listed_copy.ensures.next b (subst (λ (y : CarriedFrame). IsOfferingSet g.G.Agenda.held b now c.args.set c.args.priority y k) (sym same) a) in
      (subst (λ (y : CarriedFrame). IsOfferingSet g.G.Agenda.held b c.offer_listed_copy.new.self c.args.set c.args.priority y (k + 1)) same moved, p.0);
}
