use Rattle.std.proofs.Common.{◌≡◌, ℕ, ◌≤◌, ◌+◌, arith, subst, ◌∙◌}
use Rattle.bridge_relay.specs.Ports.{IsLastOutput}
use Rattle.bridge_relay.specs.RelayState.{RelayState}
use Rattle.bridge_relay.specs.RelayedFrames.{leaving_frame, IsOfferingSet}
use Rattle.bridge_relay.proofs.Offering.{more_out, offering_end, offering_from, goes_first}
use Rattle.bridge_relay.proofs.relay.Relay.offer_several_copies.Goals as goal

pub loop-number-init : goal.loop-number-init
loop-number-init g c =
    let ends = subst (λ (v : RelayState _ _). IsLastOutput v.ports.slots c.args.set c.count_outputs-last.result.1) c.self.view_is c.count_outputs-last.ensures.last in
    let f = c.first_port_with_copy-from.ensures in
    let all = c.args.copies.now.ok in
    let start = offering_from g.G.Agenda.held c.args.self.now c.args.set c.args.priority (leaving_frame c.args.first c.args.len c.args.eligible) c.count_outputs-last.result.1 c.first_port_with_copy-from.result c.args.first.octets.items c.args.copies.now.items c.requires.along.1 c.requires.copies f.from f.to (λ l. f.all (omega (arith, all, l))) ends.is_in in
    let to = f.to in
    record { along = start.0; copies = start.1; within = omega (arith, to) }

pub offer_next_copy-requires : goal.offer_next_copy-requires
offer_next_copy-requires g c =
    let last = c.count_outputs-last.result.1 in
    let ends = subst (λ (v : RelayState _ _). IsLastOutput v.ports.slots c.args.set c.count_outputs-last.result.1) c.self.view_is c.count_outputs-last.ensures.last in
    let start = c.first_port_with_copy-from.ensures.from in
    let behind = c.loop-number.auto.number in
    let low : 1 ≤ c.loop-number.number = omega (arith, start, behind) in
    let test = c.loop-number-test.true in
    let e = ends.is_in (omega (arith, test)) in
    let high = e.0 in
    let i = c.loop-number.invariant in
    record {
      from = low;
      to = omega (arith, test, high);
      priority = c.requires.priority;
      along = (c.args.self.now, c.requires.along.0, i.along, i.copies, more_out c.args.self.now.ports.slots c.args.set c.count_outputs-last.result.1 c.loop-number.number e.1 test high);
    }

pub loop-number-preserved : goal.loop-number-preserved
loop-number-preserved g c =
    let i = c.loop-number.invariant in
    let n = c.offer_next_copy.ensures.next c.args.self.now i.along i.copies in
    let test = c.loop-number-test.true in
    record { along = n.0; copies = n.1; within = omega (arith, test) }

pub offer_listed_copy-requires : goal.offer_listed_copy-requires
offer_listed_copy-requires g c =
    let k = c.count_outputs-last.result.1 in
    let some = c.if-last-gt0.true in
    let ends = subst (λ (v : RelayState _ _). IsLastOutput v.ports.slots c.args.set c.count_outputs-last.result.1) c.self.view_is c.count_outputs-last.ensures.last in
    let e = ends.is_in some in
    let i = c.loop-number.invariant in
    let within = i.within in
    let test = c.loop-number-test.false in
    let at : c.loop-number.number ≡ k = omega (arith, within, test, some) in
    let a = subst (λ (n : ℕ). IsOfferingSet g.G.Agenda.held c.args.self.now c.loop-number.self c.args.set c.args.priority (leaving_frame c.args.first c.args.len c.args.eligible) n) at i.along in
    let low : 1 ≤ k = omega (arith, some) in
    record {
      from = low;
      to = e.0;
      priority = c.requires.priority;
      along = (c.args.self.now, c.requires.along.0, a);
      goes = goes_first g.G.Agenda.held c.args.self.now c.loop-number.self c.args.set c.args.priority (leaving_frame c.args.first c.args.len c.args.eligible) k a low ∙ e.1;
    }

pub returns-then-last-gt0 : goal.returns-then-last-gt0
returns-then-last-gt0 g c =
    let k = c.count_outputs-last.result.1 in
    let some = c.if-last-gt0.true in
    let ends = subst (λ (v : RelayState _ _). IsLastOutput v.ports.slots c.args.set c.count_outputs-last.result.1) c.self.view_is c.count_outputs-last.ensures.last in
    let e = ends.is_in some in
    let high = e.0 in
    let i = c.loop-number.invariant in
    let within = i.within in
    let test = c.loop-number-test.false in
    let at : c.loop-number.number ≡ k = omega (arith, within, test, some) in
    let a = subst (λ (n : ℕ). IsOfferingSet g.G.Agenda.held c.args.self.now c.loop-number.self c.args.set c.args.priority (leaving_frame c.args.first c.args.len c.args.eligible) n) at i.along in
    record { offered = offering_end g.G.Agenda.held c.args.self.now c.offer_listed_copy.new.self c.args.set c.args.priority (leaving_frame c.args.first c.args.len c.args.eligible) (k + 1) (c.offer_listed_copy.ensures.next c.args.self.now a) (omega arith) (omega (arith, high)) (λ q l u. ends.none_after q (omega (arith, l)) u) }

pub returns-else-last-gt0 : goal.returns-else-last-gt0
returns-else-last-gt0 g c =
    let k = c.count_outputs-last.result.1 in
    let none = c.if-last-gt0.false in
    let ends = subst (λ (v : RelayState _ _). IsLastOutput v.ports.slots c.args.set c.count_outputs-last.result.1) c.self.view_is c.count_outputs-last.ensures.last in
    let i = c.loop-number.invariant in
    let within = i.within in
    let start = c.first_port_with_copy-from.ensures.from in
    let behind = c.loop-number.auto.number in
    let low : 1 ≤ c.loop-number.number = omega (arith, start, behind) in
    record { offered = offering_end g.G.Agenda.held c.args.self.now c.loop-number.self c.args.set c.args.priority (leaving_frame c.args.first c.args.len c.args.eligible) c.loop-number.number i.along low (omega (arith, within, none)) (λ q l u. ends.none_after q (omega (arith, l, low, none)) u) }
