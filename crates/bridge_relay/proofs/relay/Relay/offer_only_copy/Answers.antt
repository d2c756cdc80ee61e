use Rattle.std.proofs.Common.{◌≤◌, ◌+◌, [], arith, subst}
use Rattle.bridge_relay.specs.Ports.{IsLastOutput}
use Rattle.bridge_relay.specs.RelayState.{RelayState}
use Rattle.bridge_relay.specs.RelayedFrames.{leaving_frame}
use Rattle.bridge_relay.proofs.Offering.{offering_end, offering_from}
use Rattle.bridge_relay.proofs.relay.Relay.offer_only_copy.Goals as goal

pub offer_copy-requires : goal.offer_copy-requires
offer_copy-requires g c =
    let k = c.count_outputs-last.result.1 in
    let some = c.if-last-gt0.true in
    let ends = subst (λ (v : RelayState _ _). IsLastOutput v.ports.slots c.args.set c.count_outputs-last.result.1) c.self.view_is c.count_outputs-last.ensures.last in
    let e = ends.is_in some in
    let low : 1 ≤ k = omega (arith, some) in
    let start = offering_from g.G.Agenda.held c.args.self.now c.args.set c.args.priority (leaving_frame c.args.load c.args.len c.args.eligible) k k c.args.load.octets.items [] c.requires.along.1 c.requires.copies low (omega arith) (λ l. absurd (omega (arith, l))) ends.is_in in
    record {
      from = low;
      to = e.0;
      priority = c.requires.priority;
      along = (c.args.self.now, c.requires.along.0, start.0);
      goes = e.1;
    }

pub returns-then-last-gt0 : goal.returns-then-last-gt0
returns-then-last-gt0 g c =
    let k = c.count_outputs-last.result.1 in
    let some = c.if-last-gt0.true in
    let ends = subst (λ (v : RelayState _ _). IsLastOutput v.ports.slots c.args.set c.count_outputs-last.result.1) c.self.view_is c.count_outputs-last.ensures.last in
    let e = ends.is_in some in
    let high = e.0 in
    let low : 1 ≤ k = omega (arith, some) in
    let start = offering_from g.G.Agenda.held c.args.self.now c.args.set c.args.priority (leaving_frame c.args.load c.args.len c.args.eligible) k k c.args.load.octets.items [] c.requires.along.1 c.requires.copies low (omega arith) (λ l. absurd (omega (arith, l))) ends.is_in in
    record { offered = offering_end g.G.Agenda.held c.args.self.now c.offer_copy.new.self c.args.set c.args.priority (leaving_frame c.args.load c.args.len c.args.eligible) (k + 1) (c.offer_copy.ensures.next c.args.self.now start.0) (omega arith) (omega (arith, high)) (λ q l u. ends.none_after q (omega (arith, l)) u) }

pub returns-else-last-gt0 : goal.returns-else-last-gt0
returns-else-last-gt0 g c =
    let none = c.if-last-gt0.false in
    let ends = subst (λ (v : RelayState _ _). IsLastOutput v.ports.slots c.args.set c.count_outputs-last.result.1) c.self.view_is c.count_outputs-last.ensures.last in
    record { offered = offering_end g.G.Agenda.held c.args.self.now c.args.self.now c.args.set c.args.priority (leaving_frame c.args.load c.args.len c.args.eligible) 1 c.requires.along.1 (omega arith) (omega arith) (λ q l u. ends.none_after q (omega (arith, l, none)) u) }
