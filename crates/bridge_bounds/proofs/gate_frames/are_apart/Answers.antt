use Rattle.std.proofs.Common.{arith, refl}
use Rattle.std.proofs.lemmas.Bool.{both_ways}
use Rattle.bridge_cycle.specs.CyclicLaws.{IsTurn, cyclic_turn_is_exact}
use Rattle.bridge_bounds.proofs.Apart.{all_apart, apart_shut, behind_more}
use Rattle.bridge_bounds.proofs.gate_frames.are_apart.Goals as goal

pub is_shut_after_turn-requires-clause-end : goal.is_shut_after_turn-requires-clause-end
is_shut_after_turn-requires-clause-end g c =
    let turn : IsTurn c.args.list.now c.loop-seen.seen c.turn-turn.result = cyclic_turn_is_exact c.args.list.now c.loop-seen.seen c.turn-turn.result c.requires.lawful c.turn-turn.ensures.turn in
    let soon = turn.soon in
    let short = c.requires.lawful.cycle in
    let cycle = c.cycle-cycle.ensures.cycle in
    let before = c.loop-seen-test.true in
    omega (arith, soon, short, cycle, before)

pub returns-then-not-is_shut_after_turn : goal.returns-then-not-is_shut_after_turn
returns-then-not-is_shut_after_turn g c = (λ is. absurd (cc), λ apart. absurd (both_ways c.is_shut_after_turn.result c.if-not-is_shut_after_turn.true (c.is_shut_after_turn.ensures.1 (λ lets. apart_shut c.args.list.now c.args.apart c.loop-seen.seen c.turn-turn.result c.requires.lawful apart c.turn-turn.ensures.turn lets))))

pub loop-seen-smaller : goal.loop-seen-smaller
loop-seen-smaller g c =
    let turn : IsTurn c.args.list.now c.loop-seen.seen c.turn-turn.result = cyclic_turn_is_exact c.args.list.now c.loop-seen.seen c.turn-turn.result c.requires.lawful c.turn-turn.ensures.turn in
    let ends = turn.ends in
    let before = c.loop-seen-test.true in
    omega (arith, ends, before)

pub loop-seen-preserved : goal.loop-seen-preserved
loop-seen-preserved g c = behind_more c.args.list.now c.args.apart c.loop-seen.seen c.turn-turn.result c.requires.lawful c.turn-turn.ensures.turn (c.is_shut_after_turn.ensures.0 c.if-not-is_shut_after_turn.false) c.loop-seen.invariant

pub returns : goal.returns
returns g c =
    let cycle = c.cycle-cycle.ensures.cycle in
    let all = c.loop-seen-test.false in
    (λ is. all_apart c.args.list.now c.args.apart c.loop-seen.seen c.requires.lawful c.loop-seen.invariant (omega (arith, cycle, all)), λ apart. refl)
