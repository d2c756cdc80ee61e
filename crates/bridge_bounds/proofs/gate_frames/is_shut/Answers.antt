use Rattle.std.proofs.Common.{arith}
use Rattle.bridge_cycle.specs.CyclicLaws.{IsTurn, cyclic_turn_is_exact}
use Rattle.bridge_bounds.proofs.Apart.{shut_more}
use Rattle.bridge_bounds.proofs.gate_frames.is_shut.Goals as goal

pub loop-seen-smaller : goal.loop-seen-smaller
loop-seen-smaller g c =
    let turn : IsTurn c.args.list.now c.loop-seen.seen c.turn-turn.result = cyclic_turn_is_exact c.args.list.now c.loop-seen.seen c.turn-turn.result c.requires.lawful c.turn-turn.ensures.turn in
    let ends = turn.ends in
    let before = c.loop-seen-test.true in
    omega (arith, ends, before)

pub loop-seen-preserved : goal.loop-seen-preserved
loop-seen-preserved g c =
    let turn : IsTurn c.args.list.now c.loop-seen.seen c.turn-turn.result = cyclic_turn_is_exact c.args.list.now c.loop-seen.seen c.turn-turn.result c.requires.lawful c.turn-turn.ensures.turn in
    let ends = turn.ends in
    let begun = c.loop-seen.invariant.begun in
    record {
      begun = omega (arith, ends, begun);
      shut = shut_more c.args.list.now c.args.from c.loop-seen.seen c.turn-turn.result c.requires.lawful c.turn-turn.ensures.turn c.if-turn.false c.loop-seen.invariant.shut;
    }
