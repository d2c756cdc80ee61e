use Rattle.std.proofs.Common.{arith}
use Rattle.bridge_cycle.specs.CyclicLaws.{cyclic_turn_is_exact}
use Rattle.bridge_groups.proofs.GateOpenings.{ends_start, shut_on}
use Rattle.bridge_groups.proofs.openings.next_opening.Goals as goal

pub loop-seen-smaller : goal.loop-seen-smaller
loop-seen-smaller g c =
    let ends = (cyclic_turn_is_exact c.args.list.now c.loop-seen.seen c.turn-turn.result c.requires.lawful c.turn-turn.ensures.turn).ends in
    let before = c.loop-seen-test.true in
    omega (arith, ends, before)

pub loop-seen-preserved : goal.loop-seen-preserved
loop-seen-preserved g c =
    let ends = (cyclic_turn_is_exact c.args.list.now c.loop-seen.seen c.turn-turn.result c.requires.lawful c.turn-turn.ensures.turn).ends in
    let after = c.loop-seen.invariant.after in
    record {
      after = omega (arith, ends, after);
      starts = ends_start c.args.list.now c.requires.lawful c.loop-seen.seen c.turn-turn.result c.turn-turn.ensures.turn;
      shut = shut_on c.args.list.now c.requires.lawful c.args.from c.loop-seen.seen c.turn-turn.result c.turn-turn.ensures.turn c.if-turn.false c.loop-seen.invariant.shut;
    }
