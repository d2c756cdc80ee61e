use Rattle.std.proofs.Common.{◌+◌, ◌<◌, min, arith, refl, sym, ◌∙◌}
use Rattle.bridge_cycle.specs.CyclicLaws.{IsTurn, cyclic_turn_is_exact}
use Rattle.bridge_bounds.proofs.Shifted.{let_all, let_more}
use Rattle.bridge_bounds.proofs.passing.can_pass_turns.Goals as goal

pub loop-seen-smaller : goal.loop-seen-smaller
loop-seen-smaller g c =
    let turn : IsTurn c.args.list.now c.loop-seen.seen c.turn-turn.result = cyclic_turn_is_exact c.args.list.now c.loop-seen.seen c.turn-turn.result c.requires.lawful c.turn-turn.ensures.turn in
    let ends = turn.ends in
    let before = c.loop-seen-test.true in
    omega (arith, ends, before)

pub loop-seen-preserved : goal.loop-seen-preserved
loop-seen-preserved g c =
    let turn : IsTurn c.args.list.now c.loop-seen.seen c.turn-turn.result = cyclic_turn_is_exact c.args.list.now c.loop-seen.seen c.turn-turn.result c.requires.lawful c.turn-turn.ensures.turn in
    let ends = turn.ends in
    let begun = c.loop-seen.invariant.begun in
    record {
      begun = omega (arith, ends, begun);
      let_below = let_more c.args.list.now c.args.from c.args.to c.loop-seen.seen c.args.sdu c.turn-turn.result c.requires.lawful c.turn-turn.ensures.turn (sym c.can_pass_entry.ensures ∙ c.if-not-can_pass_entry.false) c.loop-seen.invariant.let_below;
    }

pub returns : goal.returns
returns g c =
    let end = c.min-end.ensures in
    let cycle = c.cycle.ensures.cycle in
    let all = c.loop-seen-test.false in
    let past : min c.args.to (c.args.from + c.args.list.now.cycle) < c.loop-seen.seen = omega (arith, end, cycle, all) in
    (λ is. let_all c.args.list.now c.args.from c.args.to c.loop-seen.seen c.args.sdu c.requires.lawful c.loop-seen.invariant.let_below past, λ is. refl)
