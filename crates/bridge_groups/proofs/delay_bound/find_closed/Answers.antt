use Rattle.std.proofs.Common.{arith}
use Rattle.bridge_cycle.specs.Cyclic.{turn_by_time}
use Rattle.bridge_cycle.proofs.Lists.{list_repeats}
use Rattle.bridge_cycle.proofs.Turns.{open_there}
use Rattle.bridge_port.specs.GateSchedule.{list_opens}
use Rattle.bridge_groups.proofs.FitTurns.{open_always, open_until, turn_lasts}
use Rattle.bridge_groups.proofs.delay_bound.find_closed.Goals as goal

pub loop-seen-smaller : goal.loop-seen-smaller
loop-seen-smaller g c =
    let turn = turn_lasts c.args.list.now c.args.class c.loop-seen.seen c.turn-turn.result c.requires.lawful c.turn-turn.ensures.turn in
    let ends = turn.ends in
    let before = c.loop-seen-test.true in
    omega (arith, ends, before)

pub loop-seen-preserved : goal.loop-seen-preserved
loop-seen-preserved g c =
    let turn = turn_lasts c.args.list.now c.args.class c.loop-seen.seen c.turn-turn.result c.requires.lawful c.turn-turn.ensures.turn in
    let is_open = open_there (turn_by_time c.args.list.now) c.args.class c.loop-seen.seen c.turn-turn.result c.is_open.result c.turn-turn.ensures.turn c.is_open.ensures c.if-not-is_open.false in
    let soon = turn.soon in
    let short = c.requires.lawful.cycle in
    let cycle = c.cycle-cycle.ensures.cycle in
    let before = c.loop-seen-test.true in
    record {
      opened = open_until (list_opens c.args.list.now c.args.class) 0 c.loop-seen.seen c.turn-turn.result.end c.args.list.now.cycle turn is_open c.loop-seen.invariant.opened;
      near = omega (arith, soon, short, cycle, before);
    }

pub returns-clause-open : goal.returns-clause-open
returns-clause-open g c u h =
    let cycle = c.cycle-cycle.ensures.cycle in
    let all = c.loop-seen-test.false in
    open_always (list_opens c.args.list.now c.args.class) c.args.list.now.cycle c.loop-seen.seen c.requires.lawful.cycle_some (list_repeats c.args.list.now c.args.class c.requires.lawful) (omega (arith, cycle, all)) c.loop-seen.invariant.opened u
