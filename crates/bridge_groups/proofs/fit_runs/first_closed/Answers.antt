use Rattle.std.proofs.Common.{arith}
use Rattle.bridge_cycle.specs.Cyclic.{turn_by_time}
use Rattle.bridge_cycle.proofs.Turns.{open_there}
use Rattle.bridge_port.specs.GateSchedule.{list_opens}
use Rattle.bridge_groups.proofs.FitTurns.{closed_after, open_until, turn_lasts}
use Rattle.bridge_groups.proofs.fit_runs.first_closed.Goals as goal

pub turn-turn-requires-in-loop-seen : goal.turn-turn-requires-in-loop-seen
turn-turn-requires-in-loop-seen g c =
    let turn = turn_lasts c.args.list.now c.args.class c.loop-seen.seen c.loop-seen.turn c.turn-turn.ensures.lawful c.loop-seen.invariant.here in
    let soon = turn.soon in
    let short = c.turn-turn.ensures.lawful.cycle in
    let (u, after, near, closed) = c.loop-seen.invariant.closes in
    let from = c.requires.from in
    omega (arith, soon, short, after, near, from)

pub loop-seen-smaller : goal.loop-seen-smaller
loop-seen-smaller g c =
    let turn = turn_lasts c.args.list.now c.args.class c.loop-seen.seen c.loop-seen.turn c.turn-turn.ensures.lawful c.loop-seen.invariant.here in
    let ends = turn.ends in
    let (u, after, near, closed) = c.loop-seen.invariant.closes in
    omega (arith, ends, after, near)

pub loop-seen-preserved : goal.loop-seen-preserved
loop-seen-preserved g c =
    let turn = turn_lasts c.args.list.now c.args.class c.loop-seen.seen c.loop-seen.turn c.turn-turn.ensures.lawful c.loop-seen.invariant.here in
    let is_open = open_there (turn_by_time c.args.list.now) c.args.class c.loop-seen.seen c.loop-seen.turn c.is_open.result c.loop-seen.invariant.here c.is_open.ensures c.loop-seen-test.true in
    let (u, after, near, closed) = c.loop-seen.invariant.closes in
    let ends = turn.ends in
    let begun = c.loop-seen.invariant.after in
    record {
      after = omega (arith, ends, begun);
      here = c.turn-turn-in-loop-seen.ensures.turn;
      opened = open_until (list_opens c.args.list.now c.args.class) c.args.from c.loop-seen.seen c.loop-seen.turn.end c.args.list.now.cycle turn is_open c.loop-seen.invariant.opened;
      closes = (u, closed_after (list_opens c.args.list.now c.args.class) c.loop-seen.seen c.loop-seen.turn.end c.args.list.now.cycle u turn is_open after closed, near, closed);
    }
