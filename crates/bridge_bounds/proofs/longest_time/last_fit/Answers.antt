use Rattle.std.proofs.Common.{◌+◌, ℕ, Bool, arith}
use Rattle.bridge_cycle.specs.Cyclic.{turn_by_time}
use Rattle.bridge_cycle.proofs.Turns.{open_there, shut_there}
use Rattle.bridge_port.specs.GateSchedule.{list_opens}
use Rattle.bridge_bounds.proofs.Lists.{IsListTurn, list_turn}
use Rattle.bridge_bounds.proofs.Windows.{open_always, open_begin, open_end, open_more}
use Rattle.bridge_bounds.proofs.longest_time.last_fit.Goals as goal

pub loop-seen-init : goal.loop-seen-init
loop-seen-init g c = open_begin (list_opens c.args.list.now c.args.class) c.args.occ c.args.at (c.args.at + c.args.occ + c.cycle.result) c.requires.fits (omega arith)

pub loop-seen-smaller : goal.loop-seen-smaller
loop-seen-smaller g c =
    let turn : IsListTurn c.args.list.now c.args.class c.loop-seen.seen c.turn-turn.result.end = list_turn c.args.list.now c.args.class c.loop-seen.seen c.turn-turn.result c.requires.lawful c.turn-turn.ensures.turn in
    let ends = turn.ends in
    let before = c.loop-seen-test.true in
    omega (arith, ends, before)

pub loop-seen-preserved : goal.loop-seen-preserved
loop-seen-preserved g c =
    let opens : ℕ → Bool = list_opens c.args.list.now c.args.class in
    let turn : IsListTurn c.args.list.now c.args.class c.loop-seen.seen c.turn-turn.result.end = list_turn c.args.list.now c.args.class c.loop-seen.seen c.turn-turn.result c.requires.lawful c.turn-turn.ensures.turn in
    let soon = turn.soon in
    let short = c.requires.lawful.cycle in
    let here = open_there (turn_by_time c.args.list.now) c.args.class c.loop-seen.seen c.turn-turn.result c.is_open.result c.turn-turn.ensures.turn c.is_open.ensures c.if-not-is_open.false in
    open_more opens c.args.occ c.args.at c.loop-seen.seen c.turn-turn.result.end (c.args.at + c.args.occ + c.cycle.result) c.loop-seen.invariant c.loop-seen-test.true turn.ends (omega (arith, soon, short)) here turn.same

pub returns-then-not-is_open : goal.returns-then-not-is_open
returns-then-not-is_open g c =
    let shut = shut_there (turn_by_time c.args.list.now) c.args.class c.loop-seen.seen c.turn-turn.result c.is_open.result c.turn-turn.ensures.turn c.is_open.ensures c.if-not-is_open.true in
    open_end (list_opens c.args.list.now c.args.class) c.args.occ c.args.at c.loop-seen.seen (c.args.at + c.args.occ + c.cycle.result) c.requires.some c.loop-seen.invariant shut

pub returns : goal.returns
returns g c =
    let cycle = c.cycle.ensures.cycle in
    let all = c.loop-seen-test.false in
    open_always c.args.list.now c.args.class c.args.occ c.args.at c.loop-seen.seen (c.args.at + c.args.occ + c.cycle.result) c.requires.lawful c.loop-seen.invariant (omega (arith, cycle, all))
