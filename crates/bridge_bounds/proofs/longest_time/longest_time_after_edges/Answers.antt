use Rattle.std.proofs.Common.{◌≡◌, ◌+◌, ◌-◌, ℕ, Bool, arith, max, min, sym, subst}
use Rattle.std.proofs.lemmas.Bool.{both_ways}
use Rattle.bridge_port.specs.GateSchedule.{list_opens}
use Rattle.bridge_bounds.specs.Bounds.{FramesEnd, IsEdge}
use Rattle.bridge_bounds.proofs.Lists.{IsListTurn, IsTried, list_turn, tried_all, tried_begin, tried_edge, tried_past}
use Rattle.bridge_bounds.proofs.longest_time.longest_time_after_edges.Goals as goal

pub loop-seen-init : goal.loop-seen-init
loop-seen-init g c = tried_begin (list_opens c.args.list.now c.args.class) c.args.occ c.args.room c.args.from c.args.to c.frames_duration-longest.result c.requires.some c.requires.times c.frames_duration-longest.ensures.ends c.frames_duration-longest.ensures.bounded

pub overflow_sub-last : goal.overflow_sub-last
overflow_sub-last g c =
    let turn : IsListTurn c.args.list.now c.args.class c.loop-seen.seen c.turn-seen.result.end = list_turn c.args.list.now c.args.class c.loop-seen.seen c.turn-seen.result c.requires.lawful c.turn-seen.ensures.turn in
    let ends = turn.ends in
    let begun = c.loop-seen.invariant.begun in
    let before = c.loop-seen-test.true in
    let some = c.requires.some in
    let least = c.min.ensures in
    omega (arith, ends, begun, before, some, least)

pub loop-seen-smaller-then-is_edge : goal.loop-seen-smaller-then-is_edge
loop-seen-smaller-then-is_edge g c =
    let turn : IsListTurn c.args.list.now c.args.class c.loop-seen.seen c.turn-seen.result.end = list_turn c.args.list.now c.args.class c.loop-seen.seen c.turn-seen.result c.requires.lawful c.turn-seen.ensures.turn in
    let ends = turn.ends in
    let before = c.loop-seen-test.true in
    omega (arith, ends, before)

pub loop-seen-smaller : goal.loop-seen-smaller
loop-seen-smaller g c =
    let turn : IsListTurn c.args.list.now c.args.class c.loop-seen.seen c.turn-seen.result.end = list_turn c.args.list.now c.args.class c.loop-seen.seen c.turn-seen.result c.requires.lawful c.turn-seen.ensures.turn in
    let ends = turn.ends in
    let before = c.loop-seen-test.true in
    omega (arith, ends, before)

pub loop-seen-preserved-then-is_edge : goal.loop-seen-preserved-then-is_edge
loop-seen-preserved-then-is_edge g c =
    let opens : ℕ → Bool = list_opens c.args.list.now c.args.class in
    let turn : IsListTurn c.args.list.now c.args.class c.loop-seen.seen c.turn-seen.result.end = list_turn c.args.list.now c.args.class c.loop-seen.seen c.turn-seen.result c.requires.lawful c.turn-seen.ensures.turn in
    let soon = turn.soon in
    let short = c.requires.lawful.cycle in
    let least : c.min.result ≡ min c.turn-seen.result.end (c.args.to + (c.args.occ - 1)) = c.min.ensures in
    let time = c.frames_duration-time in
    let ends : FramesEnd opens c.args.occ c.args.room (min c.turn-seen.result.end (c.args.to + (c.args.occ - 1)) - c.args.occ + 1) (min c.turn-seen.result.end (c.args.to + (c.args.occ - 1)) - c.args.occ + 1 + time.result) = subst (λ (i : ℕ). FramesEnd opens c.args.occ c.args.room (i - c.args.occ + 1) (i - c.args.occ + 1 + time.result)) least time.ensures.ends in
    let next : IsTried opens c.args.occ c.args.room c.args.from c.args.to c.turn-seen.result.end (max time.result c.loop-seen.longest) = tried_edge opens c.args.occ c.args.room c.args.from c.args.to c.loop-seen.seen c.turn-seen.result.end c.loop-seen.longest time.result c.loop-seen.invariant c.requires.some c.loop-seen-test.true turn.ends (omega (arith, soon, short)) turn.same ends time.ensures.bounded in
    subst (IsTried opens c.args.occ c.args.room c.args.from c.args.to c.turn-seen.result.end) (sym c.max-longest.ensures) next

pub loop-seen-preserved : goal.loop-seen-preserved
loop-seen-preserved g c =
    let opens : ℕ → Bool = list_opens c.args.list.now c.args.class in
    let turn : IsListTurn c.args.list.now c.args.class c.loop-seen.seen c.turn-seen.result.end = list_turn c.args.list.now c.args.class c.loop-seen.seen c.turn-seen.result c.requires.lawful c.turn-seen.ensures.turn in
    let soon = turn.soon in
    let short = c.requires.lawful.cycle in
    let least : c.min.result ≡ min c.turn-seen.result.end (c.args.to + (c.args.occ - 1)) = c.min.ensures in
    tried_past opens c.args.occ c.args.room c.args.from c.args.to c.loop-seen.seen c.turn-seen.result.end c.loop-seen.longest c.loop-seen.invariant c.requires.some c.loop-seen-test.true turn.ends (omega (arith, soon, short)) turn.same
    (λ edge. both_ways c.is_edge.result c.if-is_edge.false (c.is_edge.ensures.1 (subst (λ (i : ℕ). IsEdge opens c.args.occ (i - c.args.occ)) (sym least) edge)))

pub returns-clause-longest : goal.returns-clause-longest
returns-clause-longest g c = tried_all (list_opens c.args.list.now c.args.class) c.args.occ c.args.room c.args.from c.args.to c.loop-seen.seen c.loop-seen.longest c.loop-seen.invariant c.loop-seen-test.false c.requires.some
