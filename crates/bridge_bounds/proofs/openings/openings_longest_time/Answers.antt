use Rattle.std.proofs.Common.{◌≡◌, ℕ, Bool, true, false, arith, sym, subst, ◌∙◌}
use Rattle.bridge_gate.specs.declared.schedule.GateEntry.{GateEntry}
use Rattle.bridge_port.specs.GateSchedule.{list_opens}
use Rattle.bridge_bounds.specs.Openings.{fills_at, fills_class}
use Rattle.bridge_bounds.proofs.CommonCycles.{common_short}
use Rattle.bridge_bounds.proofs.Opened.{IsAsked, IsGateTurn, asked_all, asked_begin, asked_more, asked_none, asked_past, gate_turn}
use Rattle.bridge_bounds.proofs.openings.openings_longest_time.Goals as goal

pub loop-seen-init : goal.loop-seen-init
loop-seen-init g c = asked_begin (fills_at c.args.port.now c.args.priority c.args.class c.args.gate.now) (list_opens c.args.list.now c.args.class) c.args.occ c.args.room c.args.span

pub overflow_sub-last : goal.overflow_sub-last
overflow_sub-last g c =
    let test : GateEntry → Bool = fills_class c.args.port.now c.args.priority c.args.class in
    let turn : IsGateTurn test c.args.gate.now c.loop-seen.seen c.turn-turn.result = gate_turn test c.args.gate.now c.loop-seen.seen c.turn-turn.result c.requires.gate c.turn-turn.ensures.turn in
    let ends = turn.ends in
    omega (arith, ends)

pub overflow_add-last : goal.overflow_add-last
overflow_add-last g c =
    let test : GateEntry → Bool = fills_class c.args.port.now c.args.priority c.args.class in
    let turn : IsGateTurn test c.args.gate.now c.loop-seen.seen c.turn-turn.result = gate_turn test c.args.gate.now c.loop-seen.seen c.turn-turn.result c.requires.gate c.turn-turn.ensures.turn in
    let soon = turn.soon in
    let short = c.requires.gate.cycle in
    let few = common_short c.args.gate.now c.args.list.now c.args.span c.requires.gate c.requires.span in
    let before = c.loop-seen-test.true in
    let occ = c.requires.occ in
    omega (arith, soon, short, few, before, occ)

pub interval_longest_time-time-requires-clause-times : goal.interval_longest_time-time-requires-clause-times
interval_longest_time-time-requires-clause-times g c =
    let test : GateEntry → Bool = fills_class c.args.port.now c.args.priority c.args.class in
    let turn : IsGateTurn test c.args.gate.now c.loop-seen.seen c.turn-turn.result = gate_turn test c.args.gate.now c.loop-seen.seen c.turn-turn.result c.requires.gate c.turn-turn.ensures.turn in
    let ends = turn.ends in
    omega (arith, ends)

pub interval_longest_time-time-requires-clause-to : goal.interval_longest_time-time-requires-clause-to
interval_longest_time-time-requires-clause-to g c =
    let test : GateEntry → Bool = fills_class c.args.port.now c.args.priority c.args.class in
    let turn : IsGateTurn test c.args.gate.now c.loop-seen.seen c.turn-turn.result = gate_turn test c.args.gate.now c.loop-seen.seen c.turn-turn.result c.requires.gate c.turn-turn.ensures.turn in
    let soon = turn.soon in
    let short = c.requires.gate.cycle in
    let few = common_short c.args.gate.now c.args.list.now c.args.span c.requires.gate c.requires.span in
    let before = c.loop-seen-test.true in
    let occ = c.requires.occ in
    omega (arith, soon, short, few, before, occ)

pub loop-seen-smaller-then-fills_class : goal.loop-seen-smaller-then-fills_class
loop-seen-smaller-then-fills_class g c =
    let test : GateEntry → Bool = fills_class c.args.port.now c.args.priority c.args.class in
    let turn : IsGateTurn test c.args.gate.now c.loop-seen.seen c.turn-turn.result = gate_turn test c.args.gate.now c.loop-seen.seen c.turn-turn.result c.requires.gate c.turn-turn.ensures.turn in
    let ends = turn.ends in
    let before = c.loop-seen-test.true in
    omega (arith, ends, before)

pub loop-seen-smaller : goal.loop-seen-smaller
loop-seen-smaller g c =
    let test : GateEntry → Bool = fills_class c.args.port.now c.args.priority c.args.class in
    let turn : IsGateTurn test c.args.gate.now c.loop-seen.seen c.turn-turn.result = gate_turn test c.args.gate.now c.loop-seen.seen c.turn-turn.result c.requires.gate c.turn-turn.ensures.turn in
    let ends = turn.ends in
    let before = c.loop-seen-test.true in
    omega (arith, ends, before)

pub loop-seen-preserved-then-fills_class : goal.loop-seen-preserved-then-fills_class
loop-seen-preserved-then-fills_class g c =
    let test : GateEntry → Bool = fills_class c.args.port.now c.args.priority c.args.class in
    let lets : ℕ → Bool = fills_at c.args.port.now c.args.priority c.args.class c.args.gate.now in
    let opens : ℕ → Bool = list_opens c.args.list.now c.args.class in
    let room : ℕ = c.args.room in
    let turn : IsGateTurn test c.args.gate.now c.loop-seen.seen c.turn-turn.result = gate_turn test c.args.gate.now c.loop-seen.seen c.turn-turn.result c.requires.gate c.turn-turn.ensures.turn in
    let soon = turn.soon in
    let short = c.requires.gate.cycle in
    let passes : test c.turn-turn.result.state ≡ true = sym c.fills_class.ensures ∙ c.if-fills_class.true in
    let time = c.interval_longest_time-time in
    let next = asked_more lets opens c.args.occ room c.loop-seen.seen c.turn-turn.result.end c.args.span c.loop-seen.longest time.result c.loop-seen.found c.loop-seen.invariant c.loop-seen-test.true turn.ends (omega (arith, soon, short)) (λ u p q. turn.same u p q ∙ passes) time.ensures.longest time.ensures.bounded in
    subst (λ (n : ℕ). IsAsked lets opens c.args.occ room c.turn-turn.result.end c.args.span n true) (sym c.max-longest.ensures) next

pub loop-seen-preserved : goal.loop-seen-preserved
loop-seen-preserved g c =
    let test : GateEntry → Bool = fills_class c.args.port.now c.args.priority c.args.class in
    let lets : ℕ → Bool = fills_at c.args.port.now c.args.priority c.args.class c.args.gate.now in
    let opens : ℕ → Bool = list_opens c.args.list.now c.args.class in
    let room : ℕ = c.args.room in
    let turn : IsGateTurn test c.args.gate.now c.loop-seen.seen c.turn-turn.result = gate_turn test c.args.gate.now c.loop-seen.seen c.turn-turn.result c.requires.gate c.turn-turn.ensures.turn in
    let soon = turn.soon in
    let short = c.requires.gate.cycle in
    let shut : test c.turn-turn.result.state ≡ false = sym c.fills_class.ensures ∙ c.if-fills_class.false in
    asked_past lets opens c.args.occ room c.loop-seen.seen c.turn-turn.result.end c.args.span c.loop-seen.longest c.loop-seen.found c.loop-seen.invariant c.loop-seen-test.true (omega (arith, soon, short)) (λ u p q. turn.same u p q ∙ shut)

pub returns-then-not-found-clause-longest : goal.returns-then-not-found-clause-longest
returns-then-not-found-clause-longest g c = asked_none (fills_class c.args.port.now c.args.priority c.args.class) c.args.gate.now c.args.list.now (list_opens c.args.list.now c.args.class) c.args.occ c.args.room c.loop-seen.seen c.args.span c.loop-seen.longest c.loop-seen.found c.requires.gate c.requires.list c.requires.span c.loop-seen.invariant c.loop-seen-test.false c.if-not-found.true

pub returns-clause-longest : goal.returns-clause-longest
returns-clause-longest g c = asked_all (fills_class c.args.port.now c.args.priority c.args.class) c.args.gate.now c.args.list.now c.args.class c.args.occ c.args.room c.loop-seen.seen c.args.span c.loop-seen.longest c.loop-seen.found c.requires.gate c.requires.list c.requires.ever c.requires.span c.loop-seen.invariant c.loop-seen-test.false c.if-not-found.false
