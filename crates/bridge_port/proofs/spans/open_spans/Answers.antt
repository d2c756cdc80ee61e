use Rattle.std.proofs.Common.{rules, ◌≡◌, ◌<◌, ◌++◌, ◌∷◌, [], arith}
use Rattle.bridge_port.specs.GateSchedule.{list_opens}
use Rattle.bridge_port.proofs.Fitting.{spans_more, spans_push, turn_ends, turn_opened, turn_shut}
use Rattle.bridge_port.proofs.spans.open_spans.Goals as goal

pub loop-seen-smaller-in-Ok-push : goal.loop-seen-smaller-in-Ok-push
loop-seen-smaller-in-Ok-push g c =
    let on : c.loop-seen.seen < c.turn-turn.result.end = turn_ends c.args.list.now c.loop-seen.seen c.turn-turn.result c.turn-turn.ensures.lawful c.turn-turn.ensures.turn in
    let more = c.loop-seen-test.true in
    omega (arith, on, more)

pub loop-seen-preserved-in-Ok-push : goal.loop-seen-preserved-in-Ok-push
loop-seen-preserved-in-Ok-push g c =
    let on : c.loop-seen.seen < c.turn-turn.result.end = turn_ends c.args.list.now c.loop-seen.seen c.turn-turn.result c.turn-turn.ensures.lawful c.turn-turn.ensures.turn in
    let pushed : c.push.new.self.items ≡ c.loop-seen.spans.items ++ record { start = c.loop-seen.start; end = c.loop-seen.seen } ∷ [] = search rules in
    record {
      spans = rw pushed (spans_push (list_opens c.args.list.now c.args.class) 0 c.loop-seen.spans.items c.loop-seen.start c.loop-seen.seen c.turn-turn.result.end c.loop-seen.invariant.spans c.loop-seen.invariant.opened on (turn_shut c.args.list.now c.args.class c.loop-seen.seen c.turn-turn.result c.is_open.result c.turn-turn.ensures.lawful c.turn-turn.ensures.turn c.is_open.ensures c.if-not-is_open.true));
      opened = λ u p q. absurd (omega (arith, p, q));
      ordered = omega arith;
    }

pub loop-seen-smaller-else-start-seen : goal.loop-seen-smaller-else-start-seen
loop-seen-smaller-else-start-seen g c =
    let on : c.loop-seen.seen < c.turn-turn.result.end = turn_ends c.args.list.now c.loop-seen.seen c.turn-turn.result c.turn-turn.ensures.lawful c.turn-turn.ensures.turn in
    let more = c.loop-seen-test.true in
    omega (arith, on, more)

pub loop-seen-preserved-else-start-seen : goal.loop-seen-preserved-else-start-seen
loop-seen-preserved-else-start-seen g c =
    let at_seen = c.if-start-seen.false in
    let ordered = c.loop-seen.invariant.ordered in
    let shut = turn_shut c.args.list.now c.args.class c.loop-seen.seen c.turn-turn.result c.is_open.result c.turn-turn.ensures.lawful c.turn-turn.ensures.turn c.is_open.ensures c.if-not-is_open.true in
    record {
      spans = spans_more (list_opens c.args.list.now c.args.class) 0 c.loop-seen.spans.items c.loop-seen.start c.turn-turn.result.end c.loop-seen.invariant.spans (λ u p q. shut u (omega (arith, p, at_seen, ordered)) q);
      opened = λ u p q. absurd (omega (arith, p, q));
      ordered = omega arith;
    }

pub loop-seen-smaller : goal.loop-seen-smaller
loop-seen-smaller g c =
    let on : c.loop-seen.seen < c.turn-turn.result.end = turn_ends c.args.list.now c.loop-seen.seen c.turn-turn.result c.turn-turn.ensures.lawful c.turn-turn.ensures.turn in
    let more = c.loop-seen-test.true in
    omega (arith, on, more)

pub loop-seen-preserved : goal.loop-seen-preserved
loop-seen-preserved g c =
    let on : c.loop-seen.seen < c.turn-turn.result.end = turn_ends c.args.list.now c.loop-seen.seen c.turn-turn.result c.turn-turn.ensures.lawful c.turn-turn.ensures.turn in
    let ordered = c.loop-seen.invariant.ordered in
    record {
      spans = c.loop-seen.invariant.spans;
      opened = turn_opened c.args.list.now c.args.class c.loop-seen.start c.loop-seen.seen c.turn-turn.result c.is_open.result c.turn-turn.ensures.lawful c.turn-turn.ensures.turn c.is_open.ensures c.if-not-is_open.false c.loop-seen.invariant.opened;
      ordered = omega (arith, on, ordered);
    }
