use Rattle.std.proofs.Common.{◌≡◌, ◌+◌, drop, min, Option, Some, arith, ap, sym, subst, ◌∙◌, ℕ}
use Rattle.bridge_cycle.specs.CyclicLaws.{cyclic_turn_is_exact}
use Rattle.bridge_cycle.specs.declared.timeline.Turn.{Turn}
use Rattle.bridge_gate.specs.declared.schedule.GateEntry.{GateEntry}
use Rattle.bridge_groups.specs.GateIntervals.{turn_end}
use Rattle.bridge_groups.specs.MergedGates.{first_end}
use Rattle.bridge_groups.proofs.MergedGates.{rest_first}
use Rattle.bridge_groups.proofs.merged_gates.first_end.Goals as goal

pub loop-list-preserved : goal.loop-list-preserved
loop-list-preserved g c =
    let item = c.list-item.result in
    let lists = c.args.lists.now in
    let next : c.min-end.result ≡ min c.loop-list.end (turn_end (Some c.turn.result)) = c.min-end.ensures in
    let turn = ap (λ (o : Option (Turn GateEntry)). min c.loop-list.end (turn_end o)) (sym c.turn.ensures.turn) in
    let rest = sym (rest_first lists c.args.at c.loop-list.end c.loop-list.list-index item c.loop-list-test.true c.list-item.is) ∙ c.loop-list.invariant.rest in
    let ends = (cyclic_turn_is_exact item c.args.at c.turn.result c.turn.ensures.lawful c.turn.ensures.turn).ends in
    let before = c.loop-list.invariant.after in
    let upto = c.loop-list.invariant.upto in
    record {
      rest = subst (λ (i : ℕ). first_end (drop (c.loop-list.list-index + 1) lists) c.args.at i ≡ first_end lists c.args.at c.args.until) (sym (next ∙ turn)) rest;
      after = omega (arith, ends, before, next);
      upto = omega (arith, next, upto);
    }
