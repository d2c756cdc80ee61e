use Rattle.std.proofs.Common.{length, arith, refl, sym, ◌∙◌}
use Rattle.std.proofs.lemmas.Bool.{false≢true}
use Rattle.std.proofs.lemmas.Option.{slice_get_read}
use Rattle.bridge_limits.proofs.Members.{in_at}
use Rattle.bridge_cycle.specs.CyclicLaws.{cyclic_turn_is_exact}
use Rattle.bridge_groups.proofs.ApartGates.{gap_more}
use Rattle.bridge_groups.proofs.apart_gates.leaves_gap.Goals as goal
use Rattle.bridge_groups.proofs.apart_gates.leaves_gap.Goals.{else-turn-via-then-turn+else-not-are_others_closed, else-turn-via-else-turn}

pub overflow_sub-turn : goal.overflow_sub-turn
overflow_sub-turn g c =
    let at = slice_get_read c.args.lists.now (length c.args.lists.now) c.args.own c.index-lists-own.result refl c.requires.own c.index-lists-own.is in
    let lawful = c.requires.lawful c.index-lists-own.result (in_at c.args.lists.now c.args.own c.index-lists-own.result at) in
    let ends = (cyclic_turn_is_exact c.index-lists-own.result c.loop-interval.seen c.turn-turn.result lawful c.turn-turn.ensures.turn).ends in
    omega (arith, ends)

pub overflow_add-turn : goal.overflow_add-turn
overflow_add-turn g c =
    let at = slice_get_read c.args.lists.now (length c.args.lists.now) c.args.own c.index-lists-own.result refl c.requires.own c.index-lists-own.is in
    let lawful = c.requires.lawful c.index-lists-own.result (in_at c.args.lists.now c.args.own c.index-lists-own.result at) in
    let soon = (cyclic_turn_is_exact c.index-lists-own.result c.loop-interval.seen c.turn-turn.result lawful c.turn-turn.ensures.turn).soon in
    let few = lawful.cycle in
    let before = c.if-seen-cycle.false in
    let cycle = c.requires.cycle in
    let gap = c.requires.gap in
    omega (arith, soon, few, before, cycle, gap)

pub are_others_closed-requires-clause-until : goal.are_others_closed-requires-clause-until
are_others_closed-requires-clause-until g c =
    let at = slice_get_read c.args.lists.now (length c.args.lists.now) c.args.own c.index-lists-own.result refl c.requires.own c.index-lists-own.is in
    let lawful = c.requires.lawful c.index-lists-own.result (in_at c.args.lists.now c.args.own c.index-lists-own.result at) in
    let soon = (cyclic_turn_is_exact c.index-lists-own.result c.loop-interval.seen c.turn-turn.result lawful c.turn-turn.ensures.turn).soon in
    let few = lawful.cycle in
    let before = c.if-seen-cycle.false in
    let cycle = c.requires.cycle in
    let gap = c.requires.gap in
    omega (arith, soon, few, before, cycle, gap)

pub loop-interval-preserved : goal.loop-interval-preserved
loop-interval-preserved g c =
    let at = slice_get_read c.args.lists.now (length c.args.lists.now) c.args.own c.index-lists-own.result refl c.requires.own c.index-lists-own.is in
    let lawful = c.requires.lawful c.index-lists-own.result (in_at c.args.lists.now c.args.own c.index-lists-own.result at) in
    gap_more c.args.lists.now c.args.gap c.loop-interval.seen c.args.own c.index-lists-own.result c.turn-turn.result lawful at c.turn-turn.ensures.turn
    (elim c.else-turn.branch [
      | else-turn-via-then-turn+else-not-are_others_closed w ↦ (λ lets. w.are_others_closed.ensures w.if-not-are_others_closed.false)
      | else-turn-via-else-turn w ↦ (λ lets. absurd (false≢true (sym w.if-turn.false ∙ lets)))
    ])
    c.loop-interval.invariant
