use Rattle.std.proofs.Common.{◌≡◌, ◌≤◌, ◌+◌, ◌*◌, zero, suc, ℕ, Bool, arith, refl, subst, sym}
use Rattle.bridge_cycle.specs.Cyclic.{turn_by_time}
use Rattle.bridge_cycle.specs.CyclicLaws.{cyclic_turn_is_exact}
use Rattle.bridge_cycle.specs.Fits.{IsPeriodic}
use Rattle.bridge_cycle.proofs.Lists.{list_repeats}
use Rattle.bridge_cycle.proofs.Repeats.{turns}
use Rattle.bridge_port.specs.GateSchedule.{list_opens}
use Rattle.bridge_groups.proofs.GateCycles.{IsMovedTurn, all_leave, bound_holds, moved}
use Rattle.bridge_groups.proofs.GateOpenings.{ends_start}
use Rattle.bridge_groups.proofs.FitTurns.{list_has_fits}
use Rattle.bridge_groups.proofs.opening_bound.gate_delay_bound.Goals as goal

pub next_opening-requires-clause-from : goal.next_opening-requires-clause-from
next_opening-requires-clause-from g c =
    let soon = (cyclic_turn_is_exact c.args.gate.now 0 c.turn.result c.requires.gated c.turn.ensures.turn).soon in
    let cycle = c.requires.gated.cycle in
    omega (arith, soon, cycle)

pub next_opening-requires-clause-starts : goal.next_opening-requires-clause-starts
next_opening-requires-clause-starts g c = ends_start c.args.gate.now c.requires.gated 0 c.turn.result c.turn.ensures.turn

pub visit_openings-requires-clause-early : goal.visit_openings-requires-clause-early
visit_openings-requires-clause-early g c =
    let soon = (cyclic_turn_is_exact c.args.gate.now 0 c.turn.result c.requires.gated c.turn.ensures.turn).soon in
    let cycle = c.requires.gated.cycle in
    let near = c.in_ok-first.ensures.soon in
    omega (arith, soon, cycle, near)

pub returns-then-delays-carry : goal.returns-then-delays-carry
returns-then-delays-carry g c =
    let l = c.args.gate.now in
    let lawful = c.requires.gated in
    let opens : ℕ → Bool = list_opens c.args.list.now c.args.class in
    let some = list_has_fits c.args.list.now c.args.class c.args.occ c.requires.lawful c.requires.ever in
    let common = c.in_ok-common.common in
    let (n, port) = c.in_ok-common.ensures.port in
    let (m, gate) = c.in_ok-common.ensures.gate in
    let one = c.in_ok-common.ensures.some in
    let cycle = c.cycle.ensures.cycle in
    let gate_cycle = c.cycle-2.ensures.cycle in
    let by_port : n * c.args.list.now.cycle ≡ common = subst (λ (i : ℕ). n * i ≡ common) cycle (sym port) in
    let by_gate : m * l.cycle ≡ common = subst (λ (i : ℕ). m * i ≡ common) gate_cycle (sym gate) in
    let repeats : IsPeriodic opens common = subst (IsPeriodic opens) by_port (λ u. turns opens c.args.list.now.cycle n u (list_repeats c.args.list.now c.args.class c.requires.lawful)) in
    let moves : (t : ℕ) → IsMovedTurn (turn_by_time l t) (turn_by_time l (t + common)) common = λ t. subst (λ (i : ℕ). IsMovedTurn (turn_by_time l t) (turn_by_time l (t + i)) i) by_gate (moved l lawful m t) in
    let soon = (cyclic_turn_is_exact l 0 c.turn.result lawful c.turn.ensures.turn).soon in
    let ends = (cyclic_turn_is_exact l 0 c.turn.result lawful c.turn.ensures.turn).ends in
    let near = c.in_ok-first.ensures.soon in
    let whole : l.cycle ≤ common = at_least m l.cycle common by_gate one in
    let all = all_leave opens c.args.occ c.args.least c.args.share common some repeats l lawful moves c.turn.result.end c.in_ok-first.first c.in_ok-first.ensures.next (omega (arith, ends)) c.loop-search.carry c.in_ok-delays.delays.longest c.in_ok-delays.delays.carry one c.in_ok-delays.ensures in
    bound_holds opens c.args.occ c.args.least c.args.share common some repeats l lawful moves c.turn.result.end c.in_ok-first.first c.in_ok-first.ensures.next (omega (arith, ends)) c.turn.result c.turn.ensures.turn refl (omega (arith, soon, near, whole)) c.loop-search.carry c.in_ok-delays.delays.longest c.in_ok-delays.delays.carry c.if-delays-carry.true all
  where
    at_least : (m cycle common : ℕ) → m * cycle ≡ common → 1 ≤ common → cycle ≤ common
    at_least zero cycle common e one = absurd (omega (arith, e, one))
    at_least (suc m) cycle common e one = omega (arith, e)
