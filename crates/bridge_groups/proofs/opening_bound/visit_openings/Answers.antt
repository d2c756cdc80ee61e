use Rattle.std.proofs.Common.{arith}
use Rattle.bridge_cycle.specs.CyclicLaws.{cyclic_turn_is_exact}
use Rattle.bridge_port.specs.GateSchedule.{list_opens}
use Rattle.bridge_groups.proofs.GateOpenings.{ends_start}
use Rattle.bridge_groups.proofs.GateSearch.{covers_more}
use Rattle.bridge_groups.proofs.FitTurns.{list_has_fits}
use Rattle.bridge_groups.proofs.opening_bound.visit_openings.Goals as goal

pub next_opening-requires-clause-from : goal.next_opening-requires-clause-from
next_opening-requires-clause-from g c =
    let soon = (cyclic_turn_is_exact c.args.gate.now c.loop-opening.opening.start c.loop-opening.opening.turn c.requires.gated c.loop-opening.invariant.is.turn).soon in
    let cycle = c.requires.gated.cycle in
    let near = c.loop-opening.invariant.near in
    let early = c.requires.early in
    let common = c.requires.common in
    omega (arith, soon, cycle, near, early, common)

pub next_opening-requires-clause-starts : goal.next_opening-requires-clause-starts
next_opening-requires-clause-starts g c = ends_start c.args.gate.now c.requires.gated c.loop-opening.opening.start c.loop-opening.opening.turn c.loop-opening.invariant.is.turn

pub add_interval-requires-clause-times : goal.add_interval-requires-clause-times
add_interval-requires-clause-times g c =
    let is = cyclic_turn_is_exact c.args.gate.now c.loop-opening.opening.start c.loop-opening.opening.turn c.requires.gated c.loop-opening.invariant.is.turn in
    let soon = is.soon in
    let cycle = c.requires.gated.cycle in
    let near = c.loop-opening.invariant.near in
    let early = c.requires.early in
    let common = c.requires.common in
    (is.ends, omega (arith, soon, cycle, near, early, common))

pub loop-opening-preserved : goal.loop-opening-preserved
loop-opening-preserved g c =
    let some = list_has_fits c.args.list.now c.args.class c.args.occ c.requires.lawful c.requires.ever in
    let soon = (cyclic_turn_is_exact c.args.gate.now c.loop-opening.opening.start c.loop-opening.opening.turn c.requires.gated c.loop-opening.invariant.is.turn).soon in
    let cycle = c.requires.gated.cycle in
    let before = c.if-opening-end.false in
    let next = c.in_ok-next.ensures.soon in
    let grows = c.in_ok-delays.ensures.grows in
    record {
      from = c.loop-opening.opening.turn.end;
      is = c.in_ok-next.ensures.next;
      covers = covers_more (list_opens c.args.list.now c.args.class) c.args.occ c.args.least c.args.share c.args.carry some c.args.gate.now c.requires.gated c.loop-opening.invariant.from c.loop-opening.opening c.in_ok-next.next c.loop-opening.invariant.is c.in_ok-next.ensures.next c.loop-opening.delays.longest c.loop-opening.delays.carry c.args.first.start c.in_ok-delays.delays grows.0 grows.1 c.in_ok-delays.ensures.covered c.loop-opening.invariant.covers;
      near = omega (arith, next, soon, cycle, before);
    }
