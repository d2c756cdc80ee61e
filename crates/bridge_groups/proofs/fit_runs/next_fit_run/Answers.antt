use Rattle.std.proofs.Common.{◌+◌, arith, refl}
use Rattle.bridge_cycle.proofs.Lists.{list_repeats}
use Rattle.bridge_port.proofs.Opening.{list_soon}
use Rattle.bridge_port.specs.GateSchedule.{list_opens}
use Rattle.bridge_groups.proofs.NthFits.{first_before, run_between}
use Rattle.bridge_groups.proofs.FitTurns.{closed_near}
use Rattle.bridge_groups.proofs.fit_runs.next_fit_run.Goals as goal

pub first_fit-first-requires-clause-some : goal.first_fit-first-requires-clause-some
first_fit-first-requires-clause-some g c =
    let near = list_soon c.args.list.now c.args.class c.args.occ c.args.from c.requires.lawful c.requires.ever in
    (near.0, near.1, (let before = near.2 in omega (arith, before)), near.3)

pub overflow_add-first : goal.overflow_add-first
overflow_add-first g c =
    let near = list_soon c.args.list.now c.args.class c.args.occ c.args.from c.requires.lawful c.requires.ever in
    let early = first_before (list_opens c.args.list.now c.args.class) c.args.occ c.args.occ c.args.from c.first_fit-first.result near.0 (omega arith) near.1 near.3 c.first_fit-first.ensures in
    let before = near.2 in
    let occ = c.requires.occ in
    let from = c.requires.from in
    omega (arith, early, before, occ, from)

pub first_closed-closed-requires-clause-from : goal.first_closed-closed-requires-clause-from
first_closed-closed-requires-clause-from g c =
    let near = list_soon c.args.list.now c.args.class c.args.occ c.args.from c.requires.lawful c.requires.ever in
    let early = first_before (list_opens c.args.list.now c.args.class) c.args.occ c.args.occ c.args.from c.first_fit-first.result near.0 (omega arith) near.1 near.3 c.first_fit-first.ensures in
    let before = near.2 in
    let occ = c.requires.occ in
    let from = c.requires.from in
    omega (arith, early, before, occ, from)

pub first_closed-closed-requires-clause-closes : goal.first_closed-closed-requires-clause-closes
first_closed-closed-requires-clause-closes g c =
    let lawful = c.requires.lawful in
    let (u, after, before, closed) = closed_near (list_opens c.args.list.now c.args.class) c.args.list.now.cycle c.requires.closes.0 (c.first_fit-first.result + c.args.occ) lawful.cycle_some (list_repeats c.args.list.now c.args.class lawful) c.requires.closes.1 in
    let short = lawful.cycle in
    (u, after, omega (arith, before, short), closed)

pub returns-clause-run : goal.returns-clause-run
returns-clause-run g c =
    let after = c.first_closed-closed.ensures.after in
    run_between (list_opens c.args.list.now c.args.class) c.args.occ c.args.from c.first_fit-first.result c.first_closed-closed.result _ c.requires.some c.first_fit-first.ensures after c.first_closed-closed.ensures.open c.first_closed-closed.ensures.closed refl refl

pub returns-clause-soon : goal.returns-clause-soon
returns-clause-soon g c =
    let near = list_soon c.args.list.now c.args.class c.args.occ c.args.from c.requires.lawful c.requires.ever in
    let early = first_before (list_opens c.args.list.now c.args.class) c.args.occ c.args.occ c.args.from c.first_fit-first.result near.0 (omega arith) near.1 near.3 c.first_fit-first.ensures in
    let before = near.2 in
    let occ = c.requires.occ in
    let soon = c.first_closed-closed.ensures.soon in
    let after = c.first_closed-closed.ensures.after in
    omega (arith, early, before, occ, soon, after)
