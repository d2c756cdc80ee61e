use Rattle.std.proofs.Common.{◌<◌, ◌≤◌, arith}
use Rattle.bridge_cycle.specs.declared.run.Run.TheVariants.{Never, For, Always}
use Rattle.bridge_cycle.specs.Cyclic.{turn_by_time}
use Rattle.bridge_cycle.specs.Opens.{turn_opens}
use Rattle.bridge_cycle.proofs.Lists.{list_repeats, allowed_soon}
use Rattle.bridge_cycle.proofs.Runs.{run_never, run_for, run_always}
use Rattle.bridge_cycle.proofs.run.longest_run.Goals as goal

pub returns-then-longest-eq0-clause-longest : goal.returns-then-longest-eq0-clause-longest
returns-then-longest-eq0-clause-longest g c =
    let lawful = c.cycle-cycle.ensures.lawful in
    run_never (λ v. turn_opens (turn_by_time c.args.list.now v) c.args.class) c.args.list.now.cycle c.longest_open_time-longest.result lawful.cycle_some (list_repeats c.args.list.now c.args.class lawful) c.longest_open_time-longest.ensures c.if-longest-eq0.true

pub returns-then-longest-eq0-clause-soon : goal.returns-then-longest-eq0-clause-soon
returns-then-longest-eq0-clause-soon g c = allowed_soon c.args.list.now c.args.class Never c.cycle-cycle.ensures.lawful (returns-then-longest-eq0-clause-longest g c)

pub returns-then-longest-cycle-clause-longest : goal.returns-then-longest-cycle-clause-longest
returns-then-longest-cycle-clause-longest g c =
    let lawful = c.cycle-cycle.ensures.lawful in
    let less : c.longest_open_time-longest.result < c.args.list.now.cycle = let e = c.cycle-cycle.ensures.cycle in omega arith in
    let n : 0 < c.longest_open_time-longest.result = omega arith in
    (n, run_for (λ v. turn_opens (turn_by_time c.args.list.now v) c.args.class) c.args.list.now.cycle c.longest_open_time-longest.result lawful.cycle_some (list_repeats c.args.list.now c.args.class lawful) c.longest_open_time-longest.ensures less)

pub returns-then-longest-cycle-clause-soon : goal.returns-then-longest-cycle-clause-soon
returns-then-longest-cycle-clause-soon g c = allowed_soon c.args.list.now c.args.class (For c.longest_open_time-longest.result) c.cycle-cycle.ensures.lawful (returns-then-longest-cycle-clause-longest g c)

pub returns-else-longest-cycle-clause-longest : goal.returns-else-longest-cycle-clause-longest
returns-else-longest-cycle-clause-longest g c =
    let lawful = c.cycle-cycle.ensures.lawful in
    let all : c.args.list.now.cycle ≤ c.longest_open_time-longest.result = let e = c.cycle-cycle.ensures.cycle in omega arith in
    run_always (λ v. turn_opens (turn_by_time c.args.list.now v) c.args.class) c.args.list.now.cycle c.longest_open_time-longest.result lawful.cycle_some (list_repeats c.args.list.now c.args.class lawful) c.longest_open_time-longest.ensures all

pub returns-else-longest-cycle-clause-soon : goal.returns-else-longest-cycle-clause-soon
returns-else-longest-cycle-clause-soon g c = allowed_soon c.args.list.now c.args.class Always c.cycle-cycle.ensures.lawful (returns-else-longest-cycle-clause-longest g c)
