use Rattle.std.proofs.Common.{arith}
use Rattle.bridge_cycle.proofs.Lists.{list_repeats}
use Rattle.bridge_port.specs.GateSchedule.{list_opens}
use Rattle.bridge_groups.proofs.LongStarts.{all_start_long, one_run_more}
use Rattle.bridge_groups.proofs.cost_search.has_long_starts.Goals as goal

pub loop-covered-preserved : goal.loop-covered-preserved
loop-covered-preserved g c =
    let cycle = c.cycle.ensures.cycle in
    let short = c.requires.lawful.cycle in
    let early = c.requires.start in
    let before = c.loop-covered-test.true in
    let soon = c.next_fit_run-run.ensures.soon in
    let enough = c.if-run-fit.false in
    record {
      starts = one_run_more (list_opens c.args.list.now c.args.class) c.args.fit c.args.long c.args.start c.loop-covered.covered c.next_fit_run-run.result c.requires.some (omega (arith, enough)) c.next_fit_run-run.ensures.run c.loop-covered.invariant.starts;
      near = omega (arith, soon, before, cycle, short, early);
    }

pub returns : goal.returns
returns g c same =
    let cycle = c.cycle.ensures.cycle in
    let all = c.loop-covered-test.false in
    all_start_long (list_opens c.args.list.now c.args.class) c.args.fit c.args.long c.args.list.now.cycle (list_repeats c.args.list.now c.args.class c.requires.lawful) c.args.start c.loop-covered.covered c.requires.lawful.cycle_some c.requires.start (omega (arith, cycle, all)) c.loop-covered.invariant.starts
