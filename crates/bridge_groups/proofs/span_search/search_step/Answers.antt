use Rattle.bridge_cycle.proofs.Lists.{list_repeats}
use Rattle.bridge_port.specs.GateSchedule.{list_opens}
use Rattle.bridge_groups.proofs.SpanSearches.{search_goes_on}
use Rattle.bridge_groups.proofs.FitTurns.{list_has_fits}
use Rattle.bridge_groups.proofs.span_search.search_step.Goals as goal

pub returns-clause-searched : goal.returns-clause-searched
returns-clause-searched g c =
    let step = c.pass_run.ensures in
    search_goes_on (list_opens c.args.list.now c.args.class) c.args.occ c.args.list.now.cycle c.requires.shift.0 c.args.curve.now c.args.limits.now c.args.search c.pass_run.result c.next_fit_run-run.result (list_repeats c.args.list.now c.args.class c.requires.lawful) (list_has_fits c.args.list.now c.args.class c.args.occ c.requires.lawful c.requires.ever) c.requires.curve c.requires.shift.1 c.requires.before c.requires.searched c.next_fit_run-run.ensures.run
    (record { from = step.from; rank = step.rank; span = step.span.0; within = step.span.1; bound = step.bound; reached = step.reached; most = step.most; ends = step.ends; delay = step.delay })
