use Rattle.bridge_port.specs.GateSchedule.{list_opens}
use Rattle.bridge_groups.specs.LinearCurves.{curve_at}
use Rattle.bridge_groups.proofs.SpanCovers.{delay_bound_by}
use Rattle.bridge_groups.proofs.FitTurns.{list_has_fits}
use Rattle.bridge_groups.proofs.delay_bound.windows_delay_bound.Goals as goal

pub returns : goal.returns
returns g c = delay_bound_by (list_opens c.args.list.now c.args.class) c.args.occ c.args.least (curve_at c.args.curve.now) c.all_spans_bound.result (list_has_fits c.args.list.now c.args.class c.args.occ c.requires.lawful c.requires.ever) c.all_spans_bound.ensures
