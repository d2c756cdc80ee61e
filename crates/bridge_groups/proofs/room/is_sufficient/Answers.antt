use Rattle.std.proofs.Common.{◌+◌, ◌*◌, arith}
use Rattle.std.proofs.lemmas.Bool.{ltb-true}
use Rattle.bridge_port.specs.GateSchedule.{list_opens}
use Rattle.bridge_groups.specs.LinearCurves.{count_at, curve_at}
use Rattle.bridge_groups.proofs.Rooms.{drains_always, drains_by, none_of}
use Rattle.bridge_groups.proofs.room.is_sufficient.Goals as goal

pub returns-in_default-per_cycle : goal.returns-in_default-per_cycle
returns-in_default-per_cycle g c h =
    let less = ltb-true c.at-upto.result ((c.args.room + 1) * c.args.least + c.in-Some.span) h in
    let at = c.at-upto.ensures in
    drains_always (list_opens c.args.list.now c.args.class) c.args.occ c.args.least c.args.curve.now (count_at c.args.counts.now) c.args.room c.in-Some.span c.requires.curve (λ u. c.requires.open u (none_of c.args.per_cycle c.in_default-per_cycle.not-Some)) c.in-Some.ensures.shorter (omega (arith, less, at))

pub returns-in-Some-all_spans_bound : goal.returns-in-Some-all_spans_bound
returns-in-Some-all_spans_bound g c h =
    let less = ltb-true c.in-Some-all_spans_bound.bound ((c.args.room + 1) * c.args.least) h in
    drains_by (list_opens c.args.list.now c.args.class) c.args.occ c.args.least (curve_at c.args.curve.now) (count_at c.args.counts.now) c.args.room c.in-Some.span c.in-Some-all_spans_bound.bound c.in-Some.ensures.shorter less c.in-Some-all_spans_bound.ensures
