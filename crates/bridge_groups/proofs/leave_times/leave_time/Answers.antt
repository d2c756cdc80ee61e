use Rattle.std.proofs.Common.{◌-◌, arith}
use Rattle.bridge_port.specs.GateSchedule.{list_opens}
use Rattle.bridge_groups.proofs.NthFits.{nth_after}
use Rattle.bridge_groups.proofs.leave_times.leave_time.Goals as goal

pub returns-clause-after : goal.returns-clause-after
returns-clause-after g c =
    let after = nth_after (list_opens c.args.list.now c.args.class) c.args.occ (c.args.work - c.args.least) c.args.from c.in_ok-nth_fit.field-0 c.in_ok-nth_fit.ensures.fit in
    omega (arith, after)
