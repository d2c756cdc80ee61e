use Rattle.bridge_port.specs.GateSchedule.{One}
use Rattle.bridge_bounds.proofs.Phased.{ever_falls}
use Rattle.bridge_bounds.proofs.waits.list_waits.Goals as goal

pub first_fit_time-requires-clause-ever : goal.first_fit_time-requires-clause-ever
first_fit_time-requires-clause-ever g c = ever_falls (One c.args.list.now) c.args.class c.args.short c.args.long c.requires.lawful c.requires.lengths c.requires.ever
