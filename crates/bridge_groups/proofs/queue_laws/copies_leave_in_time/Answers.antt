use Rattle.bridge_groups.proofs.Chain.{in_time}
use Rattle.bridge_groups.proofs.queue_laws.copies_leave_in_time.Goals as goal

pub returns : goal.returns
returns g c = in_time
