use Rattle.bridge_groups.proofs.Chain.{in_time_at_cost}
use Rattle.bridge_groups.proofs.queue_laws.copies_leave_in_time_by_cost.Goals as goal

pub returns : goal.returns
returns g c = in_time_at_cost
