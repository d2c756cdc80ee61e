use Rattle.bridge_groups.proofs.ApartParts.{arrivals_apart}
use Rattle.bridge_groups.proofs.queue_laws.parts_arrive_apart.Goals as goal

pub returns : goal.returns
returns g c = arrivals_apart
