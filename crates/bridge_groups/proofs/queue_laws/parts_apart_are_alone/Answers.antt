use Rattle.bridge_groups.proofs.ApartParts.{part_alone}
use Rattle.bridge_groups.proofs.queue_laws.parts_apart_are_alone.Goals as goal

pub returns : goal.returns
returns g c = part_alone
