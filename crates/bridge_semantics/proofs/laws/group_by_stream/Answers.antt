use Rattle.bridge_semantics.proofs.Merging.{group_ports}
use Rattle.bridge_semantics.proofs.laws.group_by_stream.Goals as goal

pub returns : goal.returns
returns g c = group_ports
