use Rattle.bridge_semantics.proofs.Merging.{own_ports}
use Rattle.bridge_semantics.proofs.laws.own_by_stream.Goals as goal

pub returns : goal.returns
returns g c = own_ports
