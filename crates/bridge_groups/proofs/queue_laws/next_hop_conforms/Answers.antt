use Rattle.bridge_groups.proofs.Hops.{next_burst}
use Rattle.bridge_groups.proofs.queue_laws.next_hop_conforms.Goals as goal

pub returns : goal.returns
returns c = next_burst
