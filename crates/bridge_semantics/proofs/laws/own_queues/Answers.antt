use Rattle.bridge_semantics.proofs.Facts.{own_queues}
use Rattle.bridge_semantics.proofs.laws.own_queues.Goals as goal

pub returns : goal.returns
returns g c = own_queues
