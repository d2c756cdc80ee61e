use Rattle.bridge_semantics.proofs.Headline.{own_alone}
use Rattle.bridge_semantics.proofs.laws.own_queues_alone.Goals as goal

pub returns : goal.returns
returns g c = own_alone
