use Rattle.net_model.proofs.Chain.{alone_in}
use Rattle.net_model.proofs.laws.stream_alone.Goals as goal

pub returns : goal.returns
returns g c = λ n stream commands captures o net times closed run. alone_in n stream commands captures o net run times closed
