use Rattle.net_model.proofs.Handed.{each_handed}
use Rattle.net_model.proofs.laws.each_is_handed.Goals as goal

pub returns : goal.returns
returns g c = each_handed
