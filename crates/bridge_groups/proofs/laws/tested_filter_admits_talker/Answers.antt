use Rattle.bridge_groups.proofs.Admitting.{admits}
use Rattle.bridge_groups.proofs.laws.tested_filter_admits_talker.Goals as goal

pub returns : goal.returns
returns g c = λ p f most burst rate plan h. admits p f most burst rate plan h
