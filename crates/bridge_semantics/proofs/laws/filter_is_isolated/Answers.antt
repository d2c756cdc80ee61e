use Rattle.bridge_semantics.proofs.Headline.{protected_alone}
use Rattle.bridge_semantics.proofs.laws.filter_is_isolated.Goals as goal

pub returns : goal.returns
returns g c = protected_alone
