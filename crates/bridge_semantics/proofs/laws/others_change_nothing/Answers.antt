use Rattle.bridge_semantics.proofs.Headline.{two_runs}
use Rattle.bridge_semantics.proofs.laws.others_change_nothing.Goals as goal

pub returns : goal.returns
returns g c = two_runs
