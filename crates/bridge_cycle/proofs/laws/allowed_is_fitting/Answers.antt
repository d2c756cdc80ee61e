use Rattle.bridge_cycle.proofs.Lists.{allows_is}
use Rattle.bridge_cycle.proofs.laws.allowed_is_fitting.Goals as goal

pub returns : goal.returns
returns c = allows_is
