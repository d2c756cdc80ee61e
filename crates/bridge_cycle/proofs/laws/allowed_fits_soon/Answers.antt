use Rattle.bridge_cycle.proofs.Lists.{allowed_soon}
use Rattle.bridge_cycle.proofs.laws.allowed_fits_soon.Goals as goal

pub returns : goal.returns
returns c = allowed_soon
