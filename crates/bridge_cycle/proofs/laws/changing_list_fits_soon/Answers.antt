use Rattle.bridge_cycle.proofs.Changes.{allowed_over}
use Rattle.bridge_cycle.proofs.laws.changing_list_fits_soon.Goals as goal

pub returns : goal.returns
returns c = allowed_over
