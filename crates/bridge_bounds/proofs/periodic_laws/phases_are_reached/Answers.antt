use Rattle.bridge_bounds.proofs.Kept as kept
use Rattle.bridge_bounds.proofs.periodic_laws.phases_are_reached.Goals as goal

pub returns : goal.returns
returns g c = kept.done_alone
