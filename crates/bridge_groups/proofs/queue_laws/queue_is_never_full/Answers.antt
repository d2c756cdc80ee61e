use Rattle.bridge_groups.proofs.Chain.{not_full}
use Rattle.bridge_groups.proofs.queue_laws.queue_is_never_full.Goals as goal

pub returns : goal.returns
returns g c = not_full
