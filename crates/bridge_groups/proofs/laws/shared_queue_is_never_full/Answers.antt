use Rattle.bridge_groups.proofs.SharedRuns.{not_full}
use Rattle.bridge_groups.proofs.laws.shared_queue_is_never_full.Goals as goal

pub returns : goal.returns
returns g c = λ p s room es moments lists x plan good is known enough run whole order i class full. not_full p s is plan good es moments lists run whole order room x known enough i class full
