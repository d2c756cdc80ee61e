use Rattle.bridge_check.proofs.Apart.{apart}
use Rattle.bridge_check.proofs.laws.without_fault_has_own_instances.Goals as goal

pub returns : goal.returns
returns g c = apart
