use Rattle.bridge_check.proofs.Isolated.{isolated}
use Rattle.bridge_check.proofs.laws.without_fault_is_isolated.Goals as goal

pub returns : goal.returns
returns g c = isolated
