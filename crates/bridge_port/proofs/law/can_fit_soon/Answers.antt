use Rattle.bridge_port.proofs.Opening.{ever_soon}
use Rattle.bridge_port.proofs.law.can_fit_soon.Goals as goal

pub returns : goal.returns
returns c = ever_soon
