use Rattle.bridge_port.proofs.Starts.{lawful_start}
use Rattle.bridge_port.proofs.law.lawful_with_a_start.Goals as goal

pub returns : goal.returns
returns g c = lawful_start
