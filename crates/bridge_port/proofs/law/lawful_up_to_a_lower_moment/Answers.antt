use Rattle.bridge_port.proofs.Laws.{lawful_earlier}
use Rattle.bridge_port.proofs.law.lawful_up_to_a_lower_moment.Goals as goal

pub returns : goal.returns
returns g c = lawful_earlier
