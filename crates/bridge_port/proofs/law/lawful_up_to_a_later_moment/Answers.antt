use Rattle.bridge_port.proofs.Laws.{lawful_later}
use Rattle.bridge_port.proofs.law.lawful_up_to_a_later_moment.Goals as goal

pub returns : goal.returns
returns g c = lawful_later
