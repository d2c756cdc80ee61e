use Rattle.bridge_cycle.proofs.Lists.{among}
use Rattle.bridge_cycle.proofs.laws.state_is_of_an_entry.Goals as goal

pub returns : goal.returns
returns g c = among
