use Rattle.bridge_cycle.proofs.Lists.{list_repeats}
use Rattle.bridge_cycle.proofs.laws.list_repeats.Goals as goal

pub returns : goal.returns
returns c = list_repeats
