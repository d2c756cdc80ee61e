use Rattle.std.proofs.Common.{rules}
use Rattle.bridge_cycle.proofs.changing_list.Joined.copy.Goals as goal

pub returns : goal.returns
returns g c = search rules
