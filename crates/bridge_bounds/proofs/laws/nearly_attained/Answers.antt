use Rattle.bridge_bounds.proofs.Bursts.{worst}
use Rattle.bridge_bounds.proofs.laws.nearly_attained.Goals as goal

pub returns : goal.returns
returns g c = worst
