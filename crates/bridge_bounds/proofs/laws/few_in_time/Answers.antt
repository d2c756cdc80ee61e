use Rattle.bridge_bounds.proofs.Whole as whole
use Rattle.bridge_bounds.proofs.laws.few_in_time.Goals as goal

pub returns : goal.returns
returns g c = whole.few_in_time
