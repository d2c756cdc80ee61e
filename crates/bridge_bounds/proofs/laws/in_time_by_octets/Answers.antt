use Rattle.bridge_bounds.proofs.Whole as whole
use Rattle.bridge_bounds.proofs.laws.in_time_by_octets.Goals as goal

pub returns : goal.returns
returns g c = whole.in_tight_bound
