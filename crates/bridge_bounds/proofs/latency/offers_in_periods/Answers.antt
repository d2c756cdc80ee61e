use Rattle.bridge_bounds.proofs.Hopping.{offers_in_periods}
use Rattle.bridge_bounds.proofs.latency.offers_in_periods.Goals as goal

pub returns : goal.returns
returns g c = offers_in_periods
