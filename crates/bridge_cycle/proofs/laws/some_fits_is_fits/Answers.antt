use Rattle.bridge_cycle.proofs.Fitting.{some_fits_is}
use Rattle.bridge_cycle.proofs.laws.some_fits_is_fits.Goals as goal

pub returns : goal.returns
returns c = some_fits_is
