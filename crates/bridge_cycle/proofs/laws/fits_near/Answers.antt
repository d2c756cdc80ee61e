use Rattle.bridge_cycle.proofs.Repeats.{fits_near}
use Rattle.bridge_cycle.proofs.laws.fits_near.Goals as goal

pub returns : goal.returns
returns c = fits_near
