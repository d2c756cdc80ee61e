use Rattle.bridge_bounds.proofs.Queued.{each_from_openings}
use Rattle.bridge_bounds.proofs.laws.solo_from_openings.Goals as goal

pub returns : goal.returns
returns g c = λ r lets k occ d s h x xs solo order short some offered longest member started. each_from_openings r lets k occ d s h x xs some longest offered solo short order member started
