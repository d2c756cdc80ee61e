use Rattle.bridge_bounds.proofs.Queued.{in_time}
use Rattle.bridge_bounds.proofs.laws.solo_in_time.Goals as goal

pub returns : goal.returns
returns g c = λ r k occ d s x older solo order short some longest started. in_time r k occ d s x older some longest solo short order started
