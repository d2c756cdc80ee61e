use Rattle.bridge_bounds.proofs.Seldom.{seldom_in_time}
use Rattle.bridge_bounds.proofs.laws.seldom_in_time.Goals as goal

pub returns : goal.returns
returns g c = λ r k occ n d s x older solo order short some longest seldom started. seldom_in_time r k occ n d s x older some longest seldom solo short order started
