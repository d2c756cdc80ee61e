use Rattle.bridge_port.proofs.Alone.{one_outcome}
use Rattle.bridge_port.proofs.law.solo_copies_follow.Goals as goal

pub returns : goal.returns
returns g c = λ r xs ys s a b. one_outcome r xs ys s a b
