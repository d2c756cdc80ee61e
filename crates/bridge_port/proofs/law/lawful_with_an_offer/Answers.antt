use Rattle.bridge_port.proofs.Laws.{lawful_offer, unstarted}
use Rattle.bridge_port.proofs.law.lawful_with_an_offer.Goals as goal

pub returns : goal.returns
returns g c = λ r h x xs at none answer lawful. lawful_offer r h x xs at (unstarted x.fate none) answer lawful
