use Rattle.bridge_semantics.proofs.Grouped.{two_runs}
use Rattle.bridge_semantics.proofs.laws.outsiders_change_nothing.Goals as goal

pub returns : goal.returns
returns g c = λ p group n f es others lists more o q u v plan good i same a b found there. two_runs p group plan good n f i es others lists more o q u v same a b found there
