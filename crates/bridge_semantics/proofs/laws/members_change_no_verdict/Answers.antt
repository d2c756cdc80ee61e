use Rattle.bridge_semantics.proofs.Grouped.{police_alone}
use Rattle.bridge_semantics.proofs.laws.members_change_no_verdict.Goals as goal

pub returns : goal.returns
returns g c = λ p group n f es others lists more o q u v plan good i same a b found there. police_alone p group plan good n f i es others lists more o q u v same a b found there
