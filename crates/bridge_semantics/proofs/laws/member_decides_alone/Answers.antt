use Rattle.bridge_semantics.proofs.Grouped.{own_police}
use Rattle.bridge_semantics.proofs.laws.member_decides_alone.Goals as goal

pub returns : goal.returns
returns g c = λ p group n f es lists o v plan good i out found. own_police p group plan good n f i es lists o v out found
