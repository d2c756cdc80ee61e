use Rattle.bridge_semantics.proofs.Grouped.{members_alone}
use Rattle.bridge_semantics.proofs.laws.group_is_isolated.Goals as goal

pub returns : goal.returns
returns g c = λ p group n f es lists o v plan good i out found. members_alone p group plan good n f i es lists o v out found
