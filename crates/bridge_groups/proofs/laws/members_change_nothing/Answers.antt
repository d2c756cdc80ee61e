use Rattle.bridge_groups.proofs.ApartMembers.{members_change_nothing}
use Rattle.bridge_groups.proofs.laws.members_change_nothing.Goals as goal

pub returns : goal.returns
returns g c = λ p group n f es others lists more o q u v plan good apart same order other_order long other_long a b found there. members_change_nothing p group n f es others lists more o q u v plan good apart same order other_order long other_long a b found there
