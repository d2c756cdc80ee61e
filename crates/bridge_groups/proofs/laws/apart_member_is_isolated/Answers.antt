use Rattle.bridge_groups.proofs.ApartMembers.{member_alone}
use Rattle.bridge_groups.proofs.laws.apart_member_is_isolated.Goals as goal

pub returns : goal.returns
returns g c = λ p group n f es lists o v plan good apart order long out found. member_alone p group n f es lists o v plan good apart order long out found
