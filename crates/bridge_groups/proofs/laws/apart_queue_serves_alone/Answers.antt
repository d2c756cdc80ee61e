use Rattle.bridge_groups.proofs.ApartMembers.{part_solo}
use Rattle.bridge_groups.proofs.laws.apart_queue_serves_alone.Goals as goal

pub returns : goal.returns
returns g c = λ p s is n es moments lists plan good apart run whole order long. part_solo p s.group plan good es moments lists run whole order long s is apart n
