use Rattle.bridge_groups.proofs.Sharing as proof
use Rattle.bridge_groups.proofs.laws.group_leaves_in_time_by_room.Goals as goal

pub returns : goal.returns
returns g c = λ p group sharers q k sdu d s out es moments lists x plan is at reach share run whole longest i class started. proof.done_by_room p group sharers q k sdu out plan is at reach share es moments lists run whole d s x longest i class started
