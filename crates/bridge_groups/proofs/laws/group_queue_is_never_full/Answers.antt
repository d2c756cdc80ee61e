use Rattle.bridge_groups.proofs.Sharing as proof
use Rattle.bridge_groups.proofs.laws.group_queue_is_never_full.Goals as goal

pub returns : goal.returns
returns g c = λ p group sharers q k sdu out es moments lists x plan is at reach share metered run whole order room i class full. proof.room_by_meters p group sharers q k sdu out plan is at reach share metered es moments lists run whole order x room i class full
