use Rattle.bridge_groups.proofs.Sharing as proof
use Rattle.bridge_groups.proofs.laws.group_leaves_in_time.Goals as goal

pub returns : goal.returns
returns g c = λ p group sharers q k sdu b s out es moments lists x plan is at reach share metered run whole order within i class started. proof.done_by_meters p group sharers q k sdu out plan is at reach share metered es moments lists run whole order b s x within i class started
