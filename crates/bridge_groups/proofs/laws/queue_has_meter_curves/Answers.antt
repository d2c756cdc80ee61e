use Rattle.bridge_groups.proofs.Sharing as proof
use Rattle.bridge_groups.proofs.laws.queue_has_meter_curves.Goals as goal

pub returns : goal.returns
returns g c = λ p group sharers q k sdu out es moments lists plan is at reach share metered run whole order. (proof.meters_keep p group sharers q k sdu out plan is at reach share metered es moments lists run whole order, proof.meters_count p group sharers q k sdu out plan is at reach share metered es moments lists run whole order)
