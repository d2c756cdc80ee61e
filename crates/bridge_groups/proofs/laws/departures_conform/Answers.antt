use Rattle.bridge_groups.proofs.Departures.{departures_conform}
use Rattle.bridge_groups.proofs.laws.departures_conform.Goals as goal

pub returns : goal.returns
returns g c = λ p group sharers q k sdu n m b f out es moments lists plan is at reach share metered sharer own run whole order within. departures_conform p group sharers q k sdu out plan is at reach share metered n m f sharer own es moments lists b run whole order within
