use Rattle.app_networks.proofs.Measured.{over_legs, over_links}
use Rattle.app_networks.proofs.laws.legs_are_links.Goals as goal

pub returns-clause-there : goal.returns-clause-there
returns-clause-there g c = over_legs

pub returns-clause-back : goal.returns-clause-back
returns-clause-back g c = over_links
