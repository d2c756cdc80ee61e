use Rattle.bridge_check.proofs.Sound.{filtered}
use Rattle.bridge_check.proofs.laws.every_frame_has_a_filter.Goals as goal

pub returns : goal.returns
returns g c = filtered
