use Rattle.bridge_check.proofs.Sound.{frame_sound}
use Rattle.bridge_check.proofs.laws.reach_is_sound.Goals as goal

pub returns : goal.returns
returns g c = frame_sound
