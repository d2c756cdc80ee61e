use Rattle.bridge_groups.proofs.GreenFrames.{next_green}
use Rattle.bridge_groups.proofs.queue_laws.conforming_frame_is_green.Goals as goal

pub returns : goal.returns
returns c = next_green
