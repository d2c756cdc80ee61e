use Rattle.bridge_groups.proofs.TalkerFrames.{few_conform}
use Rattle.bridge_groups.proofs.queue_laws.few_frames_conform.Goals as goal

pub returns : goal.returns
returns c = few_conform
