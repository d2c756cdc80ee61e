use Rattle.bridge_groups.proofs.Delivered.{delivered}
use Rattle.bridge_groups.proofs.laws.conforming_frame_is_delivered.Goals as goal

pub returns : goal.returns
returns g k = λ p group n m most burst rate q set sdu b f sharers out a newer older c moments lists plan is. delivered p group plan is n m most burst rate q set sdu b f sharers out a newer older c moments lists
