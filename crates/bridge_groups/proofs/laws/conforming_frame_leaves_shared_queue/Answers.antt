use Rattle.bridge_groups.proofs.Leaving.{leaves}
use Rattle.bridge_groups.proofs.laws.conforming_frame_leaves_shared_queue.Goals as goal

pub returns : goal.returns
returns g k = λ p group n m most burst rate q set f out a newer older c moments lists enough plan is. leaves p group plan is n m most burst rate q set f out a newer older c moments lists enough
