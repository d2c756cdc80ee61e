use Rattle.bridge_semantics.proofs.Grouped.{apart}
use Rattle.bridge_groups.proofs.Passing.{all_pass}
use Rattle.bridge_groups.proofs.laws.conforming_frames_pass.Goals as goal

pub returns : goal.returns
returns g c = λ p group n m most burst rate f es plan is member lets. all_pass p n m most burst rate f (apart p group plan is n f member) lets es
