use Rattle.bridge_groups.proofs.SharedRuns.{in_time}
use Rattle.bridge_groups.proofs.laws.shared_queue_leaves_in_time.Goals as goal

pub returns : goal.returns
returns g c = λ p s is start es moments lists x plan good run whole order i class started. in_time p s is plan good es moments lists run whole order start x i class started
