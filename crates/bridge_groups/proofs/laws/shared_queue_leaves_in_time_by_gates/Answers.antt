use Rattle.bridge_groups.proofs.GroupGates.{left_in_least_time, left_in_padded_time}
use Rattle.bridge_groups.proofs.laws.shared_queue_leaves_in_time_by_gates.Goals as goal

pub returns : goal.returns
returns g c = record {
  captured = λ p s is start es moments lists x plan good run whole order long i class started. left_in_least_time p s is plan good es moments lists run whole order long start x i class started;
  padded = λ p s is b start es moments lists x known plan good run whole order long i class started. left_in_padded_time p s is plan good es moments lists run whole order b known long start x i class started;
}
