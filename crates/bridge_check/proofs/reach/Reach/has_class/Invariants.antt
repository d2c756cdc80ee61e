use Rattle.std.proofs.Common.{◌≡◌, ◌≤◌, ◌&&◌, false, nat_eq, slice_index_or}
use Rattle.std.specs.Prelude.{slice_index}
use Rattle.bridge_check.specs.Reach.{some_number_passes}
use Rattle.bridge_check.proofs.reach.Reach.has_class.Given as goal

abbrev pub invariant-loop-k : goal.invariant-loop-k
invariant-loop-k l = (l.k ≤ 8) × (l.found ≡ some_number_passes l.k (λ k. slice_index_or l.self.priorities k false && nat_eq (slice_index l.classes k) l.class))
