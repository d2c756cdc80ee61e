use Rattle.std.proofs.Common.{◌≡◌, ◌&&◌, nat_eq}
use Rattle.std.specs.Prelude.{slice_index}
use Rattle.bridge_check.specs.Reach.{gives_priority, some_number_passes}
use Rattle.bridge_bounds.proofs.openings.fills_class.Given as goal

abbrev pub invariant-loop-k : goal.invariant-loop-k
invariant-loop-k g l = l.found ≡ some_number_passes l.k (λ k. gives_priority l.entry l.priority k && nat_eq (slice_index l.port.classes k) l.class)
