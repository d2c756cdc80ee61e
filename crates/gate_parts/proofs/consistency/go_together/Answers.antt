use Rattle.std.proofs.Common.{refl}
use Rattle.gate_parts.proofs.consistency.go_together.Goals as goal

pub returns : goal.returns
returns g c = rw (c.are_all_distinct.ensures, c.are_all_distinct-2.ensures, c.are_all_distinct-3.ensures, c.have_all_instances.ensures, c.have_all_priorities.ensures, c.are_all_within_limits.ensures) refl
