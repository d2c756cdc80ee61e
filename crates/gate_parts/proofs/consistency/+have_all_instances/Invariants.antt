use Rattle.std.proofs.Common.{length}
use Rattle.gate_parts.proofs.consistency.+have_all_instances.Given as goal

abbrev pub decreases-have_all_instances : goal.decreases-have_all_instances
decreases-have_all_instances g l = length l.filters.now
