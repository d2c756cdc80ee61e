use Rattle.std.proofs.Common.{length}
use Rattle.gate_parts.proofs.consistency.+have_all_priorities.Given as goal

abbrev pub decreases-have_all_priorities : goal.decreases-have_all_priorities
decreases-have_all_priorities g l = length l.gates.now
