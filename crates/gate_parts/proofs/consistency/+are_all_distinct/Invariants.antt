use Rattle.std.proofs.Common.{length}
use Rattle.gate_parts.proofs.consistency.+are_all_distinct.Given as goal

abbrev pub decreases-are_all_distinct : goal.decreases-are_all_distinct
decreases-are_all_distinct g l = length l.list.now
