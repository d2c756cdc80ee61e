use Rattle.std.proofs.Common.{length}
use Rattle.gate_parts.proofs.consistency.+are_all_within_limits.Given as goal

abbrev pub decreases-are_all_within_limits : goal.decreases-are_all_within_limits
decreases-are_all_within_limits l = length l.meters.now
