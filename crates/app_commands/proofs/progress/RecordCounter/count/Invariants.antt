use Rattle.std.proofs.Common.{length}
use Rattle.app_commands.proofs.progress.RecordCounter.count.Given as goal

abbrev pub decreases-loop-left : goal.decreases-loop-left
decreases-loop-left l = length l.left
