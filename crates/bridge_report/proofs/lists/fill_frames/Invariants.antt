use Rattle.std.proofs.Common.{◌≡◌, ◌≤◌, ◌+◌, ◌*◌, drop, length}
use Rattle.bridge_report.specs.Section.{frame_lines}
use Rattle.bridge_report.proofs.lists.fill_frames.Given as goal

abbrev pub invariant-loop-left : goal.invariant-loop-left
invariant-loop-left l = (l.left ≤ length l.verdicts) × (length l.block + 128 * l.left ≤ 128 * length l.verdicts) × (l.block ≡ frame_lines (l.number + l.left) (drop l.left l.verdicts))

abbrev pub decreases-loop-left : goal.decreases-loop-left
decreases-loop-left l = l.left
