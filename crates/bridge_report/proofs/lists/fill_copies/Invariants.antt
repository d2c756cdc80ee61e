use Rattle.std.proofs.Common.{◌≡◌, ◌≤◌, ◌+◌, ◌*◌, drop, length}
use Rattle.std.specs.List.{flat_map}
use Rattle.bridge_report.proofs.lists.fill_copies.Given as goal

abbrev pub invariant-loop-left : goal.invariant-loop-left
invariant-loop-left g l = (l.left ≤ length l.copies) × (length l.block + 128 * l.left ≤ 128 * length l.copies) × (l.block ≡ flat_map g.C.ListedCopy.line (drop l.left l.copies))

abbrev pub decreases-loop-left : goal.decreases-loop-left
decreases-loop-left g l = l.left
