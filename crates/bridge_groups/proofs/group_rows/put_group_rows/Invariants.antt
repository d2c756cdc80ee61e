use Rattle.std.proofs.Common.{◌≤◌}
use Rattle.bridge_groups.specs.GroupRows.{AreRowsSoFar}
use Rattle.bridge_groups.proofs.group_rows.put_group_rows.Given as goal

abbrev pub invariant-loop-place : goal.invariant-loop-place
invariant-loop-place g l = (l.place ≤ 128) × AreRowsSoFar l.accepted l.group l.place l.rows.items
