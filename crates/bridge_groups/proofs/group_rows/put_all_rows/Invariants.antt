use Rattle.std.proofs.Common.{◌-◌, ◌≤◌}
use Rattle.bridge_groups.specs.GroupRows.{AreRowsSoFar}
use Rattle.bridge_groups.proofs.group_rows.put_all_rows.Given as goal

abbrev pub invariant-groups : goal.invariant-groups
invariant-groups g l = (l.from ≤ 4294967296) × AreRowsSoFar l.accepted l.from 0 l.rows.items

abbrev pub decreases-groups : goal.decreases-groups
decreases-groups g l = 4294967296 - l.from
