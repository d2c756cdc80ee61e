use Rattle.std.proofs.Common.{◌≡◌, drop}
use Rattle.bridge_filter.specs.Routes.{lesser_number}
use Rattle.bridge_groups.specs.GroupRows.{least_group}
use Rattle.bridge_groups.proofs.group_rows.least_group.Given as goal

abbrev pub invariant-loop-filter : goal.invariant-loop-filter
invariant-loop-filter l = lesser_number l.least (least_group l.from (drop l.filter-index l.filters)) ≡ least_group l.from l.fn.filters
