use Rattle.std.proofs.Common.{◌≡◌, map, take}
use Rattle.net_check.specs.Networks.{link_row_value}
use Rattle.net_check.proofs.network.network_links.Given as goal

abbrev pub invariant-loop-row : goal.invariant-loop-row
invariant-loop-row g l = l.links.items ≡ map link_row_value (take l.row-index l.rows)
