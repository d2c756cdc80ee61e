use Rattle.std.proofs.Common.{◌≡◌, drop}
use Rattle.bridge_filter.specs.Routes.{lesser_number}
use Rattle.bridge_check.specs.ReachTables.{least_outsider}
use Rattle.bridge_check.proofs.reaches.least_outsider.Given as goal

abbrev pub invariant-loop-other : goal.invariant-loop-other
invariant-loop-other l = lesser_number l.least (least_outsider (drop l.other-index l.reaches) l.group l.number l.port l.classes l.class) ≡ least_outsider l.reaches l.group l.number l.port l.classes l.class
