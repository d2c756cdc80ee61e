use Rattle.std.proofs.Common.{◌≡◌, take}
use Rattle.bridge_check.specs.ReachTables.{all_reaches}
use Rattle.bridge_check.proofs.reaches.all_reaches.Given as goal

abbrev pub invariant-loop-number : goal.invariant-loop-number
invariant-loop-number g l = l.reaches.items ≡ all_reaches l.plan (take l.number-index l.plan.filters)
