use Rattle.std.proofs.Common.{◌≡◌, take}
use Rattle.bridge_groups.specs.Sharers as spec
use Rattle.bridge_groups.proofs.sharers.plan_reaches.Given as goal

abbrev pub invariant-loop-filter : goal.invariant-loop-filter
invariant-loop-filter g l = l.reaches.items ≡ spec.plan_reaches l.plan (take l.filter-index l.plan.filters)
