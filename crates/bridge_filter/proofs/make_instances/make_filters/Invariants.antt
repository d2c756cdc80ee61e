use Rattle.std.proofs.Common.{◌≡◌, take}
use Rattle.bridge_filter.specs.Steps.{new_filters}
use Rattle.bridge_filter.proofs.make_instances.make_filters.Given as goal

abbrev pub invariant-loop-number : goal.invariant-loop-number
invariant-loop-number g l = l.made.entries ≡ new_filters (take l.number-index l.plans)
