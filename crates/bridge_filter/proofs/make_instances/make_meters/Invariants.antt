use Rattle.std.proofs.Common.{take}
use Rattle.bridge_filter.specs.Steps.{AreMade, IsNewMeter}
use Rattle.bridge_filter.proofs.make_instances.make_meters.Given as goal

abbrev pub invariant-loop-number : goal.invariant-loop-number
invariant-loop-number g l = AreMade IsNewMeter (take l.number-index l.plans) l.made.entries
