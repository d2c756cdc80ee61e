use Rattle.std.proofs.Common.{take}
use Rattle.net_latency.specs.Bounds.{AreTightened}
use Rattle.net_latency.proofs.tight.tighten_bounds.Given as goal

abbrev pub invariant-loop-bound : goal.invariant-loop-bound
invariant-loop-bound g l = AreTightened l.accepted (take l.bound-index l.bounds) l.made.items
