use Rattle.std.proofs.Common.{take}
use Rattle.net_model.specs.ForwardingLoops.{AreGroupLoops}
use Rattle.net_model.proofs.forwarding_loop.group_loops.Given as goal

abbrev pub invariant-loop-group : goal.invariant-loop-group
invariant-loop-group g l = AreGroupLoops l.plans l.links (take l.group-index l.groups) l.rows.items
