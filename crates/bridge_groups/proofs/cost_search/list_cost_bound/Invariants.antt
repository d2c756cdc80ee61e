use Rattle.std.specs.Prelude.{IfSome}
use Rattle.bridge_port.specs.GateSchedule.{list_opens}
use Rattle.bridge_groups.specs.SharedQueues.{IsWindowCostBound}
use Rattle.bridge_groups.proofs.cost_search.list_cost_bound.Given as goal

abbrev pub invariant-loop-length : goal.invariant-loop-length
invariant-loop-length g l = IfSome l.least (IsWindowCostBound l.plan l.sharers l.speed (list_opens l.list l.class) l.long)
