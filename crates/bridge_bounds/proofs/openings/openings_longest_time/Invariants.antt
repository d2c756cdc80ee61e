use Rattle.std.proofs.Common.{◌-◌}
use Rattle.bridge_port.specs.GateSchedule.{list_opens}
use Rattle.bridge_bounds.specs.Openings.{fills_at}
use Rattle.bridge_bounds.proofs.Opened.{IsAsked}
use Rattle.bridge_bounds.proofs.openings.openings_longest_time.Given as goal

abbrev pub invariant-loop-seen : goal.invariant-loop-seen
invariant-loop-seen g l = IsAsked (fills_at l.port l.priority l.class l.gate) (list_opens l.list l.class) l.occ l.room l.seen l.span l.longest l.found

abbrev pub decreases-loop-seen : goal.decreases-loop-seen
decreases-loop-seen g l = l.span - l.seen
