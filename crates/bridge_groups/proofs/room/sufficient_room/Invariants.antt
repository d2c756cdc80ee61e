use Rattle.std.proofs.Common.{◌<◌, ◌≤◌, ◌-◌}
use Rattle.bridge_port.specs.GateSchedule.{list_opens}
use Rattle.bridge_groups.specs.LinearCurves.{count_at, curve_at}
use Rattle.bridge_groups.specs.Rooms.{drains}
use Rattle.bridge_groups.proofs.room.sufficient_room.Given as goal

abbrev pub invariant-loop-low : goal.invariant-loop-low
invariant-loop-low g l = record {
  enough : drains (list_opens l.list l.class) l.occ l.least (curve_at l.curve) (count_at l.counts) l.high;
  order : l.low < l.high;
  within : l.high ≤ l.most;
}

abbrev pub decreases-loop-low : goal.decreases-loop-low
decreases-loop-low g l = l.high - l.low
