use Rattle.std.proofs.Common.{◌≤◌, ◌-◌}
use Rattle.bridge_cycle.specs.Cyclic.{turn_by_time}
use Rattle.bridge_bounds.specs.GateFrames.{IsShut}
use Rattle.bridge_bounds.proofs.gate_frames.is_shut.Given as goal

abbrev pub invariant-loop-seen : goal.invariant-loop-seen
invariant-loop-seen g l = record {
  begun : l.from ≤ l.seen;
  shut : IsShut (turn_by_time l.list) l.from l.seen;
}

abbrev pub decreases-loop-seen : goal.decreases-loop-seen
decreases-loop-seen g l = l.until - l.seen
