use Rattle.std.proofs.Common.{◌-◌, ◌≤◌}
use Rattle.bridge_port.specs.GateSchedule.{list_opens}
use Rattle.bridge_bounds.specs.Bounds.{FramesEnd}
use Rattle.bridge_bounds.proofs.longest_time.frames_end.Given as goal

abbrev pub invariant-loop-done : goal.invariant-loop-done
invariant-loop-done g l = record {
  ends : FramesEnd (list_opens l.list l.class) l.occ l.done l.from l.end;
  few : l.done ≤ l.count;
}

abbrev pub decreases-loop-done : goal.decreases-loop-done
decreases-loop-done g l = l.count - l.done
