use Rattle.std.proofs.Common.{◌<◌, ◌≤◌, ◌-◌}
use Rattle.bridge_groups.specs.LinearCurves.{count_at}
use Rattle.bridge_groups.proofs.count_curves.first_frames_time.Given as goal

abbrev pub invariant-loop-low : goal.invariant-loop-low
invariant-loop-low l = record {
  before : count_at l.counts l.low < l.frames;
  order : l.low < l.high;
  within : l.high ≤ 2_199_023_255_552;
}

abbrev pub decreases-loop-low : goal.decreases-loop-low
decreases-loop-low l = l.high - l.low
