use Rattle.std.proofs.Common.{◌≡◌, ◌≤◌, ◌+◌, drop}
use Rattle.bridge_groups.specs.LinearCurves.{count_at}
use Rattle.bridge_groups.proofs.count_curves.has_frames.Given as goal

abbrev pub invariant-loop-count : goal.invariant-loop-count
invariant-loop-count l = record {
  left : l.left + count_at l.counts l.w ≡ l.frames + count_at (drop l.count-index l.counts) l.w;
  few : l.left ≤ l.frames;
}
