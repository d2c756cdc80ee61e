use Rattle.std.proofs.Common.{◌≤◌, ◌-◌, length, take}
use Rattle.bridge_report.specs.Growth.{HasGrown}
use Rattle.bridge_report.specs.Section.{frame_lines}
use Rattle.bridge_report.proofs.lists.put_frames.Given as goal

abbrev pub invariant-loop-from : goal.invariant-loop-from
invariant-loop-from g l = (l.from ≤ length l.verdicts) × HasGrown g.T.ReportSink.contents l.fn.text (frame_lines 1 (take l.from l.verdicts)) l.text

abbrev pub decreases-loop-from : goal.decreases-loop-from
decreases-loop-from g l = length l.verdicts - l.from
