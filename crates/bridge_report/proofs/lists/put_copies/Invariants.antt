use Rattle.std.proofs.Common.{◌≤◌, ◌-◌, length, take}
use Rattle.std.specs.List.{flat_map}
use Rattle.bridge_report.specs.Growth.{HasGrown}
use Rattle.bridge_report.proofs.lists.put_copies.Given as goal

abbrev pub invariant-loop-from : goal.invariant-loop-from
invariant-loop-from g l = (l.from ≤ length l.copies) × HasGrown g.T.ReportSink.contents l.fn.text (flat_map g.C.ListedCopy.line (take l.from l.copies)) l.text

abbrev pub decreases-loop-from : goal.decreases-loop-from
decreases-loop-from g l = length l.copies - l.from
