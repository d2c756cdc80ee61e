use Rattle.std.proofs.Common.{◌≡◌, length}
use Rattle.net_report.specs.SourceFrames.{due_departures}
use Rattle.net_report.proofs.sources.due_departures.Given as goal

abbrev pub invariant-loop-first : goal.invariant-loop-first
invariant-loop-first l = due_departures l.port l.delay l.at l.left ≡ due_departures l.port l.delay l.at l.initial.left

abbrev pub decreases-loop-first : goal.decreases-loop-first
decreases-loop-first l = length l.left
