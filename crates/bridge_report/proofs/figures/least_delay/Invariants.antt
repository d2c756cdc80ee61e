use Rattle.std.proofs.Common.{◌≡◌, take}
use Rattle.bridge_report.specs.Figures.{least_of}
use Rattle.bridge_report.proofs.figures.least_delay.Given as goal

abbrev pub invariant-loop-delay : goal.invariant-loop-delay
invariant-loop-delay l = l.least ≡ least_of (take l.delay-index l.delays)
