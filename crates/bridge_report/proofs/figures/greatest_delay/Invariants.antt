use Rattle.std.proofs.Common.{◌≡◌, take}
use Rattle.bridge_report.specs.Figures.{greatest_of}
use Rattle.bridge_report.proofs.figures.greatest_delay.Given as goal

abbrev pub invariant-loop-delay : goal.invariant-loop-delay
invariant-loop-delay l = l.greatest ≡ greatest_of (take l.delay-index l.delays)
