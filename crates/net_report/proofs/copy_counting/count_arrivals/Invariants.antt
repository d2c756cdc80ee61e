use Rattle.std.proofs.Common.{◌≡◌, take}
use Rattle.net_report.specs.Counting.{with_arrivals}
use Rattle.net_report.proofs.copy_counting.count_arrivals.Given as goal

abbrev pub invariant-loop-root : goal.invariant-loop-root
invariant-loop-root l = l.tallies ≡ with_arrivals l.initial.tallies (take l.root-index l.roots)
