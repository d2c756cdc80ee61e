use Rattle.std.proofs.Common.{◌≡◌, take}
use Rattle.net_report.specs.Counting.{with_drops}
use Rattle.net_report.proofs.copy_counting.count_drops.Given as goal

abbrev pub invariant-loop-dropped : goal.invariant-loop-dropped
invariant-loop-dropped l = l.tallies ≡ with_drops l.roots l.initial.tallies (take l.dropped-index l.drops)
