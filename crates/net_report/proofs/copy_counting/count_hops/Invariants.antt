use Rattle.std.proofs.Common.{List, drop, nat_eq, true}
use Rattle.net_report.specs.Counting.{AreCounted}
use Rattle.net_report.specs.declared.copy_counting.CopyCounts.{CopyCounts}
use Rattle.net_report.proofs.copy_counting.count_hops.Given as goal

abbrev pub invariant-loop-place : goal.invariant-loop-place
invariant-loop-place g l = (us : List CopyCounts) → AreCounted l.links l.hops (nat_eq l.place 0) (drop l.place l.hops) (drop l.place l.all) l.tallies us
    → AreCounted l.links l.hops true l.hops l.all l.initial.tallies us
