use Rattle.std.proofs.Common.{◌≡◌, ◌+◌, length}
use Rattle.net_report.specs.Counting.{with_verdicts}
use Rattle.net_report.proofs.copy_counting.count_verdicts.Given as goal

abbrev pub invariant-loop-first : goal.invariant-loop-first
invariant-loop-first l = record {
  counted : with_verdicts l.roots l.own l.tallies l.left ≡ with_verdicts l.roots 1 l.initial.tallies l.initial.left;
  place : l.own + length l.left ≡ length l.initial.left + 1;
}

abbrev pub decreases-loop-first : goal.decreases-loop-first
decreases-loop-first l = length l.left
