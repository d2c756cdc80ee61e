use Rattle.std.proofs.Common.{◌≡◌, ◌≤◌, ◌*◌, take}
use Rattle.std.specs.Prelude.{sum, ◌^◌}
use Rattle.bridge_report.proofs.figures.total_delay.Given as goal

abbrev pub invariant-loop-delay : goal.invariant-loop-delay
invariant-loop-delay l = record {
  counted : l.sum ≡ sum (take l.delay-index l.delays);
  low : l.sum ≤ l.delay-index * 2 ^ 64;
}
