use Rattle.std.proofs.Common.{◌≡◌}
use Rattle.bridge_filter.specs.Plans.{KeepsNumbers}
use Rattle.test_memory.proofs.police.verdicts.Given as goal

abbrev pub invariant-loop-t : goal.invariant-loop-t
invariant-loop-t g l = record {
  filters : l.police.filters ≡ l.initial.police.filters;
  gates : KeepsNumbers l.initial.police.gates l.police.gates;
  meters : KeepsNumbers l.initial.police.meters l.police.meters;
}
