use Rattle.std.proofs.Common.{◌≡◌, ◌≤◌, length, take}
use Rattle.bridge_check.specs.Reach.{lets, schedule_entries}
use Rattle.bridge_check.specs.ReachTables.{test_results}
use Rattle.bridge_check.proofs.reach.given_priorities.Given as goal

abbrev pub invariant-loop-k : goal.invariant-loop-k
invariant-loop-k g l = record {
  size : length l.priorities ≡ 8;
  most : l.k ≤ 8;
  told : take l.k l.priorities ≡ test_results l.k (lets (schedule_entries l.schedule) l.priority);
}
