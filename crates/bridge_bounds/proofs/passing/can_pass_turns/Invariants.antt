use Rattle.std.proofs.Common.{◌≤◌, ◌+◌, ◌-◌}
use Rattle.bridge_cycle.specs.Cyclic.{turn_by_time}
use Rattle.bridge_bounds.proofs.Shifted.{AreLetBelow}
use Rattle.bridge_bounds.proofs.passing.can_pass_turns.Given as goal

abbrev pub invariant-loop-seen : goal.invariant-loop-seen
invariant-loop-seen g l = record {
  begun : l.from ≤ l.seen;
  let_below : AreLetBelow (turn_by_time l.list) l.from l.to l.seen l.sdu;
}

abbrev pub decreases-loop-seen : goal.decreases-loop-seen
decreases-loop-seen g l = l.end + 1 - l.seen
