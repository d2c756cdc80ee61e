use Rattle.std.proofs.Common.{◌≡◌, ◌-◌, ℕ, ◌≤◌, ◌<◌, false}
use Rattle.bridge_groups.specs.GateIntervals.{IsTurnStart, gate_opens}
use Rattle.bridge_groups.proofs.openings.next_opening.Given as goal

abbrev pub invariant-loop-seen : goal.invariant-loop-seen
invariant-loop-seen g l = record {
  after : l.from ≤ l.seen;
  starts : IsTurnStart l.list l.seen;
  shut : (t : ℕ) → l.from ≤ t → t < l.seen → gate_opens l.list t ≡ false;
}

abbrev pub decreases-loop-seen : goal.decreases-loop-seen
decreases-loop-seen g l = l.end - l.seen
