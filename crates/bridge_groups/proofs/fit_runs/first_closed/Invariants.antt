use Rattle.std.proofs.Common.{◌≡◌, ℕ, true, false, ◌<◌, ◌≤◌, ◌+◌, ◌-◌, Some}
use Rattle.bridge_cycle.specs.Cyclic.{turn_by_time}
use Rattle.bridge_cycle.specs.declared.cyclic_list.TheConstants.{LONGEST_CYCLE}
use Rattle.bridge_port.specs.GateSchedule.{list_opens}
use Rattle.bridge_groups.proofs.fit_runs.first_closed.Given as goal

abbrev pub invariant-loop-seen : goal.invariant-loop-seen
invariant-loop-seen g l = record {
  after : l.from ≤ l.seen;
  here : turn_by_time l.list l.seen ≡ Some l.turn;
  opened : (u : ℕ) → l.from ≤ u → u < l.seen → list_opens l.list l.class u ≡ true;
  closes : (u : ℕ) × (l.seen ≤ u) × (u ≤ l.from + LONGEST_CYCLE) × (list_opens l.list l.class u ≡ false);
}

abbrev pub decreases-loop-seen : goal.decreases-loop-seen
decreases-loop-seen g l = (l.from + LONGEST_CYCLE + 1) - l.seen
