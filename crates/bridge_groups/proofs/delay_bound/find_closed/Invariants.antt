use Rattle.std.proofs.Common.{◌≡◌, ℕ, true, ◌<◌, ◌≤◌, ◌-◌}
use Rattle.bridge_port.specs.GateSchedule.{list_opens}
use Rattle.bridge_groups.proofs.delay_bound.find_closed.Given as goal

abbrev pub invariant-loop-seen : goal.invariant-loop-seen
invariant-loop-seen g l = record {
  opened : (u : ℕ) → 0 ≤ u → u < l.seen → list_opens l.list l.class u ≡ true;
  near : l.seen ≤ 2_000_000_000;
}

abbrev pub decreases-loop-seen : goal.decreases-loop-seen
decreases-loop-seen g l = l.cycle - l.seen
