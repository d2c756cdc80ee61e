use Rattle.std.proofs.Common.{◌+◌, ◌-◌, ◌≡◌, ◌*◌, ◌%◌, ◌<◌, ◌≤◌, ℕ}
use Rattle.bridge_bounds.proofs.common_cycle.least_cycles.Given as goal

abbrev pub invariant-loop-cycles : goal.invariant-loop-cycles
invariant-loop-cycles l = record {
  some : 1 ≤ l.cycles;
  within : l.cycles ≤ l.most + 1;
  none : (i : ℕ) → 1 ≤ i → i < l.cycles → ¬ (i * l.cycle % l.other ≡ 0);
}

abbrev pub decreases-loop-cycles : goal.decreases-loop-cycles
decreases-loop-cycles l = l.most + 1 - l.cycles
