use Rattle.std.proofs.Common.{◌≤◌}
use Rattle.bridge_groups.proofs.opening_bound.gate_delay_bound.Given as goal

abbrev pub invariant-loop-search : goal.invariant-loop-search
invariant-loop-search g l = record {
  few : l.carry ≤ 100_000_000_000_000_000;
}
