use Rattle.std.proofs.Common.{◌≡◌, ◌≤◌, ◌+◌, drop}
use Rattle.bridge_cycle.specs.Cyclic.{interval_sum}
use Rattle.bridge_check.specs.Windows.{shared_phase}
use Rattle.bridge_check.proofs.windows.shared_phase.Given as goal

abbrev pub invariant-loop-entry : goal.invariant-loop-entry
invariant-loop-entry g l = (l.start + interval_sum (drop l.entry-index l.list.entries) ≤ 1000000000) × (shared_phase (drop l.entry-index l.list.entries) l.start l.class ≡ shared_phase l.list.entries 0 l.class)
