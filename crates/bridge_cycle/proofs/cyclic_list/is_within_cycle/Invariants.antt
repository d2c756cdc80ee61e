use Rattle.std.proofs.Common.{drop, ◌≡◌, ◌+◌}
use Rattle.bridge_cycle.specs.Cyclic as cyclic
use Rattle.bridge_cycle.proofs.cyclic_list.is_within_cycle.Given as goal

abbrev pub invariant-loop-entry : goal.invariant-loop-entry
invariant-loop-entry g l = l.cycle + cyclic.interval_sum (drop l.entry-index l.entries) ≡ l.left + cyclic.interval_sum l.entries
