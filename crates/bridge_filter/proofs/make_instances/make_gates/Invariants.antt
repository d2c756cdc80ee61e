use Rattle.std.proofs.Common.{◌≡◌, ◌++◌, length}
use Rattle.std.specs.Vec.Iter.{into_iter_items, into_iter_len}
use Rattle.bridge_filter.specs.Steps.{AreMade, IsNewGate}
use Rattle.bridge_filter.proofs.make_instances.make_gates.Given as goal

-- Each taken plan has its gate, and the other plans remain.
abbrev pub invariant-loop-number : goal.invariant-loop-number
invariant-loop-number g l = record {
  whole : l.yielded ++ into_iter_items l.number-iterator ≡ l.fn.plans.items;
  left : into_iter_len l.number-iterator ≡ length (into_iter_items l.number-iterator);
  made : AreMade IsNewGate l.yielded l.made.entries;
}
