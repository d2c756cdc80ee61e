use Rattle.std.proofs.Common.{◌≡◌, ℕ, ◌+◌, ◌<◌, length, slice_index, take}
use Rattle.bridge_cycle.specs.Cyclic.{interval_sum}
use Rattle.bridge_cycle.proofs.cyclic_list.interval_ends.Given as goal

abbrev pub invariant-loop-entry : goal.invariant-loop-entry
invariant-loop-entry g l =
    record {
      sum : l.end ≡ interval_sum (take l.entry-index l.entries);
      as_many : length l.ends.items ≡ l.entry-index;
      sums : (k : ℕ) → k < l.entry-index → slice_index l.ends.items k ≡ interval_sum (take (k + 1) l.entries);
    }
