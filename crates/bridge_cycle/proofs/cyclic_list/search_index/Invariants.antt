use Rattle.std.proofs.Common.{◌-◌, ◌+◌, ◌<◌, ◌≤◌, length, slice_index}
use Rattle.bridge_cycle.proofs.cyclic_list.search_index.Given as goal

abbrev pub invariant-loop-low : goal.invariant-loop-low
invariant-loop-low l =
    record {
      ordered : l.low ≤ l.high;
      within : l.high < length l.ends;
      begun : 0 < l.low → slice_index l.ends (l.low - 1) ≤ l.phase;
      goes_on : l.high + 1 < length l.ends → l.phase < slice_index l.ends l.high;
    }

abbrev pub decreases-loop-low : goal.decreases-loop-low
decreases-loop-low l = l.high - l.low
