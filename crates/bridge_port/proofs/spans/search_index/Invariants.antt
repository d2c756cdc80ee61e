use Rattle.std.proofs.Common.{◌-◌, ◌<◌, ◌≤◌, length}
use Rattle.bridge_port.specs.Spans.{span_end}
use Rattle.bridge_port.proofs.spans.search_index.Given as goal

abbrev pub invariant-loop-low : goal.invariant-loop-low
invariant-loop-low l =
    record {
      ordered : l.low ≤ l.high;
      within : l.high ≤ length l.spans;
      behind : 0 < l.low → span_end l.spans (l.low - 1) ≤ l.t;
    }

abbrev pub decreases-loop-low : goal.decreases-loop-low
decreases-loop-low l = l.high - l.low
