use Rattle.std.proofs.Common.{◌-◌, ◌<◌, ◌≤◌, length}
use Rattle.bridge_port.specs.Spans.{span_end}
use Rattle.bridge_port.proofs.spans.walk_spans.Given as goal

abbrev pub invariant-loop-place : goal.invariant-loop-place
invariant-loop-place l =
    record {
      within : l.place ≤ length l.spans;
      behind : 0 < l.place → span_end l.spans (l.place - 1) ≤ l.t;
    }

abbrev pub decreases-loop-place : goal.decreases-loop-place
decreases-loop-place l = length l.spans - l.place
