use Rattle.std.proofs.Common.{◌-◌, ◌≤◌}
use Rattle.bridge_port.specs.GateSchedule.{list_opens}
use Rattle.bridge_port.specs.Spans.{AreSpans, IsOpenThroughout}
use Rattle.bridge_port.proofs.spans.open_spans.Given as goal

abbrev pub invariant-loop-seen : goal.invariant-loop-seen
invariant-loop-seen g l =
    record {
      spans : AreSpans (list_opens l.list l.class) 0 l.spans.items l.start;
      opened : IsOpenThroughout (list_opens l.list l.class) l.start l.seen;
      ordered : l.start ≤ l.seen;
    }

abbrev pub decreases-loop-seen : goal.decreases-loop-seen
decreases-loop-seen g l = l.end - l.seen
