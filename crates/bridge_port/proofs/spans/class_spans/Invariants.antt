use Rattle.std.proofs.Common.{◌≡◌, ◌<◌, ℕ, length}
use Rattle.bridge_port.specs.GateSchedule.{list_opens}
use Rattle.bridge_port.specs.Spans.{HasSpans, class_spans}
use Rattle.bridge_port.proofs.spans.class_spans.Given as goal

abbrev pub invariant-loop-class : goal.invariant-loop-class
invariant-loop-class g l = record {
  size : length l.each.items ≡ l.class;
  each : (c : ℕ) → c < l.class → HasSpans (list_opens l.list c) (class_spans l.each.items c);
}
