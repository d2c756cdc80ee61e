use Rattle.std.proofs.Common.{◌≡◌, ◌≤◌, length}
use Rattle.net_model.specs.NetworkParts.{sender_value}
use Rattle.net_report.specs.SourceFrames.{IsTracedByFrame, IsRestEnough}
use Rattle.net_report.proofs.sources.trace_from_sender.Given as goal

abbrev pub invariant-loop-place : goal.invariant-loop-place
invariant-loop-place g l = record {
  many : length l.made.items ≡ l.place;
  came : l.place ≤ length l.origins;
  serve : IsRestEnough (sender_value l.sender) l.sent l.left l.since;
  each : IsTracedByFrame (sender_value l.sender) l.sent l.sent_roots l.port l.origins l.roots l.made.items;
}
