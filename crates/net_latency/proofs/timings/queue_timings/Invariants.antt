use Rattle.std.proofs.Common.{◌≡◌, ◌+◌, take}
use Rattle.net_latency.specs.TalkerRows.{AreTimingsOfRows}
use Rattle.net_latency.proofs.timings.queue_timings.Given as goal

abbrev pub invariant-loop-row : goal.invariant-loop-row
invariant-loop-row g l = record {
  index : l.index ≡ l.row-index + 1;
  timings : AreTimingsOfRows l.accepted l.bounds.items l.shared.items 1 (take l.row-index l.rows) l.made.items;
}
