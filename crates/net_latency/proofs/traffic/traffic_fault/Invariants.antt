use Rattle.std.proofs.Common.{◌≡◌, ◌+◌, drop}
use Rattle.net_latency.specs.TalkerRows.{first_row_fault}
use Rattle.net_latency.proofs.traffic.traffic_fault.Given as goal

abbrev pub invariant-loop-row : goal.invariant-loop-row
invariant-loop-row g l = record {
  index : l.index ≡ l.row-index + 1;
  same : first_row_fault l.plan l.index (drop l.row-index l.rows) ≡ first_row_fault l.plan 1 l.rows;
}
