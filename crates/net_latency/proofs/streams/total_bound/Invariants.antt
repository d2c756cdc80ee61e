use Rattle.std.proofs.Common.{◌≡◌, ◌≤◌, ◌*◌, take}
use Rattle.std.specs.Prelude.{sum_by, ◌^◌}
use Rattle.net_latency.specs.Streams.{hop_bound}
use Rattle.net_latency.proofs.streams.total_bound.Given as goal

abbrev pub invariant-loop-hop : goal.invariant-loop-hop
invariant-loop-hop g l = record {
  counted : l.sum ≡ sum_by (hop_bound l.bounds) (take l.hop-index l.hops);
  low : l.sum ≤ l.hop-index * 2 ^ 64;
}
