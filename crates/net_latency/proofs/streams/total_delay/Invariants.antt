use Rattle.std.proofs.Common.{◌≡◌, ◌≤◌, ◌*◌, take}
use Rattle.std.specs.Prelude.{sum_by, ◌^◌}
use Rattle.net_latency.specs.Streams.{hop_delay}
use Rattle.net_latency.proofs.streams.total_delay.Given as goal

abbrev pub invariant-loop-hop : goal.invariant-loop-hop
invariant-loop-hop l = record {
  counted : l.sum ≡ sum_by (hop_delay l.links l.hops) (take l.hop-index l.later);
  low : l.sum ≤ l.hop-index * 2 ^ 64;
}
