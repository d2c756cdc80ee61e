use Rattle.std.proofs.Common.{◌≡◌, All, take}
use Rattle.net_latency.specs.StreamLatency.{IsQueue}
use Rattle.net_latency.specs.Talkers.{hop_queues}
use Rattle.net_latency.proofs.talkers.hop_queues.Given as goal

abbrev pub invariant-loop-hop : goal.invariant-loop-hop
invariant-loop-hop g l = record {
  same : l.queues.items ≡ hop_queues l.bounds (take l.hop-index l.hops);
  are_queues : All IsQueue l.queues.items;
}
