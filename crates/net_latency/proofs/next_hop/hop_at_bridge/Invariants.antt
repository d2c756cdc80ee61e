use Rattle.std.proofs.Common.{◌≡◌, drop}
use Rattle.net_latency.specs.NextHop.{hop_at_bridge}
use Rattle.net_latency.proofs.next_hop.hop_at_bridge.Given as goal

abbrev pub invariant-loop-hop : goal.invariant-loop-hop
invariant-loop-hop l = hop_at_bridge (drop l.hop-index l.hops) l.bridge ≡ hop_at_bridge l.hops l.bridge
