use Rattle.std.proofs.Common.{◌≡◌, drop, map}
use Rattle.net_model.specs.Networks.{sender}
use Rattle.net_model.specs.NetworkParts.{link_value}
use Rattle.net_latency.proofs.next_hop.far_end.Given as goal

abbrev pub invariant-loop-link : goal.invariant-loop-link
invariant-loop-link l = sender (map link_value (drop l.link-index l.links)) l.bridge l.port ≡ sender (map link_value l.links) l.bridge l.port
