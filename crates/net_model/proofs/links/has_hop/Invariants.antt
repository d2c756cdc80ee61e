use Rattle.std.proofs.Common.{◌≡◌, drop}
use Rattle.net_model.specs.ClosedTest as accepting
use Rattle.net_model.specs.NetworkParts.{stream_value}
use Rattle.net_model.proofs.links.has_hop.Given as goal

abbrev pub invariant-loop-hop : goal.invariant-loop-hop
invariant-loop-hop l = accepting.has_hop (stream_value (drop l.hop-index l.stream)) l.bridge l.filter ≡ accepting.has_hop (stream_value l.stream) l.bridge l.filter
