use Rattle.std.proofs.Common.{◌≡◌, drop}
use Rattle.net_model.specs.NetworkParts.{peer_port}
use Rattle.net_model.proofs.links.peer_port.Given as goal

abbrev pub invariant-loop-link : goal.invariant-loop-link
invariant-loop-link l = peer_port (drop l.link-index l.links) l.bridge l.port ≡ peer_port l.links l.bridge l.port
