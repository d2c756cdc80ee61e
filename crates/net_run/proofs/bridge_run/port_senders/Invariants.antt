use Rattle.std.proofs.Common.{◌≡◌, map, take}
use Rattle.net_model.specs.Networks.{sender}
use Rattle.net_model.specs.NetworkParts.{link_value}
use Rattle.net_run.specs.BridgeRuns.{sender_values}
use Rattle.net_run.proofs.bridge_run.port_senders.Given as goal

abbrev pub invariant-loop-port : goal.invariant-loop-port
invariant-loop-port g l = sender_values l.senders.items ≡ map (sender (map link_value l.links) l.bridge) (take l.port-index l.ports)
