use Rattle.std.proofs.Common.{◌≡◌, map, string_bytes, take}
use Rattle.app_networks.specs.Tables.{hop_text}
use Rattle.app_networks.proofs.tables.hop_names.Given as goal

abbrev pub invariant-loop-hop : goal.invariant-loop-hop
invariant-loop-hop l = map string_bytes l.names.items ≡ map (hop_text l.bridges) (take l.hop-index l.hops)
