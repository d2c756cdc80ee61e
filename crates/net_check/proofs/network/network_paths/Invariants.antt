use Rattle.std.proofs.Common.{◌≡◌, map, string_bytes, take}
use Rattle.net_check.specs.Networks.{paths_of}
use Rattle.net_check.proofs.network.network_paths.Given as goal

abbrev pub invariant-loop-bridge : goal.invariant-loop-bridge
invariant-loop-bridge l = map string_bytes l.paths.items ≡ paths_of l.path (take l.bridge-index l.bridges)
