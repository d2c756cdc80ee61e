use Rattle.std.proofs.Common.{◌≡◌, drop}
use Rattle.net_file.specs.Rules.{has_bridge}
use Rattle.net_file.proofs.bridge_row.has_bridge.Given as goal

abbrev pub invariant-loop-bridge : goal.invariant-loop-bridge
invariant-loop-bridge g l = has_bridge (drop l.bridge-index l.bridges) l.name ≡ has_bridge l.bridges l.name
