use Rattle.std.proofs.Common.{◌≡◌, drop}
use Rattle.net_file.specs.Names as spec
use Rattle.net_file.proofs.names.bridge_index.Given as goal

abbrev pub invariant-bridges : goal.invariant-bridges
invariant-bridges g l = spec.bridge_index_from_start l.i (drop l.i l.bridges) l.name ≡ spec.bridge_index l.bridges l.name
