use Rattle.std.proofs.Common.{◌≡◌, drop}
use Rattle.net_check.specs.Telling.{has_hop}
use Rattle.net_check.proofs.warning_lines.has_hop.Given as goal

abbrev pub invariant-loop-stream : goal.invariant-loop-stream
invariant-loop-stream g l = has_hop l.streams l.bridge l.filter ≡ has_hop (drop l.stream-index l.streams) l.bridge l.filter
