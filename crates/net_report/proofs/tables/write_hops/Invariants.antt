use Rattle.std.proofs.Common.{map, string_bytes, take}
use Rattle.net_report.specs.Tables.{WriteHops}
use Rattle.net_report.proofs.tables.write_hops.Given as goal

abbrev pub invariant-loop-place : goal.invariant-loop-place
invariant-loop-place g l =
    WriteHops l.links l.hops l.stream (take l.place (map string_bytes l.names)) (take l.place l.hops) (take l.place l.known)
    (g.V.Write.contents l.fn.streams) (g.V.Write.contents l.streams) (g.W.Write.contents l.fn.frames) (g.W.Write.contents l.frames)
