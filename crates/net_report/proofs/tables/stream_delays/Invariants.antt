use Rattle.std.proofs.Common.{take}
use Rattle.net_report.specs.Tables.{AreDelays}
use Rattle.net_report.proofs.tables.stream_delays.Given as goal

abbrev pub invariant-loop-place : goal.invariant-loop-place
invariant-loop-place g l = AreDelays l.links l.hops (take l.place l.hops) (take l.place l.known) l.delays.items
