use Rattle.std.proofs.Common.{take}
use Rattle.bridge_text.specs.Growth.{HasGrown}
use Rattle.net_report.specs.FrameTable.{departure_lines}
use Rattle.net_report.proofs.frame_table.put_departures.Given as goal

abbrev pub invariant-loop-departure : goal.invariant-loop-departure
invariant-loop-departure g l = HasGrown l.fn.text (departure_lines l.stream l.hop l.roots l.origins l.ways (take l.departure-index l.departures)) l.text
