use Rattle.std.proofs.Common.{take}
use Rattle.bridge_text.specs.Growth.{HasGrown}
use Rattle.show_tables.specs.FrameTable.{departure_rows}
use Rattle.show_tables.proofs.frame_rows.put_departure_rows.Given as goal

abbrev pub invariant-loop-departure : goal.invariant-loop-departure
invariant-loop-departure g l = HasGrown l.fn.text (departure_rows l.frame l.port (take l.departure-index l.departures)) l.text
