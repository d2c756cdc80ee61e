use Rattle.std.proofs.Common.{take}
use Rattle.bridge_text.specs.Growth.{HasGrown}
use Rattle.show_tables.specs.FrameTable.{drop_rows}
use Rattle.show_tables.proofs.frame_rows.put_drop_rows.Given as goal

abbrev pub invariant-loop-dropped : goal.invariant-loop-dropped
invariant-loop-dropped g l = HasGrown l.fn.text (drop_rows l.frame l.port (take l.dropped-index l.drops)) l.text
