use Rattle.std.proofs.Common.{take}
use Rattle.bridge_text.specs.Growth.{HasGrown}
use Rattle.net_report.specs.FrameTable.{drop_lines}
use Rattle.net_report.proofs.frame_table.put_drops.Given as goal

abbrev pub invariant-loop-dropped : goal.invariant-loop-dropped
invariant-loop-dropped g l = HasGrown l.fn.text (drop_lines l.stream l.hop l.roots l.origins (take l.dropped-index l.drops)) l.text
