use Rattle.std.proofs.Common.{take}
use Rattle.std.specs.Prelude.{flat_map}
use Rattle.bridge_text.specs.Growth.{HasGrown}
use Rattle.show_tables.specs.FrameTable.{filter_rows}
use Rattle.show_tables.proofs.frames.frame_table.Given as goal

abbrev pub invariant-loop-filter : goal.invariant-loop-filter
invariant-loop-filter g l = HasGrown l.initial.text (flat_map (λ f. filter_rows f.0 f.1) (take l.filter-index l.filter-items)) l.text
