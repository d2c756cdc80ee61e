use Rattle.show_tables.specs.FrameTable.{lone_row}
use Rattle.bridge_text.proofs.Puts.{put_piece}
use Rattle.show_tables.proofs.frame_rows.put_lone_row.Goals as goal

pub returns : goal.returns
unfolding lone_row
returns g c = put_piece _ _ _ _ _ c.put_row_start.ensures c.put.ensures
