use Rattle.std.proofs.Common.{ap}
use Rattle.show_tables.specs.FrameTable.{drop_row, field}
use Rattle.bridge_text.proofs.Puts.{put_as, put_piece}
use Rattle.show_tables.proofs.frame_rows.put_drop_row.Goals as goal

pub returns : goal.returns
unfolding drop_row
returns g c = put_piece _ _ _ _ _ c.put_row_start.ensures (put_piece _ _ _ _ _ (put_as _ _ _ _ c.put_field.ensures (ap field c.from.ensures)) (put_piece _ _ _ _ _ c.put.ensures
    (put_piece _ _ _ _ _ (put_as _ _ _ _ c.put-2.ensures c.refusal_word.ensures) c.put-3.ensures)))
