use Rattle.std.proofs.Common.{ap}
use Rattle.show_tables.specs.FrameTable.{field, departure_row}
use Rattle.bridge_text.proofs.Puts.{put_as, put_piece}
use Rattle.show_tables.proofs.frame_rows.put_departure_row.Goals as goal

pub returns : goal.returns
unfolding departure_row
returns g c = put_piece _ _ _ _ _ c.put_row_start.ensures (put_piece _ _ _ _ _ (put_as _ _ _ _ c.put_field.ensures (ap field c.from.ensures)) (put_piece _ _ _ _ _ c.put_field-2.ensures (put_piece _ _ _ _ _ c.put_field-3.ensures
    (put_piece _ _ _ _ _ (put_as _ _ _ _ c.put_field-4.ensures (ap field c.saturating_sub.ensures)) c.put.ensures))))
