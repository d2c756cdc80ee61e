use Rattle.std.proofs.Common.{ap}
use Rattle.show_tables.specs.FrameTable.{field, row_start}
use Rattle.bridge_text.proofs.Puts.{put_as, put_piece}
use Rattle.show_tables.proofs.frame_rows.put_row_start.Goals as goal

pub returns : goal.returns
unfolding row_start
returns g c = put_piece _ _ _ _ _ (put_as _ _ _ _ c.put_field.ensures (ap field c.from.ensures)) (put_piece _ _ _ _ _ c.put_field-2.ensures (put_piece _ _ _ _ _ (put_as _ _ _ _ c.put_field-3.ensures (ap field c.from-2.ensures))
    (put_piece _ _ _ _ _ c.put_field-4.ensures (put_piece _ _ _ _ _ (put_as _ _ _ _ c.put.ensures c.verdict_word.ensures.word) c.put-2.ensures))))
