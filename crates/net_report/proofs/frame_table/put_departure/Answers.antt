use Rattle.std.specs.Prelude.{codes}
use Rattle.net_report.specs.FrameTable.{departure_line}
use Rattle.bridge_text.proofs.Puts.{put_as, put_count, put_piece}
use Rattle.net_report.proofs.frame_table.put_departure.Goals as goal

pub returns : goal.returns
unfolding departure_line
returns g c =
    let e = codes "," in
    put_piece _ _ _ _ _ c.put_line_start.ensures (put_piece _ _ _ _ _ (put_as _ _ _ _ c.put.ensures c.departure_word.ensures) (put_piece _ _ _ _ _ c.put-2.ensures
    (put_count _ _ _ _ e _ c.put_number_with_suffix.ensures (put_count _ _ _ _ e _ c.put_number_with_suffix-2.ensures (put_count _ _ _ _ e _ c.put_number_with_suffix-3.ensures c.put_delay.ensures)))))
