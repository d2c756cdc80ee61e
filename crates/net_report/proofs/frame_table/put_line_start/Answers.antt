use Rattle.net_report.specs.FrameTable.{line_start}
use Rattle.bridge_text.proofs.Puts.{put_piece}
use Rattle.net_report.proofs.frame_table.put_line_start.Goals as goal

pub returns : goal.returns
unfolding line_start
returns g c = put_piece _ _ _ _ _ c.put.ensures (put_piece _ _ _ _ _ c.put-2.ensures (put_piece _ _ _ _ _ c.put-3.ensures (put_piece _ _ _ _ _ c.put-4.ensures (put_piece _ _ _ _ _ c.put_source_frame.ensures c.put_number_with_suffix.ensures))))
