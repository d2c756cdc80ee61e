use Rattle.net_report.specs.FrameTable.{drop_line}
use Rattle.bridge_text.proofs.Puts.{put_as, put_piece}
use Rattle.net_report.proofs.frame_table.put_drop.Goals as goal

pub returns : goal.returns
unfolding drop_line
returns g c = put_piece _ _ _ _ _ c.put_line_start.ensures (put_piece _ _ _ _ _ (put_as _ _ _ _ c.put.ensures c.refusal_word.ensures) (put_piece _ _ _ _ _ c.put-2.ensures c.put_number_with_suffix.ensures))
