use Rattle.net_report.specs.FrameTable.{refused_line}
use Rattle.bridge_text.proofs.Puts.{put_as, put_piece}
use Rattle.net_report.proofs.frame_table.put_refused.Goals as goal

pub returns : goal.returns
unfolding refused_line
returns g c = put_piece _ _ _ _ _ c.put_line_start.ensures (put_piece _ _ _ _ _ (put_as _ _ _ _ c.put.ensures c.verdict_word.ensures.word) c.put-2.ensures)
