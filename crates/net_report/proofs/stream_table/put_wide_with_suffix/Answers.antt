use Rattle.bridge_text.proofs.Puts.{put_piece}
use Rattle.net_report.proofs.stream_table.put_wide_with_suffix.Goals as goal

pub returns : goal.returns
returns g c = put_piece _ _ _ _ _ c.put_integer.ensures c.put.ensures
