use Rattle.bridge_text.proofs.Puts.{put_piece}
use Rattle.net_latency.proofs.streams.put_latency.Goals as goal

pub returns : goal.returns
returns g c = put_piece _ _ _ _ _ c.put_course.ensures (put_piece _ _ _ _ _ c.put.ensures c.put_integer.ensures)
