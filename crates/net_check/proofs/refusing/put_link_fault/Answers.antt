use Rattle.bridge_text.proofs.Puts.{put_piece}
use Rattle.net_check.proofs.refusing.put_link_fault.Goals as goal

pub returns : goal.returns
returns g c = put_piece _ _ _ _ _ c.put.ensures (put_piece _ _ _ _ _ c.put-2.ensures (put_piece _ _ _ _ _ c.put-3.ensures c.put_number.ensures))
