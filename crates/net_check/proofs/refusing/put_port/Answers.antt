use Rattle.std.proofs.Common.{refl}
use Rattle.bridge_text.proofs.Puts.{put_as, put_piece}
use Rattle.net_check.proofs.refusing.put_port.Goals as goal

pub returns : goal.returns
returns g c = put_as _ _ _ _ (put_piece _ _ _ _ _ c.put.ensures (put_piece _ _ _ _ _ c.put-2.ensures c.put_number.ensures)) (rw (c.bridge_name.ensures, c.from.ensures) refl)
