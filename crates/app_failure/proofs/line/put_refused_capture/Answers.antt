use Rattle.std.proofs.Common.{refl}
use Rattle.bridge_text.proofs.Puts.{put_as, put_piece}
use Rattle.app_failure.proofs.line.put_refused_capture.Goals as goal

pub returns : goal.returns
returns g c = put_as _ _ _ _ (put_piece _ _ _ _ _ c.put.ensures (put_piece _ _ _ _ _ c.put_number.ensures (put_piece _ _ _ _ _ c.put-2.ensures c.put-3.ensures)))
    (rw c.from.ensures refl)
