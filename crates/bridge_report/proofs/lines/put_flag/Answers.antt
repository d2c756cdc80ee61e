use Rattle.std.proofs.Common.{refl}
use Rattle.bridge_report.proofs.Puts.{put_as, put_piece}
use Rattle.bridge_report.proofs.lines.put_flag.Goals as goal

pub returns : goal.returns
returns g c = put_as _ _ _ _ _ (put_piece _ _ _ _ _ _ c.put.ensures (put_piece _ _ _ _ _ _ c.put-2.ensures (put_piece _ _ _ _ _ _ c.put-3.ensures c.put-4.ensures))) (rw (c.flag_word.ensures) refl)
