use Rattle.std.proofs.Common.{refl}
use Rattle.net_report.specs.Losing.{lost_words}
use Rattle.bridge_text.proofs.Puts.{put_as, put_piece}
use Rattle.net_report.proofs.losing.put_lost.Goals as goal

pub returns : goal.returns
unfolding lost_words
returns g c =
    put_piece _ _ _ _ _ c.put.ensures (put_piece _ _ _ _ _ c.put-2.ensures (put_piece _ _ _ _ _ c.put-3.ensures
    (put_piece _ _ _ _ _ (put_as _ _ _ _ c.put_number.ensures (rw (c.saturating_sub.ensures, c.delivered_frames-delivered.ensures) refl)) (put_piece _ _ _ _ _ c.put-4.ensures
    (put_piece _ _ _ _ _ c.put_number-2.ensures (put_piece _ _ _ _ _ c.put-5.ensures (put_piece _ _ _ _ _ c.put_loss_causes.ensures c.put-6.ensures)))))))
