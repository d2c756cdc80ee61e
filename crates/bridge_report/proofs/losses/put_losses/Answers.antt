use Rattle.bridge_report.specs.Losses.{loss_words}
use Rattle.bridge_text.proofs.Puts.{put_piece}
use Rattle.bridge_report.proofs.losses.put_losses.Goals as goal

pub returns : goal.returns
unfolding loss_words
returns g c =
    put_piece _ _ _ _ _ c.put_reason.ensures (put_piece _ _ _ _ _ c.put_reason-2.ensures (put_piece _ _ _ _ _ c.put_reason-3.ensures (put_piece _ _ _ _ _ c.put_reason-4.ensures
    (put_piece _ _ _ _ _ c.put_reason-5.ensures (put_piece _ _ _ _ _ c.put_reason-6.ensures (put_piece _ _ _ _ _ c.put_reason-7.ensures (put_piece _ _ _ _ _ c.put_reason-8.ensures
    (put_piece _ _ _ _ _ c.put_reason-9.ensures c.put_reason-10.ensures))))))))
