use Rattle.std.proofs.Common.{ap}
use Rattle.std.specs.Prelude.{decimal}
use Rattle.bridge_report.specs.Losses.{lost_line}
use Rattle.bridge_text.proofs.Puts.{put_as, put_piece}
use Rattle.bridge_report.proofs.losses.put_line.Goals as goal

pub returns : goal.returns
unfolding lost_line
returns g c =
    put_piece _ _ _ _ _ c.put.ensures (put_piece _ _ _ _ _ c.put_integer.ensures (put_piece _ _ _ _ _ c.put-2.ensures
    (put_piece _ _ _ _ _ (put_as _ _ _ _ c.put_integer-2.ensures (ap decimal c.total.ensures)) (put_piece _ _ _ _ _ c.put-3.ensures (put_piece _ _ _ _ _ c.put_number.ensures
    (put_piece _ _ _ _ _ c.put-4.ensures (put_piece _ _ _ _ _ c.put_losses.ensures c.put-5.ensures)))))))
