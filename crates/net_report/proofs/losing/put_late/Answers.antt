use Rattle.std.proofs.Common.{ap}
use Rattle.std.specs.Prelude.{decimal}
use Rattle.net_report.specs.Losing.{late_words}
use Rattle.bridge_text.proofs.Puts.{put_as, put_piece}
use Rattle.net_report.proofs.losing.put_late.Goals as goal

pub returns : goal.returns
unfolding late_words
returns g c =
    put_piece _ _ _ _ _ c.put.ensures (put_piece _ _ _ _ _ c.put-2.ensures (put_piece _ _ _ _ _ c.put-3.ensures
    (put_piece _ _ _ _ _ (put_as _ _ _ _ c.put_number.ensures (ap decimal c.count_late.ensures)) (put_piece _ _ _ _ _ c.put-4.ensures
    (put_piece _ _ _ _ _ c.put_number-2.ensures (put_piece _ _ _ _ _ c.put-5.ensures
    (put_piece _ _ _ _ _ (put_as _ _ _ _ c.put_number-3.ensures (ap decimal c.greatest_delay.ensures)) (put_piece _ _ _ _ _ c.put-6.ensures
    (put_piece _ _ _ _ _ c.put_number-4.ensures c.put-7.ensures)))))))))
