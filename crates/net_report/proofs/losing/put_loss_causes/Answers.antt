use Rattle.std.proofs.Common.{[], ap}
use Rattle.std.specs.Prelude.{codes}
use Rattle.bridge_report.specs.Losses.{reason_words}
use Rattle.net_report.specs.Losing.{why_words}
use Rattle.bridge_text.proofs.Puts.{put_as, put_piece}
use Rattle.net_report.proofs.losing.put_loss_causes.Goals as goal

pub returns : goal.returns
unfolding why_words
returns g c =
    put_piece _ _ _ _ _ c.put_hops.ensures (put_piece _ _ _ _ _ (put_as _ _ _ _ c.put_reason.ensures (ap (reason_words [] (codes "astray")) c.total_astray.ensures))
    (put_as _ _ _ _ c.put_reason-2.ensures (ap (reason_words [] (codes "nowhere")) c.count_not_forwarded.ensures)))
