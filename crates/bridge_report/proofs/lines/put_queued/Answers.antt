use Rattle.std.proofs.Common.{codes, refl}
use Rattle.bridge_report.proofs.Puts.{put_as, put_pair}
use Rattle.bridge_report.proofs.lines.put_queued.Goals as goal

pub returns : goal.returns
returns g c = put_as _ _ _ _ _ (put_pair _ _ _ _ (codes "queued ") _ _ c.put_number.ensures (put_pair _ _ _ _ (codes " full ") _ _ c.put_number-2.ensures (put_pair _ _ _ _ (codes " never ") _ _ c.put_number-3.ensures c.put.ensures))) (rw (c.count_full.ensures, c.count_never_fitting.ensures) refl)
