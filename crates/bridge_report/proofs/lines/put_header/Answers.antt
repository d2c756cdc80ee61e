use Rattle.std.proofs.Common.{codes, refl}
use Rattle.bridge_report.proofs.Puts.{put_as, put_pair, put_piece}
use Rattle.bridge_report.proofs.lines.put_header.Goals as goal

pub returns : goal.returns
returns g c = put_as _ _ _ _ _ (put_pair _ _ _ _ (codes "filter ") _ _ c.put_number.ensures (put_piece _ _ _ _ _ _ c.put.ensures (put_piece _ _ _ _ _ _ c.put-2.ensures c.put-3.ensures))) (rw (c.from.ensures, c.kind_word.ensures) refl)
