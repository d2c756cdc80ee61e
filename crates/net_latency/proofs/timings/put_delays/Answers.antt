use Rattle.std.proofs.Common.{refl}
use Rattle.bridge_text.proofs.Puts.{put_as, put_piece}
use Rattle.net_latency.proofs.timings.put_delays.Goals as goal

pub returns : goal.returns
returns g c = put_as _ _ _ _ (put_piece _ _ _ _ _ c.put.ensures (put_piece _ _ _ _ _ c.put_integer.ensures (put_piece _ _ _ _ _ c.put-2.ensures (put_piece _ _ _ _ _ c.put_integer-2.ensures (put_piece _ _ _ _ _ c.put-3.ensures (put_piece _ _ _ _ _ c.put_integer-3.ensures c.put_phases.ensures))))))
    (rw c.saturating_sub.ensures refl)
