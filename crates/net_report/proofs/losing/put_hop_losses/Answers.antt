use Rattle.std.proofs.Common.{refl}
use Rattle.bridge_text.proofs.Puts.{put_as}
use Rattle.net_report.proofs.losing.put_hop_losses.Goals as goal

pub returns : goal.returns
returns g c = put_as _ _ _ _ c.put_losses.ensures (rw (c.as_str.ensures.value, c.hop_losses.ensures) refl)
