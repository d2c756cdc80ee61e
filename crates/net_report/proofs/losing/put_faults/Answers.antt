use Rattle.net_report.specs.Losing.{fault_lines}
use Rattle.bridge_text.proofs.Puts.{put_piece}
use Rattle.net_report.proofs.losing.put_faults.Goals as goal

pub returns : goal.returns
unfolding fault_lines
returns g c = put_piece _ _ _ _ _ c.put_lost_if.ensures c.put_late_if.ensures
