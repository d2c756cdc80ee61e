use Rattle.bridge_report.proofs.Puts.{puts}
use Rattle.bridge_report.proofs.lines.put_known_delay.Goals as goal

pub returns : goal.returns
returns g c = search puts
