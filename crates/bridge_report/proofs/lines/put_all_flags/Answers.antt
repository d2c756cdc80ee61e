use Rattle.bridge_report.specs.Section.{all_flags}
use Rattle.bridge_report.proofs.Puts.{puts}
use Rattle.bridge_report.proofs.lines.put_all_flags.Goals as goal

pub returns : goal.returns
unfolding all_flags
returns g c = search puts
