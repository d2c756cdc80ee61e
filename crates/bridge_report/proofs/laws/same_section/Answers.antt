use Rattle.bridge_report.proofs.Same.{same_section}
use Rattle.bridge_report.proofs.laws.same_section.Goals as goal

pub returns : goal.returns
returns g c = same_section
