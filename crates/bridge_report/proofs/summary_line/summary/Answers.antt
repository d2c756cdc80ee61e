use Rattle.std.proofs.Common.{rules}
use Rattle.bridge_report.specs.Summary.{summary_text}
use Rattle.bridge_report.proofs.summary_line.summary.Goals as goal

pub returns : goal.returns
unfolding summary_text
returns g c = search rules
