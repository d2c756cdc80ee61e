use Rattle.std.proofs.Common.{rules}
use Rattle.bridge_meter.proofs.the_limits.Goals as goal

pub returns-clause-units : goal.returns-clause-units
returns-clause-units c = search rules
