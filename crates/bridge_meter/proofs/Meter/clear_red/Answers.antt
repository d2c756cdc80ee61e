use Rattle.std.proofs.Common.{rules}
use Rattle.bridge_meter.proofs.Meter.clear_red.Goals as goal

pub returns-clause-buckets : goal.returns-clause-buckets
returns-clause-buckets c = search rules

pub returns-clause-stands : goal.returns-clause-stands
returns-clause-stands c = search rules
