use Rattle.std.proofs.Common.{rules}
use Rattle.bridge_meter.proofs.refill_buckets.Goals as goal

pub returns-clause-filled : goal.returns-clause-filled
unfolding Rattle.bridge_meter.specs.Steps.refill_buckets
returns-clause-filled c = search rules
