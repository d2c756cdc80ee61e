use Rattle.std.proofs.Common.{rules}
use Rattle.bridge_meter.proofs.spend_tokens.Goals as goal

pub returns-then-need-buckets-clause-colour : goal.returns-then-need-buckets-clause-colour
returns-then-need-buckets-clause-colour c = search rules
