use Rattle.bridge_groups.proofs.Turns.{within_budget}
use Rattle.bridge_groups.proofs.laws.gate_limits_octets.Goals as goal

pub returns : goal.returns
returns c = λ r u w es limits order upto. within_budget r limits u w es order upto
