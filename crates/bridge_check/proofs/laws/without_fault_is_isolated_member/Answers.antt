use Rattle.bridge_check.proofs.Grouped.{isolated_member}
use Rattle.bridge_check.proofs.laws.without_fault_is_isolated_member.Goals as goal

pub returns : goal.returns
returns g c = isolated_member
