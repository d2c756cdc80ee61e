use Rattle.bridge_cycle.proofs.Changes.{opens_before, opens_after}
use Rattle.bridge_cycle.proofs.laws.changing_list_opens.Goals as goal

pub returns-clause-before : goal.returns-clause-before
returns-clause-before c = opens_before

pub returns-clause-after : goal.returns-clause-after
returns-clause-after c = opens_after
