use Rattle.bridge_bounds.proofs.Steps as steps
use Rattle.bridge_bounds.proofs.laws.longest_bounds.Goals as goal

pub returns-clause-once : goal.returns-clause-once
returns-clause-once c = steps.ends_once

pub returns-clause-bounds : goal.returns-clause-bounds
returns-clause-bounds c = steps.longest_bounds

pub returns-clause-least : goal.returns-clause-least
returns-clause-least c = steps.attained_least
