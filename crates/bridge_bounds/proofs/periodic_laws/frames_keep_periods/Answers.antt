use Rattle.bridge_bounds.proofs.Kept as kept
use Rattle.bridge_bounds.proofs.periodic_laws.frames_keep_periods.Goals as goal

pub returns-clause-phases : goal.returns-clause-phases
returns-clause-phases g c = kept.phases

pub returns-clause-times : goal.returns-clause-times
returns-clause-times g c = kept.times
