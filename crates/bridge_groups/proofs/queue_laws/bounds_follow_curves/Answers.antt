use Rattle.bridge_groups.proofs.Candidates.{always_in_burst, lesser_curve}
use Rattle.bridge_groups.proofs.queue_laws.bounds_follow_curves.Goals as goal

pub returns-clause-lesser : goal.returns-clause-lesser
returns-clause-lesser c = lesser_curve

pub returns-clause-always : goal.returns-clause-always
returns-clause-always c = always_in_burst
