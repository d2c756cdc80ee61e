use Rattle.bridge_bounds.proofs.Whole as whole
use Rattle.bridge_bounds.proofs.laws.in_time.Goals as goal

pub returns-clause-longest : goal.returns-clause-longest
returns-clause-longest g c = whole.in_time

pub returns-clause-bound : goal.returns-clause-bound
returns-clause-bound g c = whole.in_bound

pub returns-clause-delay : goal.returns-clause-delay
returns-clause-delay g c = whole.delay_bound
