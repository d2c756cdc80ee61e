use Rattle.std.proofs.Common.{◌+◌, ◌*◌, arith}
use Rattle.bridge_bounds.proofs.Steps.{ends_open}
use Rattle.bridge_bounds.proofs.laws.one_after_another.Goals as goal

pub returns-clause-longest : goal.returns-clause-longest
returns-clause-longest c = λ opens occ k always u. (u + k * occ, ends_open opens occ k u always, omega arith)

pub returns-clause-attained : goal.returns-clause-attained
returns-clause-attained c = λ opens occ k always. (0, ends_open opens occ k 0 always)
