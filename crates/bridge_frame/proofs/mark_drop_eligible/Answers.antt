use Rattle.std.proofs.Common.{rules}
use Rattle.bridge_frame.proofs.mark_drop_eligible.Goals as goal

pub returns-then-control-eq0-clause-marked : goal.returns-then-control-eq0-clause-marked
returns-then-control-eq0-clause-marked c = search rules
