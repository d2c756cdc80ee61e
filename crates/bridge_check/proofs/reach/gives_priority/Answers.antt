use Rattle.std.proofs.Common.{rules}
use Rattle.bridge_check.proofs.reach.gives_priority.Goals as goal

pub returns-in-None-None : goal.returns-in-None-None
returns-in-None-None c = search rules
