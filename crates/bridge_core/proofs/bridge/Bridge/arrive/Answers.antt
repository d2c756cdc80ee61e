use Rattle.std.proofs.Common.{rules}
use Rattle.bridge_core.proofs.bridge.Bridge.arrive.Goals as goal

pub returns-in-Ok-clause-moved : goal.returns-in-Ok-clause-moved
returns-in-Ok-clause-moved g c = search rules
