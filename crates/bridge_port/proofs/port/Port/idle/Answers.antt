use Rattle.std.proofs.Common.{rules}
use Rattle.bridge_port.proofs.port.Port.idle.Goals as goal

pub invariant_of-result : goal.invariant_of-result
invariant_of-result g c = let rooms = c.requires.rooms in rw c.requires.queues (search rules)
