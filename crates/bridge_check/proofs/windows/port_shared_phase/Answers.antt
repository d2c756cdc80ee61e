use Rattle.std.proofs.Common.{rules}
use Rattle.bridge_check.proofs.windows.port_shared_phase.Goals as goal

pub returns-in-Some-Joined : goal.returns-in-Some-Joined
returns-in-Some-Joined g c = search rules
