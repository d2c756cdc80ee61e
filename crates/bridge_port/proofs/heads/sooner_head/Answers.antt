use Rattle.std.proofs.Common.{rules}
use Rattle.bridge_port.proofs.heads.sooner_head.Goals as goal

pub returns-in-Some : goal.returns-in-Some
returns-in-Some c = search rules
