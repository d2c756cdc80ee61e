use Rattle.std.proofs.Common.{refl}
use Rattle.net_file.proofs.names.resolve_numbered_name.Goals as goal

pub returns-in-Some-bridge_index-clause-there : goal.returns-in-Some-bridge_index-clause-there
returns-in-Some-bridge_index-clause-there g c = c.in-Some-bridge_index.ensures.there _ refl
