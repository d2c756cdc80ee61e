use Rattle.std.proofs.Common.{rules}
use Rattle.bridge_ident.proofs.Ident.new.Goals as goal

pub returns : goal.returns
returns g c = search rules
