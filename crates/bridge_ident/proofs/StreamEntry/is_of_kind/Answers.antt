use Rattle.std.proofs.Common.{rules}
use Rattle.bridge_ident.proofs.StreamEntry.is_of_kind.Goals as goal

pub returns-then-same : goal.returns-then-same
returns-then-same c = search rules
