use Rattle.std.proofs.Common.{rules}
use Rattle.bridge_frame.proofs.parse.Goals as goal

pub returns-then-tagged-2-clause-exact : goal.returns-then-tagged-2-clause-exact
returns-then-tagged-2-clause-exact c = search rules
