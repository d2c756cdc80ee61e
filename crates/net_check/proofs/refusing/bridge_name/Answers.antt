use Rattle.std.proofs.Common.{◌∙◌, ap}
use Rattle.net_check.proofs.Named.{name_absent, name_there}
use Rattle.net_check.proofs.refusing.bridge_name.Goals as goal

pub returns-then-place-bridges : goal.returns-then-place-bridges
returns-then-place-bridges g c = c.name.ensures ∙ (ap (λ b. b.name) c.index-bridges-place.is ∙ name_there c.args.bridges.now c.args.bridge _ c.if-place-bridges.true)

pub returns-else-place-bridges : goal.returns-else-place-bridges
returns-else-place-bridges g c = name_absent c.args.bridges.now c.args.bridge c.if-place-bridges.false
