use Rattle.std.proofs.Common.{◌∙◌, ap}
use Rattle.net_check.proofs.Named.{name_absent, name_there}
use Rattle.app_networks.proofs.refusing.bridge_name.Goals as goal

pub returns-then-bridge-bridges : goal.returns-then-bridge-bridges
returns-then-bridge-bridges c = c.name.ensures ∙ (ap (λ b. b.name) c.index-bridges-bridge.is ∙ name_there c.args.bridges.now c.args.bridge _ c.if-bridge-bridges.true)

pub returns-else-bridge-bridges : goal.returns-else-bridge-bridges
returns-else-bridge-bridges c = name_absent c.args.bridges.now c.args.bridge c.if-bridge-bridges.false
