use Rattle.std.proofs.Common.{◌∙◌, ap, subst}
use Rattle.bridge_config.specs.Model.{Plan}
use Rattle.bridge_config.specs.Rules.{IsPlan}
use Rattle.bridge_config.proofs.plan.Plan.ports.Goals as goal

pub returns-clause-ports : goal.returns-clause-ports
returns-clause-ports g c = c.deref.ensures.value ∙ ap (λ (z : Plan _). z.ports) c.self.view_is

pub returns-clause-rules : goal.returns-clause-rules
returns-clause-rules g c = subst IsPlan c.self.view_is c.self.invariant
