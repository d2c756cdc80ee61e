use Rattle.std.proofs.Common.{◌∙◌, ap, subst}
use Rattle.bridge_config.specs.Model.{Plan}
use Rattle.bridge_config.specs.Rules.{IsPlan}
use Rattle.bridge_config.proofs.plan.Plan.meters.Goals as goal

pub returns-clause-meters : goal.returns-clause-meters
returns-clause-meters g c = c.deref.ensures.value ∙ ap (λ (z : Plan _). z.meters) c.self.view_is

pub returns-clause-rules : goal.returns-clause-rules
returns-clause-rules g c = subst IsPlan c.self.view_is c.self.invariant
