use Rattle.std.proofs.Common.{◌∙◌, ap, subst}
use Rattle.bridge_config.specs.Model.{Plan}
use Rattle.bridge_config.specs.Rules.{IsPlan}
use Rattle.bridge_config.proofs.plan.Plan.streams.Goals as goal

pub returns-clause-streams : goal.returns-clause-streams
returns-clause-streams g c = c.deref.ensures.value ∙ ap (λ (z : Plan _). z.streams) c.self.view_is

pub returns-clause-rules : goal.returns-clause-rules
returns-clause-rules g c = subst IsPlan c.self.view_is c.self.invariant
