use Rattle.std.proofs.Common.{◌∙◌, ap, subst}
use Rattle.bridge_config.specs.Model.{Plan}
use Rattle.bridge_config.specs.Rules.{IsPlan, find_port}
use Rattle.bridge_config.proofs.plan.Plan.port.Goals as goal

pub returns-clause-port : goal.returns-clause-port
returns-clause-port g c = c.find_port.ensures ∙ ap (λ xs. find_port xs c.args.number) (c.deref.ensures.value ∙ ap (λ (z : Plan _). z.ports) c.self.view_is)

pub returns-clause-rules : goal.returns-clause-rules
returns-clause-rules g c = subst IsPlan c.self.view_is c.self.invariant
