use Rattle.std.proofs.Common.{◌≡◌, subst, sym, ap, ◌∙◌}
use Rattle.bridge_forward.specs.Forward.{forward}
use Rattle.bridge_forward.specs.Ports.{has_port, IsEmpty}
use Rattle.bridge_config.specs.Model.{Plan}
use Rattle.bridge_config.specs.Rules.{IsPlan}
use Rattle.bridge_config.proofs.PlanPorts.{goes_to_a_port, goes_nowhere, number_is}
use Rattle.bridge_config.proofs.plan.Plan.forward.Goals as goal

pub returns-clause-of_plan : goal.returns-clause-of_plan
returns-clause-of_plan g c = λ q low h.
    let p = c.args.self.now in
    let rules : IsPlan p = subst IsPlan c.self.view_is c.self.invariant in
    let same : c.forward.result ≡ forward p.database c.args.port c.args.vid c.args.da.now = c.forward.ensures.ports ∙ ap (λ (z : Plan _). forward z.database c.args.port c.args.vid c.args.da.now) c.self.view_is in
    goes_to_a_port p c.args.port c.args.vid c.args.da.now q rules low (sym (ap (λ s. has_port s q) same) ∙ h)

pub returns-clause-empty : goal.returns-clause-empty
returns-clause-empty g c =
    let p = c.args.self.now in
    let rules : IsPlan p = subst IsPlan c.self.view_is c.self.invariant in
    let same : c.forward.result ≡ forward p.database c.args.port c.args.vid c.args.da.now = c.forward.ensures.ports ∙ ap (λ (z : Plan _). forward z.database c.args.port c.args.vid c.args.da.now) c.self.view_is in (
      λ none q out at. let (low, high) = number_is p.ports q out rules.ports at in none q low high,
      λ none. subst IsEmpty (sym same) (goes_nowhere p c.args.port c.args.vid c.args.da.now rules (λ q out at. sym (ap (λ s. has_port s q) same) ∙ none q out at)),
    )
