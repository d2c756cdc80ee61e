use Rattle.std.proofs.Common.{◌≡◌, ◌∙◌, IfOk, IfSome, Ok, None, subst}
use Rattle.net_model.specs.declared.links.BridgePort.{BridgePort}
use Rattle.net_model.specs.Walks.{IsOnLoop}
use Rattle.net_model.specs.LoopSteps.{group_steps}
use Rattle.net_model.proofs.forwarding_loop.group_loop_port.Goals as goal

pub returns-clause-some : goal.returns-clause-some
returns-clause-some g c =
    let same : c.deref.result.now ≡ group_steps c.args.links.now c.args.group.now 0 c.args.plans.now = c.deref.ensures.value ∙ c.in_ok-steps.ensures in
    subst (λ s. IfOk c.find_loop_port.result (λ place. IfSome place (IsOnLoop s))) same c.find_loop_port.ensures.some

pub returns-clause-none : goal.returns-clause-none
returns-clause-none g c =
    let same : c.deref.result.now ≡ group_steps c.args.links.now c.args.group.now 0 c.args.plans.now = c.deref.ensures.value ∙ c.in_ok-steps.ensures in
    subst (λ s. c.find_loop_port.result ≡ Ok None → (x : BridgePort) → ¬ IsOnLoop s x) same c.find_loop_port.ensures.none
