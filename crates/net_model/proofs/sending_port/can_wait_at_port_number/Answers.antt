use Rattle.std.proofs.Common.{◌≡◌, ◌≤◌, ◌∙◌, Some, subst, sym, ap, rules}
use Rattle.bridge_config.specs.Rules.{find_port}
use Rattle.bridge_config.proofs.PlanPorts.{at_own, at_port}
use Rattle.net_model.specs.LinkFrames as feeding
use Rattle.net_model.proofs.sending_port.can_wait_at_port_number.Goals as goal

pub can_wait_at_port-requires-clause-from : goal.can_wait_at_port-requires-clause-from
can_wait_at_port-requires-clause-from g c =
    let at : find_port c.args.plan.now.ports c.args.port ≡ Some c.in-Some.found.now = search rules in
    subst (λ n. 1 ≤ n) (sym (at_port c.args.plan.now.ports c.args.port c.in-Some.found.now at).number) c.requires.from

pub can_wait_at_port-requires-clause-to : goal.can_wait_at_port-requires-clause-to
can_wait_at_port-requires-clause-to g c =
    let at : find_port c.args.plan.now.ports c.args.port ≡ Some c.in-Some.found.now = search rules in
    subst (λ n. n ≤ 16) (sym (at_port c.args.plan.now.ports c.args.port c.in-Some.found.now at).number) c.requires.to

pub can_wait_at_port-requires-clause-at : goal.can_wait_at_port-requires-clause-at
can_wait_at_port-requires-clause-at g c =
    let at : find_port c.args.plan.now.ports c.args.port ≡ Some c.in-Some.found.now = search rules in
    at_own c.args.plan.now.ports c.args.port c.in-Some.found.now at

pub returns-in-Some : goal.returns-in-Some
returns-in-Some g c =
    let at : find_port c.args.plan.now.ports c.args.port ≡ Some c.in-Some.found.now = search rules in
    c.can_wait_at_port.ensures ∙ ap (λ n. feeding.can_wait_at_port_number c.args.plan.now c.args.filter.now n) (at_port c.args.plan.now.ports c.args.port c.in-Some.found.now at).number
