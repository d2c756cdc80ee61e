use Rattle.std.proofs.Common.{◌≡◌, ◌≤◌, ◌∙◌, Some, subst, sym, ap, rules}
use Rattle.bridge_config.specs.Rules.{find_port}
use Rattle.bridge_check.specs.Reach.{reaches_queue}
use Rattle.net_latency.proofs.Bounded.{number_at}
use Rattle.net_latency.proofs.bounds.is_reached.Goals as goal

pub can_wait_in_reach-requires-clause-from : goal.can_wait_in_reach-requires-clause-from
can_wait_in_reach-requires-clause-from g c =
    let at : find_port c.args.plan.now.ports c.args.port ≡ Some c.in-Some.found.now = search rules in
    subst (λ n. 1 ≤ n) (sym (number_at c.args.plan.now.ports c.args.port c.in-Some.found.now at)) c.requires.from

pub can_wait_in_reach-requires-clause-to : goal.can_wait_in_reach-requires-clause-to
can_wait_in_reach-requires-clause-to g c =
    let at : find_port c.args.plan.now.ports c.args.port ≡ Some c.in-Some.found.now = search rules in
    subst (λ n. n ≤ 16) (sym (number_at c.args.plan.now.ports c.args.port c.in-Some.found.now at)) c.requires.to

pub can_wait_in_reach-requires-clause-port : goal.can_wait_in_reach-requires-clause-port
can_wait_in_reach-requires-clause-port g c =
    let at : find_port c.args.plan.now.ports c.args.port ≡ Some c.in-Some.found.now = search rules in
    subst (λ n. find_port c.args.plan.now.ports n ≡ Some c.in-Some.found.now) (sym (number_at c.args.plan.now.ports c.args.port c.in-Some.found.now at)) at

pub returns-in-Some : goal.returns-in-Some
returns-in-Some g c =
    let at : find_port c.args.plan.now.ports c.args.port ≡ Some c.in-Some.found.now = search rules in
    c.can_wait_in_reach.ensures ∙ ap (λ n. reaches_queue c.args.plan.now c.args.filter.now n c.args.class) (number_at c.args.plan.now.ports c.args.port c.in-Some.found.now at)
