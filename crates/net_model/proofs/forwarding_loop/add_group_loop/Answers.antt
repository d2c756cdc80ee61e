use Rattle.std.proofs.Common.{ap, inl, inr, refl, rules, Ok}
use Rattle.net_model.specs.ForwardingLoops.{MayLoop}
use Rattle.net_model.proofs.forwarding_loop.add_group_loop.Goals as goal

pub returns-in_ok-push-in-Some : goal.returns-in_ok-push-in-Some
returns-in_ok-push-in-Some g c =
    let may : MayLoop c.args.plans.now c.args.links.now c.args.group.now c.in-Some.at = search rules in
    inl (c.in-Some.at, may, search rules)

pub returns-in-None : goal.returns-in-None
returns-in-None g c = inr ((λ x round. c.in_ok-at.ensures.none (ap Ok c.in-None.is) x round), refl)
