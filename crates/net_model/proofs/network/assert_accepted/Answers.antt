use Rattle.std.proofs.Common.{All, subst}
use Rattle.std.proofs.lemmas.List.{take_all}
use Rattle.std.proofs.lemmas.List.Elements.{All-more}
use Rattle.net_model.specs.Checked.{IsAccepted}
use Rattle.net_model.proofs.network.assert_accepted.Goals as goal

pub loop-accepted-preserved : goal.loop-accepted-preserved
loop-accepted-preserved g c =
    let at = c.loop-accepted.accepted-index in
    let accepted : IsAccepted c.accepted-item.result = record { rules = c.plan-plan.ensures.rules; acceptable = c.plan-plan.ensures.acceptable } in
    All-more IsAccepted c.args.plans.now at c.accepted-item.result c.loop-accepted-test.true c.loop-accepted.invariant (subst IsAccepted c.accepted-item.is accepted)

pub returns : goal.returns
returns g c = subst (All IsAccepted) (take_all c.loop-accepted.accepted-index c.args.plans.now c.loop-accepted-test.false) c.loop-accepted.invariant
