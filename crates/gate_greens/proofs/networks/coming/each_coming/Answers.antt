use Rattle.std.proofs.Common.{◌+◌, ◌++◌, ◌∷◌, [], subst, sym, take}
use Rattle.std.proofs.lemmas.List.{take_more}
use Rattle.net_run.specs.BridgeRuns.{IsBridgeInput}
use Rattle.gate_greens.specs.Coming.{AllIncoming}
use Rattle.gate_greens.proofs.Came.{more_incoming}
use Rattle.gate_greens.proofs.networks.coming.each_coming.Goals as goal

pub loop-accepted-preserved : goal.loop-accepted-preserved
loop-accepted-preserved c =
    let plans = c.args.plans.now in
    let i = c.loop-accepted.accepted-index in
    let olds = c.loop-accepted.all.items in
    let came = c.in_ok-came.came in
    let more = more_incoming (take i plans) olds _ came c.loop-accepted.invariant (subst (λ p. IsBridgeInput p came) c.accepted-item.is c.in_ok-came.ensures) in
    subst (λ cs. AllIncoming (take (i + 1) plans) cs) (sym c.in-Ok.ensures.items)
    (subst (λ ps. AllIncoming ps (olds ++ came ∷ [])) (sym (take_more plans i _ c.loop-accepted-test.true)) more)
