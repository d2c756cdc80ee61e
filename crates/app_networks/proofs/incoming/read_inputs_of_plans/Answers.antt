use Rattle.std.proofs.Common.{◌≡◌, ◌+◌, ◌++◌, ◌∷◌, [], ap, length, refl, subst, sym, take, ◌∙◌, arith}
use Rattle.std.specs.Prelude.{min, slice_get}
use Rattle.std.proofs.lemmas.List.{length-take, take_more}
use Rattle.std.proofs.lemmas.Option.{slice_get_read}
use Rattle.net_check.specs.Naming.{bridge_name}
use Rattle.net_run.specs.BridgeRuns.{IsBridgeInput}
use Rattle.app_networks.specs.Folders.{AreInputsOfPlans, EndsBridge, EndsReading}
use Rattle.app_networks.proofs.Came.{many, more_incoming}
use Rattle.app_networks.proofs.Ended.{goes_out, reading_at}
use Rattle.app_networks.proofs.incoming.read_inputs_of_plans.Goals as goal

pub returns-in_err-came-clause-ends : goal.returns-in_err-came-clause-ends
returns-in_err-came-clause-ends g c =
    let plans = c.args.plans.now in
    let bridges = c.args.bridges.now in
    let i = c.loop-accepted.accepted-index in
    let within = c.loop-accepted-test.true in
    let came : length c.loop-accepted.all.items ≡ length (take i plans) = many (take i plans) c.loop-accepted.all.items c.loop-accepted.invariant in
    let front : length (take i plans) ≡ min i (length plans) = length-take i plans in
    let bridge : c.len-bridge.result ≡ length c.loop-accepted.all.items = c.len-bridge.ensures ∙ c.loop-accepted.all.ok.0 in
    let here : c.len-bridge.result ≡ i = omega (arith, came, front, bridge, within) in
    let links = c.args.links.now in
    let input = c.args.input.now in
    let name = c.bridge_name-name.result.now in
    let ends = subst (λ j. EndsBridge links j c.accepted-item.result name c.as_str.result.now c.in_err-came.field-0.0) here c.in_err-came.ensures.ends in
    goes_out (EndsReading links plans bridges input) c.from_residual.result _ c.from_residual.ensures.1
    (reading_at links plans bridges input name c.as_str.result.now i c.accepted-item.result _ (slice_get_read plans (length plans) i _ refl within c.accepted-item.is) (c.bridge_name-name.ensures ∙ ap (bridge_name bridges) here)
    (c.as_str.ensures.value ∙ c.in-Ok.ensures) ends)

pub loop-accepted-preserved : goal.loop-accepted-preserved
loop-accepted-preserved g c =
    let plans = c.args.plans.now in
    let i = c.loop-accepted.accepted-index in
    let olds = c.loop-accepted.all.items in
    let came = c.in_ok-came.came in
    let more = more_incoming (take i plans) olds _ came c.loop-accepted.invariant (subst (λ p. IsBridgeInput p came) c.accepted-item.is c.in_ok-came.ensures.came) in
    subst (λ cs. AreInputsOfPlans (take (i + 1) plans) cs) (sym c.in-Ok-push.ensures.items)
    (subst (λ ps. AreInputsOfPlans ps (olds ++ came ∷ [])) (sym (take_more plans i _ c.loop-accepted-test.true)) more)
