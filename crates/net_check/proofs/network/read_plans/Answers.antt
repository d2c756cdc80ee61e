use Rattle.std.proofs.Common.{◌≡◌, ◌+◌, ◌∷◌, [], Some, sym, ap, length, slice_get, ◌∙◌, arith}
use Rattle.std.proofs.lemmas.List.{length-append}
use Rattle.std.proofs.lemmas.Option.{slice_get-get_or}
use Rattle.bridge_limits.proofs.Members.{in_at}
use Rattle.net_check.specs.Networks.{beside}
use Rattle.net_check.proofs.Plans.{add_plan}
use Rattle.net_check.proofs.network.read_plans.Goals as goal

pub returns-in-Err-clause-ends : goal.returns-in-Err-clause-ends
returns-in-Err-clause-ends g c = (
  c.bridge-item.result,
  in_at c.args.bridges.now c.loop-bridge.bridge-index c.bridge-item.result (slice_get-get_or c.args.bridges.now c.loop-bridge.bridge-index _ c.loop-bridge-test.true ∙ ap Some (sym c.bridge-item.is)),
  c.in-Err.ensures.ends,
)

pub loop-bridge-preserved : goal.loop-bridge-preserved
loop-bridge-preserved g c =
    let before = c.loop-bridge.invariant in
    let more = c.in_default.ensures.more in
    let bridges = c.args.bridges.now in
    let i = c.loop-bridge.bridge-index in
    let old = c.loop-bridge.plans.items in
    let here : slice_get bridges i ≡ Some c.bridge-item.result = slice_get-get_or bridges i _ c.loop-bridge-test.true ∙ ap Some (sym c.bridge-item.is) in
    let at : slice_get bridges (length old) ≡ Some c.bridge-item.result = ap (slice_get bridges) before.0 ∙ here in
    let longer = ap length more.1 ∙ length-append old (more.0 ∷ []) in
    let count = before.0 in
    let many : length c.push_plan.new.plans.items ≡ i + 1 = omega (arith, longer, count) in
    let kept = add_plan (g.F.ReadFiles.octets_at c.args.files.now) c.args.path.now bridges old c.push_plan.new.plans.items c.bridge-item.result at before.1.0 (more.0, more.1, λ text told. more.2 text (before.1.1 (beside c.args.path.now c.bridge-item.result.plan) ∙ told)) in
    (many, (kept, λ p. c.in_default.ensures.same p ∙ before.1.1 p))
