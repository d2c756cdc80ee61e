use Rattle.std.proofs.Common.{All, ◌≡◌, ◌+◌, List, drop, subst, sym}
use Rattle.std.proofs.lemmas.List.Elements.{All-push}
use Rattle.bridge_groups.specs.declared.linear_curve.LinearCurve.{LinearCurve}
use Rattle.bridge_groups.specs.LinearCurves.{IsCountCurve, count_at}
use Rattle.bridge_groups.specs.Curves as spec
use Rattle.bridge_groups.proofs.MeterCurves.{limit_more}
use Rattle.bridge_groups.proofs.meter_curves.count_curves.Goals as goal

pub loop-sharer-preserved : goal.loop-sharer-preserved
loop-sharer-preserved g c =
    let (counts, limit) = c.loop-sharer.invariant in
    let p = c.args.plan.now in
    let fs = c.args.sharers.now in
    let k = c.loop-sharer.sharer-index in
    let curves = c.loop-sharer.curves.items in
    let all = All-push IsCountCurve curves c.filter_count_curve.result counts c.filter_count_curve.ensures.line in
    let same = sym c.in-Ok.ensures.items in (
      subst (λ (cs : List LinearCurve). All IsCountCurve cs) same all,
      λ w. subst (λ (cs : List LinearCurve). count_at cs w + spec.sharers_frame_limit p (drop (k + 1) fs) w ≡ spec.sharers_frame_limit p fs w) same (limit_more p fs k w _ curves c.filter_count_curve.result c.loop-sharer-test.true c.filter_count_curve.ensures (limit w)),
    )
