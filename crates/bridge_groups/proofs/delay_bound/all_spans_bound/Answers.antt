use Rattle.std.proofs.Common.{◌≤◌, ◌+◌, ℕ, arith, subst, sym}
use Rattle.bridge_cycle.proofs.Lists.{list_repeats}
use Rattle.bridge_port.specs.GateSchedule.{list_opens}
use Rattle.bridge_groups.specs.LinearCurves.{curve_at}
use Rattle.bridge_groups.proofs.LinearCurves.{adds, rises}
use Rattle.bridge_groups.proofs.SpanCovers.{AreStartsCovered, all_spans, cover_run}
use Rattle.bridge_groups.proofs.FitTurns.{list_has_fits}
use Rattle.bridge_groups.proofs.delay_bound.all_spans_bound.Goals as goal

pub loop-covered-preserved : goal.loop-covered-preserved
loop-covered-preserved g c =
    let some = list_has_fits c.args.list.now c.args.class c.args.occ c.requires.lawful c.requires.ever in
    let cycle = c.cycle-cycle.ensures.cycle in
    let short = c.requires.lawful.cycle in
    let before = c.loop-covered-test.true in
    let soon = c.next_fit_run-run.ensures.soon in
    let covers = cover_run (list_opens c.args.list.now c.args.class) c.args.occ c.args.work (curve_at c.args.curve.now) some c.args.shortest (c.args.shortest + c.args.list.now.cycle) c.loop-covered.covered c.loop-covered.bound c.in_ok-next.next c.next_fit_run-run.result c.loop-covered.invariant.covers c.next_fit_run-run.ensures.run c.in_ok-next.ensures in
    record {
      covers = subst (AreStartsCovered (list_opens c.args.list.now c.args.class) c.args.occ c.args.work (curve_at c.args.curve.now) c.args.shortest (c.args.shortest + c.args.list.now.cycle) (c.next_fit_run-run.result.first + c.next_fit_run-run.result.length)) (sym c.max-bound.ensures) covers;
      near = omega (arith, soon, before, cycle, short);
    }

pub returns : goal.returns
returns g c =
    let some = list_has_fits c.args.list.now c.args.class c.args.occ c.requires.lawful c.requires.ever in
    let cycle = c.cycle-cycle.ensures.cycle in
    let all = c.loop-covered-test.false in
    let low : (w : ℕ) → c.args.shortest ≤ w → c.args.work ≤ curve_at c.args.curve.now w = λ w after. let rise = rises c.args.curve.now c.args.shortest w c.requires.curve.unit_some after in let least = c.requires.low in omega (arith, rise, least) in
    let stable : (w : ℕ) → curve_at c.args.curve.now (w + c.args.list.now.cycle) ≤ curve_at c.args.curve.now w + c.args.per_cycle = λ w. adds c.args.curve.now w c.args.list.now.cycle c.args.per_cycle c.requires.curve.unit_some c.requires.stable in
    all_spans (list_opens c.args.list.now c.args.class) c.args.occ c.args.work (curve_at c.args.curve.now) some c.args.list.now.cycle c.args.per_cycle c.args.shortest c.loop-covered.bound (list_repeats c.args.list.now c.args.class c.requires.lawful) c.requires.lawful.cycle_some c.requires.fits low stable (λ u less. c.loop-covered.invariant.covers.before u (omega (arith, less, cycle, all)))
