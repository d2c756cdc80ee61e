use Rattle.std.proofs.Common.{◌≤◌, ◌+◌, ℕ, refl, arith, subst, sym}
use Rattle.bridge_port.specs.GateSchedule.{list_opens}
use Rattle.bridge_groups.specs.LinearCurves.{curve_at}
use Rattle.bridge_groups.specs.Work.{IsDelayBound}
use Rattle.bridge_groups.proofs.Candidates.{always_in_burst}
use Rattle.bridge_groups.proofs.LinearCurves.{slow}
use Rattle.bridge_groups.proofs.delay_bound.list_delay_bound.Goals as goal

pub returns-in-None : goal.returns-in-None
returns-in-None g c =
    let enough = c.if-burst-least.false in
    let burst = c.in_ok-burst.ensures.work in
    let rise : (w : ℕ) → curve_at c.args.curve.now w ≤ curve_at c.args.curve.now 0 + w = λ w. let h = slow c.args.curve.now 0 w c.requires.curve (omega arith) in omega (arith, h) in
    subst (IsDelayBound (list_opens c.args.list.now c.args.class) c.args.occ c.args.least (curve_at c.args.curve.now)) (sym burst) (always_in_burst (list_opens c.args.list.now c.args.class) c.args.occ c.args.least (curve_at c.args.curve.now) (λ u. c.in-None.ensures.open u refl) rise (omega (arith, enough, burst)))
