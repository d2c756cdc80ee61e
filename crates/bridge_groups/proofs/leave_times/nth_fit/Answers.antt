use Rattle.std.proofs.Common.{◌≡◌, ◌+◌, ◌-◌, ℕ, Bool, arith, subst, sym}
use Rattle.bridge_port.specs.GateSchedule.{list_opens}
use Rattle.bridge_groups.specs.Work.{IsNthFit}
use Rattle.bridge_groups.proofs.Candidates.{run_nth}
use Rattle.bridge_groups.proofs.Ranks.{next_rank}
use Rattle.bridge_groups.proofs.leave_times.nth_fit.Goals as goal

pub loop-run-init : goal.loop-run-init
loop-run-init g c =
    let soon = c.next_fit_run-run.ensures.soon in
    let none : c.args.number - c.args.number ≡ 0 = omega arith in
    record {
      at = c.args.from;
      is = c.next_fit_run-run.ensures.run;
      ranked = subst (λ (i : ℕ). IsNthFit (list_opens c.args.list.now c.args.class) c.args.occ i c.args.from c.next_fit_run-run.result.first) (sym none) c.next_fit_run-run.ensures.run.first;
      upto = omega arith;
      near = omega (arith, soon);
    }

pub loop-run-preserved : goal.loop-run-preserved
loop-run-preserved g c =
    let opens : ℕ → Bool = list_opens c.args.list.now c.args.class in
    let is = c.next_fit_run-run-in-loop-run.ensures.run in
    let soon = c.next_fit_run-run-in-loop-run.ensures.soon in
    let upto = c.loop-run.invariant.upto in
    let near = c.loop-run.invariant.near in
    let enough = c.if-left-run.false in
    let ranked = next_rank opens c.args.occ c.loop-run.invariant.at c.args.from (c.args.number - c.loop-run.left) c.loop-run.run c.next_fit_run-run-in-loop-run.result c.loop-run.invariant.is c.loop-run.invariant.ranked is in
    let same : (c.args.number - c.loop-run.left) + c.loop-run.run.length ≡ c.args.number - (c.loop-run.left - c.loop-run.run.length) = omega (arith, upto, enough) in
    record {
      at = c.loop-run.run.first + c.loop-run.run.length;
      is = is;
      ranked = subst (λ (i : ℕ). IsNthFit opens c.args.occ i c.args.from c.next_fit_run-run-in-loop-run.result.first) same ranked;
      upto = omega (arith, upto);
      near = omega (arith, soon, near);
    }

pub returns-then-left-run-clause-fit : goal.returns-then-left-run-clause-fit
returns-then-left-run-clause-fit g c =
    let opens : ℕ → Bool = list_opens c.args.list.now c.args.class in
    let upto = c.loop-run.invariant.upto in
    let nth = run_nth opens c.args.occ (c.args.number - c.loop-run.left) c.loop-run.run.length c.args.from c.loop-run.run.first c.loop-run.left c.loop-run.invariant.ranked c.loop-run.invariant.is.fits c.if-left-run.true in
    let same : (c.args.number - c.loop-run.left) + c.loop-run.left ≡ c.args.number = omega (arith, upto) in
    subst (λ (i : ℕ). IsNthFit opens c.args.occ i c.args.from (c.loop-run.run.first + c.loop-run.left)) same nth
