use Rattle.std.proofs.Common.{◌≡◌, ◌+◌, ◌-◌, ℕ, Bool, arith, subst}
use Rattle.bridge_cycle.specs.Fits.{IsFirstFit}
use Rattle.bridge_cycle.proofs.Lists.{list_repeats}
use Rattle.bridge_port.specs.GateSchedule.{list_opens}
use Rattle.bridge_groups.specs.Work.{HasFitsPerCycle, IsNthFit}
use Rattle.bridge_groups.proofs.NthFits.{first_here}
use Rattle.bridge_groups.proofs.Cycles.{fits_later}
use Rattle.bridge_groups.proofs.Ranks.{begins_by, cycle_ends, cycle_some, next_rank}
use Rattle.bridge_groups.proofs.FitTurns.{list_has_fits}
use Rattle.bridge_groups.proofs.span_search.fits_per_cycle.Goals as goal

pub loop-run-init : goal.loop-run-init
loop-run-init g c =
    let run = c.next_fit_run-run.ensures.run in
    let soon = c.next_fit_run-run.ensures.soon in
    record {
      from = 0;
      is = run;
      ranked = subst (λ (i : ℕ). IsFirstFit (list_opens c.args.list.now c.args.class) c.args.occ i c.next_fit_run-run.result.first) (let back : c.next_fit_run-run.result.first ≡ (c.next_fit_run-run.result.first + c.cycle-cycle.result) - c.cycle-cycle.result = omega arith in back) (first_here (list_opens c.args.list.now c.args.class) c.args.occ c.next_fit_run-run.result.first run.first.fits);
      early = omega arith;
      few = omega arith;
      small = omega (arith, soon);
    }

pub loop-run-preserved : goal.loop-run-preserved
loop-run-preserved g c =
    let opens : ℕ → Bool = list_opens c.args.list.now c.args.class in
    let at = c.next_fit_run-run.result.first in
    let cycle = c.cycle-cycle.ensures.cycle in
    let fit = fits_later opens c.args.occ c.args.list.now.cycle (list_repeats c.args.list.now c.args.class c.requires.lawful) at c.next_fit_run-run.ensures.run.first.fits in
    let is = c.next_fit_run-run-in-loop-run.ensures.run in
    let soon = c.next_fit_run-run-in-loop-run.ensures.soon in
    let after = is.first.after in
    let few = c.loop-run.invariant.few in
    let before = c.loop-run-test.true in
    record {
      from = c.loop-run.run.first + c.loop-run.run.length;
      is = is;
      ranked = next_rank opens c.args.occ c.loop-run.invariant.from _ c.loop-run.count c.loop-run.run c.next_fit_run-run-in-loop-run.result c.loop-run.invariant.is c.loop-run.invariant.ranked is;
      early = (let early = begins_by opens c.args.occ (c.loop-run.run.first + c.loop-run.run.length) (at + c.args.list.now.cycle) c.next_fit_run-run-in-loop-run.result is (omega (arith, before, cycle)) fit in omega (arith, early, cycle));
      few = omega (arith, few, after);
      small = omega (arith, soon, before);
    }

pub returns-clause-fits : goal.returns-clause-fits
returns-clause-fits g c =
    let opens : ℕ → Bool = list_opens c.args.list.now c.args.class in
    let at = c.next_fit_run-run.result.first in
    let cycle = c.cycle-cycle.ensures.cycle in
    let lawful = c.requires.lawful in
    let back : (at + c.cycle-cycle.result) - c.cycle-cycle.result ≡ at = omega arith in
    let ranked = subst (λ (i : ℕ). IsNthFit opens c.args.occ c.loop-run.count i c.loop-run.run.first) back c.loop-run.invariant.ranked in
    let early = c.loop-run.invariant.early in
    let late = c.loop-run-test.false in
    let per = cycle_ends opens c.args.occ c.args.list.now.cycle c.loop-run.invariant.from at c.loop-run.count c.loop-run.run (list_repeats c.args.list.now c.args.class lawful) (list_has_fits c.args.list.now c.args.class c.args.occ lawful c.requires.ever) lawful.cycle_some c.loop-run.invariant.is c.next_fit_run-run.ensures.run.first.fits ranked (omega (arith, early, cycle)) (omega (arith, late, cycle)) in
    subst (λ (i : ℕ). HasFitsPerCycle opens c.args.occ c.args.list.now.cycle (c.loop-run.count + (at + i - c.loop-run.run.first))) (let same : c.args.list.now.cycle ≡ c.cycle-cycle.result = omega (arith, cycle) in same) per

pub returns-clause-some : goal.returns-clause-some
returns-clause-some g c = (cycle_some (list_opens c.args.list.now c.args.class) c.args.occ c.args.list.now.cycle _ c.next_fit_run-run.result.first c.requires.lawful.cycle_some c.next_fit_run-run.ensures.run.first.fits (returns-clause-fits g c)).0
