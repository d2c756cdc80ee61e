-- Numbers of the fits in a run.
use Rattle.std.proofs.Common.{◌≡◌, ◌<◌, ◌≤◌, ◌+◌, ◌-◌, ℕ, zero, suc, Bool, arith, subst}
use Rattle.bridge_cycle.specs.Fits.{Fits, IsFirstFit, IsPeriodic}
use Rattle.bridge_groups.specs.FitRuns.{IsFitRun}
use Rattle.bridge_groups.specs.Work.{HasFitsPerCycle, IsNthFit}
use Rattle.bridge_groups.specs.declared.fit_runs.FitRun.{FitRun}
use Rattle.bridge_groups.proofs.Candidates.{run_nth}
use Rattle.bridge_groups.proofs.Cycles.{has_fits_in}
use Rattle.bridge_groups.proofs.NthFits.{HasFits, first_before, first_here, nth_after, nth_once}

-- If fit `n` begins a run, the first fit after the run has the run's length as additional number.
pub rank_after : (opens : ℕ → Bool) (occ n length u first v : ℕ) → IsNthFit opens occ n u first → ((i : ℕ) → i < length → Fits opens occ (first + i)) → 1 ≤ length → IsFirstFit opens occ (first + length) v → IsNthFit opens occ (n + length) u v
rank_after opens occ n length u first v nth run some next =
    let last = run_nth opens occ n length u first (length - 1) nth run (omega (arith, some)) in
    let from : first + length ≡ (first + (length - 1)) + 1 = omega (arith, some) in
    let number : suc (n + (length - 1)) ≡ n + length = omega (arith, some) in
    subst (λ (i : ℕ). IsNthFit opens occ i u v) number (first + (length - 1), last, subst (λ (i : ℕ). IsFirstFit opens occ i v) from next)

-- After a run, the numbers go on with the next run.
pub next_rank : (opens : ℕ → Bool) (occ from u n : ℕ) (run next : FitRun) → IsFitRun opens occ from run → IsNthFit opens occ n u run.first → IsFitRun opens occ (run.first + run.length) next → IsNthFit opens occ (n + run.length) u next.first
next_rank opens occ from u n run next is nth then = rank_after opens occ n run.length u run.first next.first nth is.fits is.some then.first

-- A run that begins at a time or later begins at each fit from this time on, or earlier.
pub begins_by : (opens : ℕ → Bool) (occ from t : ℕ) (run : FitRun) → IsFitRun opens occ from run → from ≤ t → Fits opens occ t → run.first ≤ t
begins_by opens occ from t run is after fit = first_before opens occ occ from run.first t (omega arith) after fit is.first

-- If a run contains the fit one cycle after a fit `at`, the numbers up to this fit are the fits of a cycle.
pub cycle_ends : (opens : ℕ → Bool) (occ cycle from at n : ℕ) (run : FitRun) → IsPeriodic opens cycle → HasFits opens occ → 1 ≤ cycle → IsFitRun opens occ from run → Fits opens occ at → IsNthFit opens occ n at run.first → run.first ≤ at + cycle → at + cycle < run.first + run.length → HasFitsPerCycle opens occ cycle (n + (at + cycle - run.first))
cycle_ends opens occ cycle from at n run repeats some one is here nth early late =
    let there = run_nth opens occ n run.length at run.first (at + cycle - run.first) nth is.fits (omega (arith, early, late)) in
    let same : run.first + (at + cycle - run.first) ≡ at + cycle = omega (arith, early) in
    has_fits_in opens occ cycle repeats some (n + (at + cycle - run.first)) at here (subst (λ (i : ℕ). IsNthFit opens occ (n + (at + cycle - run.first)) at i) same there) one

-- A cycle has at least one fit, and at most one each ns.
pub cycle_some : (opens : ℕ → Bool) (occ cycle n at : ℕ) → 1 ≤ cycle → Fits opens occ at → HasFitsPerCycle opens occ cycle n → (1 ≤ n) × (n ≤ cycle)
cycle_some opens occ cycle zero at one here per =
    let again = per 0 at at (first_here opens occ at here) in
    let same = nth_once opens occ 0 at (at + cycle) at again (first_here opens occ at here) in
    absurd (omega (arith, same, one))
cycle_some opens occ cycle (suc n) at one here per =
    let after = nth_after opens occ (0 + suc n) at (at + cycle) (per 0 at at (first_here opens occ at here)) in
    (omega arith, omega (arith, after))
