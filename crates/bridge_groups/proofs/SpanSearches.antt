-- Searches of spans go on from run to run.
use Rattle.std.proofs.Common.{◌≡◌, ◌<◌, ◌≤◌, ◌+◌, ◌-◌, ◌*◌, ℕ, zero, suc, Bool, arith, subst, sym, inl, inr}
use Rattle.std.proofs.lemmas.Bool.{cases_lt}
use Rattle.bridge_cycle.specs.Fits.{Fits, IsFirstFit, IsPeriodic}
use Rattle.bridge_cycle.proofs.Repeats.{fits_down, fits_up}
use Rattle.bridge_groups.specs.FitRuns.{IsFitRun}
use Rattle.bridge_groups.specs.LinearCurves.{IsLinearCurve, curve_at}
use Rattle.bridge_groups.specs.SpanSearches.{IsSearched}
use Rattle.bridge_groups.specs.Work.{HasFitsPerCycle, IsNthFit, IsSpanBound}
use Rattle.bridge_groups.specs.declared.fit_runs.FitRun.{FitRun}
use Rattle.bridge_groups.specs.declared.linear_curve.LinearCurve.{LinearCurve}
use Rattle.bridge_groups.specs.declared.span_search.SpanLimits.{SpanLimits}
use Rattle.bridge_groups.specs.declared.span_search.SpanSearch.{SpanSearch}
use Rattle.bridge_groups.proofs.Candidates.{in_run}
use Rattle.bridge_groups.proofs.LinearCurves.{rises, slow}
use Rattle.bridge_groups.proofs.NthFits.{HasFits}
use Rattle.bridge_groups.proofs.Ranks.{rank_after}

-- A first fit recurs `n` cycles later.
pub first_up : (opens : ℕ → Bool) (cycle occ n from s : ℕ) → IsPeriodic opens cycle → IsFirstFit opens occ from s → IsFirstFit opens occ (from + n * cycle) (s + n * cycle)
first_up opens cycle occ n from s r first =
    let after = first.after in
    record {
      after = omega (arith, after);
      fits = fits_up opens cycle occ n s r first.fits;
      least = λ v p q f.
          let w = v - n * cycle in
          let e : v ≡ w + n * cycle = omega (arith, p) in
          first.least w (omega (arith, p)) (omega (arith, p, q)) (fits_down opens cycle occ n w r (subst (Fits opens occ) e f));
    }

-- A bound stays a bound if it grows.
pub longer : (opens : ℕ → Bool) (occ work : ℕ) (curve : ℕ → ℕ) (b d u w : ℕ) → b ≤ d → IsSpanBound opens occ work curve b u w → IsSpanBound opens occ work curve d u w
longer opens occ work curve b d u w h (v, nth, end) = (v, nth, omega (arith, end, h))

-- What one step of a search does.
pub record IsPassed (c : LinearCurve) (limits : SpanLimits) (search next : SpanSearch) (run : FitRun) : Type 0 where
  pub from : next.from ≡ run.first + run.length
  pub rank : next.rank ≡ search.rank + run.length
  pub span : search.span ≤ next.span
  pub within : next.span ≤ limits.end
  pub bound : search.bound ≤ next.bound
  pub reached : next.span < limits.end → next.rank + limits.work ≤ curve_at c next.span
  pub most : next.span < limits.end → curve_at c next.span ≤ limits.work + next.rank + 4_000_000_000
  pub ends : (w : ℕ) → w < next.span → search.span ≤ w → curve_at c w < limits.work + search.rank + run.length
  pub delay : search.span < next.span → run.first + limits.shift + curve_at c search.span ≤ search.rank + limits.start + search.span + next.bound

module _ (opens : ℕ → Bool) (occ cycle cycles : ℕ) (c : LinearCurve) (limits : SpanLimits) (search next : SpanSearch) (run : FitRun) (repeats : IsPeriodic opens cycle) (some : HasFits opens occ) (line : IsLinearCurve c) (shift : limits.shift ≡ cycles * cycle) (before : search.span < limits.end) (is : IsSearched opens occ (curve_at c) limits search) (here : IsFitRun opens occ search.from run) (passed : IsPassed c limits search next run) where
  -- The run's first fit has the search's rank.
  rank_here : IsNthFit opens occ search.rank limits.start (run.first + limits.shift)
  rank_here = is.ranked run.first here.first

  fits_here : (i : ℕ) → i < run.length → Fits opens occ ((run.first + limits.shift) + i)
  fits_here i less =
      let same : (run.first + i) + cycles * cycle ≡ (run.first + limits.shift) + i = omega (arith, shift) in
      subst (Fits opens occ) same (fits_up opens cycle occ cycles (run.first + i) repeats (here.fits i less))

  rank_next : (v : ℕ) → IsFirstFit opens occ next.from v → IsNthFit opens occ next.rank limits.start (v + limits.shift)
  rank_next v first =
      let from = passed.from in
      let up = first_up opens cycle occ cycles next.from v repeats first in
      let start : next.from + cycles * cycle ≡ (run.first + limits.shift) + run.length = omega (arith, from, shift) in
      let end : v + cycles * cycle ≡ v + limits.shift = omega (arith, shift) in
      let moved = subst (λ (i : ℕ). IsFirstFit opens occ i (v + limits.shift)) start (subst (λ (i : ℕ). IsFirstFit opens occ (next.from + cycles * cycle) i) end up) in
      subst (λ (i : ℕ). IsNthFit opens occ i limits.start (v + limits.shift)) (sym passed.rank) (rank_after opens occ search.rank run.length limits.start (run.first + limits.shift) (v + limits.shift) rank_here fits_here here.some moved)

  -- The spans whose work ends in the run keep the bound.
  covered_here : (w : ℕ) → search.span ≤ w → w < next.span → IsSpanBound opens occ limits.work (curve_at c) next.bound limits.start w
  covered_here w after less =
      let reached = is.reached before in
      let ends = passed.ends w less after in
      let delay = passed.delay (omega (arith, after, less)) in
      let rise = rises c search.span w line.unit_some after in
      in_run opens occ limits.work (curve_at c) next.bound some limits.start search.span w search.rank run.length (run.first + limits.shift) rank_here fits_here after (omega (arith, reached)) (omega (arith, reached)) (slow c search.span w line after) rise (omega (arith, ends, reached, rise)) (omega (arith, delay, reached))

  pub search_goes_on : IsSearched opens occ (curve_at c) limits next
  search_goes_on =
      let from = passed.from in
      let rank = passed.rank in
      let begun = is.begun in
      let few = is.few in
      let after = here.first.after in
      let up = passed.span in
      let longest = is.longer in
      record {
        ranked = rank_next;
        covered = λ w p q. elim (cases_lt w search.span) [
          | inl l ↦ longer opens occ limits.work (curve_at c) search.bound next.bound limits.start w passed.bound (is.covered w p l)
          | inr l ↦ covered_here w l q
        ];
        begun = omega (arith, from, begun, after);
        longer = omega (arith, longest, up);
        within = passed.within;
        few = omega (arith, from, rank, few, after);
        reached = passed.reached;
        most = passed.most;
      }

-- The first fits of a search that skips whole cycles have the numbers of these cycles.
pub skipped_rank : (opens : ℕ → Bool) (occ cycle n m u v : ℕ) → HasFitsPerCycle opens occ cycle n → IsFirstFit opens occ u v → IsNthFit opens occ (m * n) u (v + m * cycle)
skipped_rank opens occ cycle n zero u v per first = subst (λ (i : ℕ). IsNthFit opens occ i u (v + zero * cycle)) (let e : zero ≡ zero * n = omega arith in e) (subst (λ (i : ℕ). IsNthFit opens occ zero u i) (let e : v ≡ v + zero * cycle = omega arith in e) first)
skipped_rank opens occ cycle n (suc m) u v per first =
    let before = skipped_rank opens occ cycle n m u v per first in
    let after = per (m * n) u (v + m * cycle) before in
    subst (λ (i : ℕ). IsNthFit opens occ i u (v + (suc m) * cycle)) (let e : m * n + n ≡ (suc m) * n = omega arith in e) (subst (λ (i : ℕ). IsNthFit opens occ (m * n + n) u i) (let e : (v + m * cycle) + cycle ≡ v + (suc m) * cycle = omega arith in e) after)
