-- Times by which waiting work has left, for all times of an interval.
use Rattle.std.proofs.Common.{◌≡◌, ◌<◌, ◌≤◌, ◌+◌, ◌-◌, ℕ, Bool, max, arith, sym, subst, inl, inr}
use Rattle.std.proofs.lemmas.Bool.{cases_lt}
use Rattle.bridge_cycle.specs.Fits.{Fits}
use Rattle.bridge_groups.specs.FitRuns.{IsFitRun}
use Rattle.bridge_groups.specs.IntervalWork.{LeavesBy}
use Rattle.bridge_groups.specs.Work.{IsNthFit, IsSpanBound}
use Rattle.bridge_groups.specs.declared.fit_runs.FitRun.{FitRun}
use Rattle.bridge_groups.proofs.Intervals.{nth_rises}
use Rattle.bridge_groups.proofs.NthFits.{HasFits, nth_some}
use Rattle.bridge_groups.proofs.SpanCovers.{fit_from, shut_upto}

module _ (opens : ℕ → Bool) (occ least work : ℕ) (some : HasFits opens occ) where
  -- Work that has left by a time has left by each later time.
  pub leaves_later : (from end later : ℕ) → end ≤ later → LeavesBy opens occ least work from end → LeavesBy opens occ least work from later
  leaves_later from end later h (v, nth, by) = (v, nth, omega (arith, by, h))

  -- The delay of work is that of a span of 0 ns.
  as_span : (b t : ℕ) → LeavesBy opens occ least work t (t + b) → IsSpanBound opens occ least (λ _. work) b t 0
  as_span b t (v, nth, by) = (v, nth, omega (arith, by))

  of_span : (b t : ℕ) → IsSpanBound opens occ least (λ _. work) b t 0 → LeavesBy opens occ least work t (t + b)
  of_span b t (v, nth, by) = (v, nth, omega (arith, by))

  -- Delays at two times around the start of a run bound the delays between them.
  pub delays_between : (b d seen next t : ℕ) (run : FitRun) → IsFitRun opens occ seen run → next ≤ run.first + run.length → LeavesBy opens occ least work seen (seen + b) → LeavesBy opens occ least work next (next + d) → seen ≤ t → t ≤ next → LeavesBy opens occ least work t (t + max d b)
  delays_between b d seen next t run is within here there after before = elim (cases_lt t run.first) [
    | inl m ↦
        let same : seen + (t - seen) ≡ t = omega (arith, after) in
        let bounded = shut_upto opens occ least (λ _. work) some b seen (t - seen) 0 (λ v r s. is.first.least v r (omega (arith, s, after, m))) (as_span b seen here) in
        leaves_later t (t + b) (t + max d b) (omega arith) (of_span b t (subst (λ (i : ℕ). IsSpanBound opens occ least (λ _. work) b i 0) same bounded))
    | inr m ↦
        let same : t + (next - t) ≡ next = omega (arith, before) in
        let fits : (i : ℕ) → i < next - t → Fits opens occ (t + i) = λ i k. subst (Fits opens occ) (let e : run.first + ((t + i) - run.first) ≡ t + i = omega (arith, m) in e) (is.fits ((t + i) - run.first) (omega (arith, k, m, within, before))) in
        let bounded = fit_from opens occ least (λ _. work) some d t (next - t) 0 fits (subst (λ (i : ℕ). IsSpanBound opens occ least (λ _. work) d i 0) (sym same) (as_span d next there)) in
        leaves_later t (t + d) (t + max d b) (omega arith) (of_span d t bounded)
  ]

  -- Holds if work that arrives from `first` up to `seen` leaves within `b` ns, if earlier work has left by `clear`.
  abbrev pub AreDelaysBounded : ℕ → ℕ → ℕ → ℕ → Type 0
  AreDelaysBounded clear first seen b = (t : ℕ) → first ≤ t → t ≤ seen → LeavesBy opens occ least work (max clear t) (t + b)

  -- Up to the time from which all work waits, the first arrival has the longest delay.
  pub first_delays : (clear first end : ℕ) → LeavesBy opens occ least work (max first clear) end → AreDelaysBounded clear first (max first clear) (end - first)
  first_delays clear first end (v, nth, by) t p q =
      let same : max first clear ≡ max clear t = omega (arith, p, q) in
      (v, subst (λ (i : ℕ). IsNthFit opens occ (work - least) i v) same nth, omega (arith, by, p))

  -- One run more bounds the delays up to a time in this run.
  pub more_delays : (clear first seen next b d : ℕ) (run : FitRun) → clear ≤ seen → first ≤ seen → AreDelaysBounded clear first seen b → IsFitRun opens occ seen run → next ≤ run.first + run.length → LeavesBy opens occ least work next (next + d) → AreDelaysBounded clear first next (max d b)
  more_delays clear first seen next b d run cleared begun before is within there t p q = elim (cases_lt seen t) [
    | inl l ↦
        let here = before seen begun (omega arith) in
        let at : max clear seen ≡ seen = omega (arith, cleared) in
        let same : t ≡ max clear t = omega (arith, cleared, l) in
        let between = delays_between b d seen next t run is within (subst (λ (i : ℕ). LeavesBy opens occ least work i (seen + b)) at here) there (omega (arith, l)) q in
        subst (λ (i : ℕ). LeavesBy opens occ least work i (t + max d b)) same between
    | inr l ↦ leaves_later (max clear t) (t + b) (t + max d b) (omega arith) (before t p l)
  ]

  -- Work that waits from an earlier time leaves no later.
  pub leaves_from_earlier : (from later end : ℕ) → from ≤ later → LeavesBy opens occ least work later end → LeavesBy opens occ least work from end
  leaves_from_earlier from later end h (v, nth, by) =
      let (w, early) = nth_some opens occ (work - least) from some in
      let rises = nth_rises opens occ (work - least) from later w v h early nth in
      (w, early, omega (arith, rises, by))
