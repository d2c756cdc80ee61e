-- Runs of fits that start with a fit of the longest frame.
use Rattle.std.proofs.Common.{◌≡◌, ℕ, zero, suc, Bool, true, ◌<◌, ◌≤◌, ◌+◌, ◌-◌, arith, sym, subst, inl, inr}
use Rattle.std.proofs.lemmas.Bool.{cases_lt}
use Rattle.bridge_cycle.specs.Cyclic.{Cyclic, IsLawful}
use Rattle.bridge_cycle.specs.Fits.{Fits, IsPeriodic}
use Rattle.bridge_port.specs.GateSchedule.{list_can_fit}
use Rattle.bridge_port.proofs.Opening.{list_ever_is}
use Rattle.bridge_groups.specs.CostCurves.{HasLongStarts}
use Rattle.bridge_groups.specs.FitRuns.{IsFitRun}
use Rattle.bridge_groups.specs.declared.fit_runs.FitRun.{FitRun}
use Rattle.bridge_groups.proofs.Cycles.{fits_before, fits_later}

-- A shorter transmission can fit too.
pub shorter_can_fit : (l : Cyclic ℕ) (c fit long : ℕ) → IsLawful l → fit ≤ long → list_can_fit l c long ≡ true → list_can_fit l c fit ≡ true
shorter_can_fit l c fit long lawful short can =
    let (t, fits) = (list_ever_is l c long lawful).0 can in
    (list_ever_is l c fit lawful).1 (t, λ u p q. fits u p (omega (arith, q, short)))

module _ (opens : ℕ → Bool) (fit long : ℕ) where
  -- Holds if a run of fits that starts at `v + 1` starts with a fit of `long` ns.
  abbrev pub StartsLong : ℕ → Type 0
  StartsLong v = ¬ Fits opens fit v → Fits opens fit (v + 1) → Fits opens long (v + 1)

  -- Holds if each run that starts after `from` and at most at `upto` starts with a fit of `long` ns.
  abbrev pub StartLongBetween : ℕ → ℕ → Type 0
  StartLongBetween from upto = (v : ℕ) → from ≤ v → v < upto → StartsLong v

  whole_run : (covered : ℕ) (run : FitRun) → 1 ≤ fit → long < run.length + fit → IsFitRun opens fit covered run → Fits opens long run.first
  whole_run covered run some enough is t p q =
      let many = is.some in
      elim (cases_lt (t - run.first) run.length) [
        | inl l ↦ is.fits (t - run.first) l t (omega (arith, p)) (omega (arith, p, some))
        | inr l ↦ is.fits (run.length - 1) (omega (arith, many)) t (omega (arith, l, p, many)) (omega (arith, q, enough, many))
      ]

  -- One run more, which is long enough.
  pub one_run_more : (from covered : ℕ) (run : FitRun) → 1 ≤ fit → long < run.length + fit → IsFitRun opens fit covered run → StartLongBetween from covered → StartLongBetween from (run.first + run.length)
  one_run_more from covered run some enough is before v after early shut opened = elim (cases_lt v covered) [
    | inl l ↦ before v after l shut opened
    | inr l ↦ elim (cases_lt (v + 1) run.first) [
      | inl m ↦ absurd (is.first.least (v + 1) (omega (arith, l)) m opened)
      | inr m ↦ elim (cases_lt v run.first) [
        | inl k ↦ let same : run.first ≡ v + 1 = omega (arith, m, k) in subst (Fits opens long) same (whole_run covered run some enough is)
        | inr k ↦ absurd (shut (subst (Fits opens fit) (let e : run.first + (v - run.first) ≡ v = omega (arith, k) in e) (is.fits (v - run.first) (omega (arith, early, k)))))
      ]
    ]
  ]

  module _ (cycle : ℕ) (repeats : IsPeriodic opens cycle) where
    later : (v : ℕ) → StartsLong v → StartsLong (v + cycle)
    later v is shut opened =
        let same : (v + cycle) + 1 ≡ (v + 1) + cycle = omega arith in
        let fits = is (λ h. shut (fits_later opens fit cycle repeats v h)) (fits_before opens fit cycle repeats (v + 1) (subst (Fits opens fit) same opened)) in
        subst (Fits opens long) (sym same) (fits_later opens long cycle repeats (v + 1) fits)

    earlier : (v : ℕ) → StartsLong (v + cycle) → StartsLong v
    earlier v is shut opened =
        let same : (v + cycle) + 1 ≡ (v + 1) + cycle = omega arith in
        let fits = is (λ h. shut (fits_before opens fit cycle repeats v h)) (subst (Fits opens fit) (sym same) (fits_later opens fit cycle repeats (v + 1) opened)) in
        fits_before opens long cycle repeats (v + 1) (subst (Fits opens long) same fits)

    after_start : (from upto most v : ℕ) → 1 ≤ cycle → from + cycle ≤ upto → StartLongBetween from upto → v < most → from ≤ v → StartsLong v
    after_start from upto zero v one reach is before after = absurd (omega (arith, before))
    after_start from upto (suc most) v one reach is before after = elim (cases_lt v upto) [
      | inl l ↦ is v after l
      | inr l ↦
          let back : (v - cycle) + cycle ≡ v = omega (arith, l, reach) in
          subst StartsLong back (later (v - cycle) (after_start from upto most (v - cycle) one reach is (omega (arith, before, one, l, reach)) (omega (arith, l, reach))))
    ]

    -- If the runs of one cycle start with a fit of `long` ns, all runs do.
    pub all_start_long : (from upto : ℕ) → 1 ≤ cycle → from < cycle → from + cycle ≤ upto → StartLongBetween from upto → HasLongStarts opens fit long
    all_start_long from upto one early reach is v = earlier v (after_start from upto ((v + cycle) + 1) (v + cycle) one reach is (omega arith) (omega (arith, early)))
