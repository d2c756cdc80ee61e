-- Spans that begin at the ends of runs cover all spans.
use Rattle.std.proofs.Common.{◌≡◌, ◌<◌, ◌≤◌, ◌+◌, ◌-◌, ℕ, zero, suc, Bool, max, arith, subst, inl, inr, Option, None, Some, IfSome}
use Rattle.std.proofs.lemmas.Bool.{cases_lt}
use Rattle.bridge_cycle.specs.Fits.{Fits, IsPeriodic}
use Rattle.bridge_groups.specs.FitRuns.{IsFitRun}
use Rattle.bridge_groups.specs.SpanSearches.{AreAllSpansBounded, AreSpansBounded}
use Rattle.bridge_groups.specs.Work.{HasFitsPerCycle, IsDelayBound, IsSpanBound}
use Rattle.bridge_groups.specs.declared.fit_runs.FitRun.{FitRun}
use Rattle.bridge_groups.proofs.Candidates.{from_before, from_behind, in_next_cycle}
use Rattle.bridge_groups.proofs.Cycles.{nth_later}
use Rattle.bridge_groups.proofs.NthFits.{HasFits}
use Rattle.bridge_groups.proofs.SpanSearches.{longer}

-- The spans that begin up to time `covered` have bounded delays.
pub record AreStartsCovered (opens : ℕ → Bool) (occ work : ℕ) (curve : ℕ → ℕ) (shortest end covered b : ℕ) : Type 0 where
  pub before : (u : ℕ) → u < covered → AreSpansBounded opens occ work curve u shortest end b
  pub here : AreSpansBounded opens occ work curve covered shortest end b

module _ (opens : ℕ → Bool) (occ work : ℕ) (curve : ℕ → ℕ) (some : HasFits opens occ) where
  -- From a bounded time, all times up to the next fit are bounded.
  pub shut_upto : (b from d w : ℕ) → ((v : ℕ) → from ≤ v → v < from + d → ¬ Fits opens occ v) → IsSpanBound opens occ work curve b from w → IsSpanBound opens occ work curve b (from + d) w
  shut_upto b from zero w none h = subst (λ (i : ℕ). IsSpanBound opens occ work curve b i w) (let e : from ≡ from + zero = omega arith in e) h
  shut_upto b from (suc d) w none h =
      let before = shut_upto b from d w (λ v p q. none v p (omega (arith, q))) h in
      let next = from_before opens occ work curve b some (from + d) w (none (from + d) (omega arith) (omega arith)) before in
      subst (λ (i : ℕ). IsSpanBound opens occ work curve b i w) (let e : (from + d) + 1 ≡ from + suc d = omega arith in e) next

  -- Before a bounded time, all fits of a run up to it are bounded.
  pub fit_from : (b from d w : ℕ) → ((i : ℕ) → i < d → Fits opens occ (from + i)) → IsSpanBound opens occ work curve b (from + d) w → IsSpanBound opens occ work curve b from w
  fit_from b from zero w fits h = subst (λ (i : ℕ). IsSpanBound opens occ work curve b i w) (let e : from + zero ≡ from = omega arith in e) h
  fit_from b from (suc d) w fits h =
      let next : (from + 1) + d ≡ from + suc d = omega arith in
      let rest = fit_from b (from + 1) d w (λ i less. subst (Fits opens occ) (let e : from + suc i ≡ (from + 1) + i = omega arith in e) (fits (suc i) (omega (arith, less)))) (subst (λ (i : ℕ). IsSpanBound opens occ work curve b i w) (let e : from + suc d ≡ (from + 1) + d = omega arith in e) h) in
      let here = subst (Fits opens occ) (let e : from + 0 ≡ from = omega arith in e) (fits 0 (omega arith)) in
      from_behind opens occ work curve b some from w here rest

  -- One run more: the bounds from its end cover the times up to it.
  pub cover_run : (shortest end covered b d : ℕ) (run : FitRun) → AreStartsCovered opens occ work curve shortest end covered b → IsFitRun opens occ covered run → AreSpansBounded opens occ work curve (run.first + run.length) shortest end d → AreStartsCovered opens occ work curve shortest end (run.first + run.length) (max d b)
  cover_run shortest end covered b d run is here next = record {
    before = λ u less w p q. elim (cases_lt u covered) [
      | inl l ↦ longer opens occ work curve b (max d b) u w (omega arith) (is.before u l w p q)
      | inr l ↦ elim (cases_lt u run.first) [
        | inl m ↦
            let same : covered + (u - covered) ≡ u = omega (arith, l) in
            let bounded = shut_upto b covered (u - covered) w (λ v r s. here.first.least v r (omega (arith, s, l, m))) (is.here w p q) in
            longer opens occ work curve b (max d b) u w (omega arith) (subst (λ (i : ℕ). IsSpanBound opens occ work curve b i w) same bounded)
        | inr m ↦
            let same : run.first + run.length ≡ u + ((run.first + run.length) - u) = omega (arith, less) in
            let fits : (i : ℕ) → i < (run.first + run.length) - u → Fits opens occ (u + i) = λ i k. subst (Fits opens occ) (let e : run.first + ((u + i) - run.first) ≡ u + i = omega (arith, m) in e) (here.fits ((u + i) - run.first) (omega (arith, k, m, less))) in
            let bounded = fit_from d u ((run.first + run.length) - u) w fits (subst (λ (i : ℕ). IsSpanBound opens occ work curve d i w) same (next w p q)) in
            longer opens occ work curve d (max d b) u w (omega arith) bounded
      ]
    ];
    here = λ w p q. longer opens occ work curve d (max d b) (run.first + run.length) w (omega arith) (next w p q);
  }

  -- ONE CYCLE OF STARTS AND OF SPANS

  module _ (cycle n shortest b : ℕ) (repeats : IsPeriodic opens cycle) (one : 1 ≤ cycle) (fits : HasFitsPerCycle opens occ cycle n) (low : (w : ℕ) → shortest ≤ w → work ≤ curve w) (stable : (w : ℕ) → curve (w + cycle) ≤ curve w + n) (within : (u : ℕ) → u < cycle → AreSpansBounded opens occ work curve u shortest (shortest + cycle) b) where
    each_w : (most u w : ℕ) → w < most → u < cycle → shortest ≤ w → IsSpanBound opens occ work curve b u w
    each_w zero u w before early after = absurd (omega (arith, before))
    each_w (suc most) u w before early after = elim (cases_lt w (shortest + cycle)) [
      | inl l ↦ within u early w after l
      | inr l ↦
          let x : ℕ = w - cycle in
          let back : x + cycle ≡ w = omega (arith, l) in
          let late : shortest ≤ x = omega (arith, l) in
          let rest = each_w most u x (omega (arith, before, one, l)) early late in
          subst (λ (i : ℕ). IsSpanBound opens occ work curve b u i) back (in_next_cycle opens occ work curve b some cycle n u x fits (low x late) (stable x) rest)
    ]

    moved : (u w : ℕ) → IsSpanBound opens occ work curve b u w → IsSpanBound opens occ work curve b (u + cycle) w
    moved u w (v, nth, end) = (v + cycle, nth_later opens occ cycle repeats (curve w - work) u v nth, omega (arith, end))

    each_u : (most u w : ℕ) → u < most → shortest ≤ w → IsSpanBound opens occ work curve b u w
    each_u zero u w before after = absurd (omega (arith, before))
    each_u (suc most) u w before after = elim (cases_lt u cycle) [
      | inl l ↦ each_w (w + 1) u w (omega arith) l after
      | inr l ↦
          let x : ℕ = u - cycle in
          let back : x + cycle ≡ u = omega (arith, l) in
          subst (λ (i : ℕ). IsSpanBound opens occ work curve b i w) back (moved x w (each_u most x w (omega (arith, before, one, l)) after))
    ]

    -- Bounds of the spans of one cycle that begin in one cycle hold for all spans.
    pub all_spans : AreAllSpansBounded opens occ work curve shortest b
    all_spans u w after = each_u (u + 1) u w (omega arith) after

-- Bounds of all spans are a delay bound.
pub delay_bound_by : (opens : ℕ → Bool) (occ least : ℕ) (curve : ℕ → ℕ) (r : Option ℕ) → HasFits opens occ → IfSome r (AreAllSpansBounded opens occ least curve 0) → IfSome r (IsDelayBound opens occ least curve)
delay_bound_by opens occ least curve None some h = h
delay_bound_by opens occ least curve (Some b) some h = record { has_fit = some; in_time = λ u w low. h u w (omega arith) }
