-- Periodic open times: the times and spans of one cycle give a delay bound.
use Rattle.std.proofs.Common.{◌≡◌, ◌<◌, ◌≤◌, ◌+◌, ◌-◌, ◌*◌, ℕ, zero, suc, Bool, true, arith, refl, sym, subst, inl, inr, ◌∙◌}
use Rattle.std.proofs.lemmas.Bool.{cases_lt}
use Rattle.bridge_cycle.specs.Fits.{Fits, IsFirstFit, IsPeriodic}
use Rattle.bridge_port.proofs.Alone.{first_one}
use Rattle.bridge_groups.specs.Work.{HasFitsPerCycle, IsDelayBound, IsNthFit, IsSpanBound}
use Rattle.bridge_groups.proofs.Candidates.{in_next_cycle}
use Rattle.bridge_groups.proofs.NthFits.{HasFits, nth_behind, nth_fits, nth_once}

-- NTH FITS ONE AFTER THE OTHER

-- If `v` is a fit, fit `n` from the next fit is fit `n + 1` from `v`.
nth_next : (opens : ℕ → Bool) (occ n v x w : ℕ) → Fits opens occ v → IsFirstFit opens occ (v + 1) x → IsNthFit opens occ n x w → IsNthFit opens occ (suc n) v w
nth_next opens occ n v x w here first h =
    let at : IsFirstFit opens occ v v = record { after = omega arith; fits = here; least = λ y p q. absurd (omega (arith, p, q)) } in
    let one : IsNthFit opens occ 1 v x = (v, at, first) in
    subst (λ (i : ℕ). IsNthFit opens occ i v w) (let same : n + 1 ≡ suc n = omega arith in same) (nth_behind opens occ 1 n v x w one h)

module _ (opens : ℕ → Bool) (occ cycle : ℕ) (repeats : IsPeriodic opens cycle) where
  -- A CYCLE LATER

  pub fits_later : (u : ℕ) → Fits opens occ u → Fits opens occ (u + cycle)
  fits_later u h = λ v p q.
      let back : (v - cycle) + cycle ≡ v = omega (arith, p) in
      let open_then = h (v - cycle) (omega (arith, p)) (omega (arith, p, q)) in
      subst (λ (i : ℕ). opens i ≡ true) back (repeats (v - cycle) ∙ open_then)

  pub fits_before : (u : ℕ) → Fits opens occ (u + cycle) → Fits opens occ u
  fits_before u h = λ v p q. sym (repeats v) ∙ h (v + cycle) (omega (arith, p)) (omega (arith, q))

  pub first_later : (u v : ℕ) → IsFirstFit opens occ u v → IsFirstFit opens occ (u + cycle) (v + cycle)
  first_later u v h =
      let after = h.after in
      record {
        after = omega (arith, after);
        fits = fits_later v h.fits;
        least = λ w p q fit.
            let back : (w - cycle) + cycle ≡ w = omega (arith, p) in
            h.least (w - cycle) (omega (arith, p)) (omega (arith, p, q)) (fits_before (w - cycle) (subst (Fits opens occ) (sym back) fit));
      }

  pub nth_later : (k u v : ℕ) → IsNthFit opens occ k u v → IsNthFit opens occ k (u + cycle) (v + cycle)
  nth_later zero u v h = first_later u v h
  nth_later (suc k) u v (w, e, first) =
      let next : IsFirstFit opens occ ((w + cycle) + 1) (v + cycle) = subst (λ (i : ℕ). IsFirstFit opens occ i (v + cycle)) (let same : (w + 1) + cycle ≡ (w + cycle) + 1 = omega arith in same) (first_later (w + 1) v first) in
      (w + cycle, nth_later k u w e, next)

  -- AS MANY FITS IN EACH CYCLE

  -- If `n` fits lie between a fit and the fit one cycle later, this also holds from the next fit.
  next_has : (n v x : ℕ) → Fits opens occ v → IsNthFit opens occ n v (v + cycle) → IsFirstFit opens occ (v + 1) x → (z : ℕ) × IsNthFit opens occ n x z → IsNthFit opens occ n x (x + cycle)
  next_has n v x here h first (z, nth) =
      let more = nth_next opens occ n v x z here first nth in
      let again : IsFirstFit opens occ ((v + cycle) + 1) (x + cycle) = subst (λ (i : ℕ). IsFirstFit opens occ i (x + cycle)) (let same : (v + 1) + cycle ≡ (v + cycle) + 1 = omega arith in same) (first_later (v + 1) x first) in
      let there : IsNthFit opens occ (suc n) v (x + cycle) = (v + cycle, h, again) in
      let same = nth_once opens occ (suc n) v z (x + cycle) more there in
      subst (λ (i : ℕ). IsNthFit opens occ n x i) same nth

  module _ (some : HasFits opens occ) where
    nth_some : (n u : ℕ) → (z : ℕ) × IsNthFit opens occ n u z
    nth_some zero u = some u
    nth_some (suc n) u =
        let (w, e) = nth_some n u in
        let (z, first) = some (w + 1) in
        (z, (w, e, first))

    -- If `n` fits lie between a fit and the fit one cycle later, this holds from each later fit.
    each_has : (n k u v : ℕ) → Fits opens occ u → IsNthFit opens occ n u (u + cycle) → IsNthFit opens occ k u v → IsNthFit opens occ n v (v + cycle)
    each_has n zero u v here h at =
        let own : IsFirstFit opens occ u u = record { after = omega arith; fits = here; least = λ y p q. absurd (omega (arith, p, q)) } in
        let same = first_one opens occ u u v own at in
        subst (λ (i : ℕ). IsNthFit opens occ n i (i + cycle)) same h
    each_has n (suc k) u v here h (w, e, first) = next_has n w v (nth_fits opens occ k u w e) (each_has n k u w here h e) first (nth_some n v)

    -- Each fit at `u` or later has a number from `u`.
    reached : (d u v : ℕ) → Fits opens occ u → v ≡ u + d → Fits opens occ v → (k : ℕ) × IsNthFit opens occ k u v
    reached d u v here at fit = upto d d u v (omega arith) here at fit
      where
        upto : (most d u v : ℕ) → d ≤ most → Fits opens occ u → v ≡ u + d → Fits opens occ v → (k : ℕ) × IsNthFit opens occ k u v
        upto most zero u v le here at fit =
            let same : u ≡ v = omega (arith, at) in
            let own : IsFirstFit opens occ u u = record { after = omega arith; fits = here; least = λ y p q. absurd (omega (arith, p, q)) } in
            (0, subst (λ (i : ℕ). IsFirstFit opens occ u i) same own)
        upto zero (suc d) u v le here at fit = absurd (omega (arith, le))
        upto (suc most) (suc d) u v le here at fit =
            let (x, first) = some (u + 1) in
            let after = first.after in
            elim (cases_lt v x) [
              | inl l ↦ absurd (first.least v (omega (arith, at)) l fit)
              | inr l ↦
                  let (k, nth) = upto most (v - x) x v (omega (arith, le, at, after)) first.fits (omega (arith, l)) fit in
                  (suc k, nth_next opens occ k u x v here first nth)
            ]

    -- If `n` fits lie between one fit and the fit one cycle later, each cycle has `n` fits.
    pub has_fits_in : (n at : ℕ) → Fits opens occ at → IsNthFit opens occ n at (at + cycle) → 1 ≤ cycle → HasFitsPerCycle opens occ cycle n
    has_fits_in n at here h some_cycle k u v nth =
        let fit = nth_fits opens occ k u v nth in
        let (far, late, own) = much_later at v fit in
        let (j, reach) = reached (far - at) at far here (omega (arith, late)) own.0 in
        let again = each_has n j at far here h reach in
        let back = own.1 again in
        subst (λ (i : ℕ). IsNthFit opens occ i u (v + cycle)) (let same : n + k ≡ k + n = omega arith in same) (nth_behind opens occ k n u v (v + cycle) nth back)
      where
        -- If `n` fits lie in a cycle from a fit some cycles later, they lie in a cycle from this fit.
        back_from : (m v : ℕ) → Fits opens occ v → IsNthFit opens occ n (v + m * cycle) ((v + m * cycle) + cycle) → IsNthFit opens occ n v (v + cycle)
        back_from zero v fit h = subst (λ (i : ℕ). IsNthFit opens occ n i (i + cycle)) (let same : v + zero * cycle ≡ v = omega arith in same) h
        back_from (suc m) v fit h =
            let (z, nth) = nth_some n v in
            let later = nth_later n v z nth in
            let moved : IsNthFit opens occ n ((v + cycle) + m * cycle) (((v + cycle) + m * cycle) + cycle) = subst (λ (i : ℕ). IsNthFit opens occ n i (i + cycle)) (let same : v + (suc m) * cycle ≡ (v + cycle) + m * cycle = omega arith in same) h in
            let next = back_from m (v + cycle) (fits_later v fit) moved in
            let same = nth_once opens occ n (v + cycle) (z + cycle) ((v + cycle) + cycle) later next in
            subst (λ (i : ℕ). IsNthFit opens occ n v i) (let e : z ≡ v + cycle = omega (arith, same) in e) nth

        fits_much_later : (m v : ℕ) → Fits opens occ v → Fits opens occ (v + m * cycle)
        fits_much_later zero v fit = subst (Fits opens occ) (let same : v ≡ v + zero * cycle = omega arith in same) fit
        fits_much_later (suc m) v fit = subst (Fits opens occ) (let same : (v + m * cycle) + cycle ≡ v + (suc m) * cycle = omega arith in same) (fits_later (v + m * cycle) (fits_much_later m v fit))

        long_enough : (m at : ℕ) → m ≡ at → 1 ≤ cycle → at ≤ m * cycle
        long_enough zero at e h = omega (arith, e)
        long_enough (suc m) at e h = let rest = long_enough m m refl h in omega (arith, rest, e, h)

        much_later : (at v : ℕ) → Fits opens occ v → (far : ℕ) × (at ≤ far) × (Fits opens occ far × (IsNthFit opens occ n far (far + cycle) → IsNthFit opens occ n v (v + cycle)))
        much_later at v fit =
            let enough = long_enough at at refl some_cycle in
            (v + at * cycle, omega (arith, enough), (fits_much_later at v fit, back_from at v fit))

    -- ONE CYCLE IS ENOUGH

    module _ (least : ℕ) (curve : ℕ → ℕ) (b : ℕ) where
      moved : (u w : ℕ) → IsSpanBound opens occ least curve b u w → IsSpanBound opens occ least curve b (u + cycle) w
      moved u w (v, nth, end) = (v + cycle, nth_later (curve w - least) u v nth, omega (arith, end))

      -- A delay bound for the times and spans of one cycle holds for all.
      pub by_one_cycle : (n : ℕ) → 1 ≤ cycle → HasFitsPerCycle opens occ cycle n → ((w : ℕ) → least ≤ curve w) → ((w : ℕ) → curve (w + cycle) ≤ curve w + n) → ((u w : ℕ) → u < cycle → w < cycle → IsSpanBound opens occ least curve b u w) → IsDelayBound opens occ least curve b
      by_one_cycle n one fits low slow within = record { has_fit = some; in_time = λ u w enough. each_u (u + 1) u w (omega arith) }
        where
          each_w : (most u w : ℕ) → w < most → u < cycle → IsSpanBound opens occ least curve b u w
          each_w zero u w before early = absurd (omega (arith, before))
          each_w (suc most) u w before early = elim (cases_lt w cycle) [
            | inl l ↦ within u w early l
            | inr l ↦
                let x : ℕ = w - cycle in
                let back : x + cycle ≡ w = omega (arith, l) in
                let rest = each_w most u x (omega (arith, before, one, l)) early in
                subst (λ (i : ℕ). IsSpanBound opens occ least curve b u i) back (in_next_cycle opens occ least curve b some cycle n u x fits (low x) (slow x) rest)
          ]

          each_u : (most u w : ℕ) → u < most → IsSpanBound opens occ least curve b u w
          each_u zero u w before = absurd (omega (arith, before))
          each_u (suc most) u w before = elim (cases_lt u cycle) [
            | inl l ↦ each_w (w + 1) u w (omega arith) l
            | inr l ↦
                let x : ℕ = u - cycle in
                let back : x + cycle ≡ u = omega (arith, l) in
                subst (λ (i : ℕ). IsSpanBound opens occ least curve b i w) back (moved x w (each_u most x w (omega (arith, before, one, l))))
          ]
