-- Delays of copies in a queue during a schedule change.
use Rattle.std.proofs.Common.{◌≡◌, ◌<◌, ◌≤◌, ◌+◌, ◌-◌, ◌⊎◌, ℕ, zero, suc, Bool, max, List, [], ◌∷◌, arith, refl, sym, subst, inl, inr, ◌∙◌}
use Rattle.std.proofs.lemmas.Bool.{cases_lt}
use Rattle.bridge_cycle.specs.Fits.{Fits, IsFirstFit}
use Rattle.bridge_port.specs.Schedule.{AreOffersInOrder, Copy, Fate, Full, Never, PortRules, Queued, Started}
use Rattle.bridge_port.specs.Solo.{IsSolo, IsSoloFate, done_time_or, last_done_time}
use Rattle.bridge_groups.specs.Work.{HaveBoundedTimes, IsDelayBound, IsNthFit, HasWorkCurve, recent_cost}
use Rattle.bridge_groups.proofs.Chain.{all_plain, chained, paid_plain, starts, work_more, work_upto}
use Rattle.bridge_groups.proofs.NthFits.{HasFits, first_before, nth_apart, nth_fits, nth_more}

module _ {X : Type 0} (r : PortRules X) (curve : ℕ → ℕ) (c occ least b1 b2 at : ℕ) (old new : ℕ → Bool)
    (before : (u : ℕ) → u < at → r.opens c u ≡ old u) (behind : (u : ℕ) → at ≤ u → r.opens c u ≡ new u)
    (some : HasFits (r.opens c) occ) (first : IsDelayBound old occ least curve b1) (then_on : IsDelayBound new occ least (λ w. curve (w + (b1 + occ))) b2) (rises : (v w : ℕ) → v ≤ w → curve v ≤ curve w) where
  -- THE LISTS

  fits_old : (v : ℕ) → v + occ ≤ at → Fits (r.opens c) occ v → Fits old occ v
  fits_old v h fit = λ u p q. sym (before u (omega (arith, q, h))) ∙ fit u p q

  old_fits : (v : ℕ) → v + occ ≤ at → Fits old occ v → Fits (r.opens c) occ v
  old_fits v h fit = λ u p q. before u (omega (arith, q, h)) ∙ fit u p q

  new_fits : (v own : ℕ) → at ≤ v → own ≤ occ → Fits new occ v → Fits (r.opens c) own v
  new_fits v own h short fit = λ u p q. behind u (omega (arith, p, h)) ∙ fit u p (omega (arith, q, short))

  -- A fit of the old list that ends by the change is a fit of the joined lists.
  nth_old : (k u v : ℕ) → v + occ ≤ at → IsNthFit old occ k u v → IsNthFit (r.opens c) occ k u v
  nth_old zero u v h is = record { after = is.after; fits = old_fits v h is.fits; least = λ w p q fit. is.least w p q (fits_old w (omega (arith, q, h)) fit) }
  nth_old (suc k) u v h (w, e, is) =
      let after = is.after in
      (w, nth_old k u w (omega (arith, after, h)) e, record { after = is.after; fits = old_fits v h is.fits; least = λ x p q fit. is.least x p q (fits_old x (omega (arith, q, h)) fit) })

  -- COPIES LONG BEFORE THE CHANGE

  -- A copy that arrived long before the change leaves within the old list's bound.
  done_before : (s : ℕ) (x : Copy X) (xs : List (Copy X)) → x.at + (b1 + occ) ≤ at → IsSolo r xs → AreOffersInOrder x.at xs → HaveBoundedTimes r c least occ (x ∷ xs) → HasWorkCurve r curve (x ∷ xs) → IsSoloFate r x xs (Started s) → s + r.occ x.item ≤ x.at + b1
  done_before s x xs early solo order between keeps fate =
      let (class, low, short) = between x (inl refl) in
      let ends = chained r r.occ c least occ x.at xs some solo (all_plain r c least occ xs (λ y i. between y (inr i))) order in
      let (u, k, v, is) = starts r r.occ c least occ s x xs some class (paid_plain (r.opens c) occ least (r.occ x.item) low short) fate.2 ends in
      let since = is.since in
      let taken = is.taken in
      let started = is.early in
      let w : ℕ = x.at - u in
      let moment : x.at ≡ u + w = omega (arith, since) in
      let upto = keeps.0 u w moment in
      let (z, nth, end) = first.in_time u w (omega (arith, low, taken, upto)) in
      let own = nth_old (curve w - least) u z (omega (arith, end, moment, early)) nth in
      let apart = nth_apart (r.opens c) occ k (curve w - least) u v z some (omega (arith, low, taken, upto)) is.nth own in
      omega (arith, started, taken, upto, apart, end, moment, low)

  -- COPIES ABOUT THE CHANGE AND BEHIND IT

  -- Holds if a busy series of copies goes on under the new list. It began at the change, with work that arrived
  -- shortly before, or later.
  record IsLaterSeries (u from k v own work t : ℕ) : Type 0 where
    later : at ≤ u
    start : (from ≡ u) ⊎ ((u ≡ at) × (from ≡ at - (b1 + occ)))
    since : from ≤ t
    nth : IsNthFit new occ k u v
    taken : k + own ≤ work

  abbrev IsDoneOrBusy : ℕ → (ℕ → ℕ) → ℕ → Type 0
  IsDoneOrBusy t work done = (done ≤ max at t) ⊎ ((u from k v own : ℕ) × IsLaterSeries u from k v own (work from) t × (done ≤ v + own))

  -- Holds if the busy series ends with a copy that started at `s`.
  abbrev IsSeriesStart : Copy X → List (Copy X) → ℕ → Type 0
  IsSeriesStart x xs s = (s + r.occ x.item ≤ x.at + b1) × (x.at + (b1 + occ) ≤ at) ⊎ ((u from k v : ℕ) × IsLaterSeries u from k v (r.occ x.item) (recent_cost r.occ from (x ∷ xs)) x.at × (s ≤ v) × (at < x.at + (b1 + occ)))

  begins_new : (s : ℕ) (x : Copy X) (xs : List (Copy X)) → last_done_time r xs ≤ max at x.at → at < x.at + (b1 + occ) → r.occ x.item ≤ occ → IsFirstFit (r.opens c) (r.occ x.item) (max x.at (last_done_time r xs)) s
      → (u from k v : ℕ) × IsLaterSeries u from k v (r.occ x.item) (recent_cost r.occ from (x ∷ xs)) x.at × (s ≤ v) × (at < x.at + (b1 + occ))
  begins_new s x xs h near short is = elim (cases_lt x.at at) [
    | inl l ↦
        let (f, fit) = then_on.has_fit at in
        let after = fit.after in
        let early = first_before (r.opens c) (r.occ x.item) (r.occ x.item) (max x.at (last_done_time r xs)) s f (omega arith) (omega (arith, h, l, after)) (new_fits f (r.occ x.item) after short fit.fits) is in
        let more = work_more r.occ (at - (b1 + occ)) x xs (omega (arith, near)) in
        (at, at - (b1 + occ), 0, f, record { later = omega arith; start = inr (refl, refl); since = omega (arith, near); nth = fit; taken = omega (arith, more) }, early, near)
    | inr l ↦
        let (f, fit) = then_on.has_fit x.at in
        let after = fit.after in
        let early = first_before (r.opens c) (r.occ x.item) (r.occ x.item) (max x.at (last_done_time r xs)) s f (omega arith) (omega (arith, h, l, after)) (new_fits f (r.occ x.item) (omega (arith, l, after)) short fit.fits) is in
        let more = work_more r.occ x.at x xs (omega arith) in
        (x.at, x.at, 0, f, record { later = l; start = inl refl; since = omega arith; nth = fit; taken = omega (arith, more) }, early, near)
  ]

  begins_next : (s u from k v own : ℕ) (x : Copy X) (xs : List (Copy X)) → IsLaterSeries u from k v own (recent_cost r.occ from xs) x.at → last_done_time r xs ≤ v + own → max at x.at ≤ last_done_time r xs → at < x.at + (b1 + occ) → r.occ x.item ≤ occ → IsFirstFit (r.opens c) (r.occ x.item) (max x.at (last_done_time r xs)) s
      → (u from k v : ℕ) × IsLaterSeries u from k v (r.occ x.item) (recent_cost r.occ from (x ∷ xs)) x.at × (s ≤ v) × (at < x.at + (b1 + occ))
  begins_next s u from k v own x xs is ends h near short fit =
      let (w, nth, upto) = nth_more new occ k own u v then_on.has_fit is.nth in
      let taken = is.taken in
      let since = is.since in
      let early = first_before (r.opens c) (r.occ x.item) (r.occ x.item) (max x.at (last_done_time r xs)) s w (omega arith) (omega (arith, h, ends, upto)) (new_fits w (r.occ x.item) (omega (arith, h, ends, upto)) short (nth_fits new occ (own + k) u w nth)) fit in
      let more = work_more r.occ from x xs since in
      (u, from, own + k, w, record { later = is.later; start = is.start; since = since; nth = nth; taken = omega (arith, more, taken) }, early, near)

  begins : (s : ℕ) (x : Copy X) (xs : List (Copy X)) → IsSolo r xs → AreOffersInOrder x.at xs → HaveBoundedTimes r c least occ (x ∷ xs) → HasWorkCurve r curve (x ∷ xs) → IsSoloFate r x xs (Started s) → IsDoneOrBusy x.at (λ u. recent_cost r.occ u xs) (last_done_time r xs) → IsSeriesStart x xs s
  begins s x xs solo order between keeps fate late =
      let (class, low, short) = between x (inl refl) in
      let own : IsFirstFit (r.opens c) (r.occ x.item) (max x.at (last_done_time r xs)) s = subst (λ (i : ℕ). IsFirstFit (r.opens i) (r.occ x.item) (max x.at (last_done_time r xs)) s) class fate.2 in
      elim (cases_lt at (x.at + (b1 + occ))) [
        | inr early ↦ inl (done_before s x xs early solo order between keeps fate, early)
        | inl near ↦ elim late [
          | inl h ↦ inr (begins_new s x xs h near short own)
          | inr run ↦ elim (cases_lt (max at x.at) (last_done_time r xs)) [
            | inl l ↦ inr (begins_next s run.0 run.1 run.2 run.3 run.4 x xs run.5 run.6 (omega (arith, l)) near short own)
            | inr l ↦ inr (begins_new s x xs l near short own)
          ]
        ]
      ]

  later_late : (t more done : ℕ) (work greater : ℕ → ℕ) → t ≤ more → ((u : ℕ) → work u ≤ greater u) → IsDoneOrBusy t work done → IsDoneOrBusy more greater done
  later_late t more done work greater h upto (inl l) = inl (omega (arith, h, l))
  later_late t more done work greater h upto (inr (u, from, k, v, own, is, ends)) =
      let since = is.since in
      let taken = is.taken in
      let all = upto from in
      inr (u, from, k, v, own, record { later = is.later; start = is.start; since = omega (arith, since, h); nth = is.nth; taken = omega (arith, taken, all) }, ends)

  late_with : (x : Copy X) (xs : List (Copy X)) (f : Fate) → IsSolo r xs → AreOffersInOrder x.at xs → HaveBoundedTimes r c least occ (x ∷ xs) → HasWorkCurve r curve (x ∷ xs) → IsSoloFate r x xs f → IsDoneOrBusy x.at (λ u. recent_cost r.occ u xs) (last_done_time r xs) → IsDoneOrBusy x.at (λ u. recent_cost r.occ u (x ∷ xs)) (done_time_or f (r.occ x.item) (last_done_time r xs))
  late_with x xs Never solo order between keeps fate late = later_late x.at x.at (last_done_time r xs) (λ u. recent_cost r.occ u xs) (λ u. recent_cost r.occ u (x ∷ xs)) (omega arith) (λ u. work_upto r.occ u x xs) late
  late_with x xs Full solo order between keeps fate late = later_late x.at x.at (last_done_time r xs) (λ u. recent_cost r.occ u xs) (λ u. recent_cost r.occ u (x ∷ xs)) (omega arith) (λ u. work_upto r.occ u x xs) late
  late_with x xs Queued solo order between keeps fate late = absurd fate
  late_with x xs (Started s) solo order between keeps fate late = elim (begins s x xs solo order between keeps fate late) [
    | inl done ↦ let early = done.0 in let far = done.1 in inl (omega (arith, early, far))
    | inr run ↦ let early = run.5 in inr (run.0, run.1, run.2, run.3, r.occ x.item, run.4, omega (arith, early))
  ]

  all_late : (t : ℕ) (xs : List (Copy X)) → IsSolo r xs → AreOffersInOrder t xs → HaveBoundedTimes r c least occ xs → HasWorkCurve r curve xs → IsDoneOrBusy t (λ u. recent_cost r.occ u xs) (last_done_time r xs)
  all_late t [] solo order between keeps = inl (omega arith)
  all_late t (x ∷ xs) solo order between keeps =
      later_late x.at t (last_done_time r (x ∷ xs)) (λ u. recent_cost r.occ u (x ∷ xs)) (λ u. recent_cost r.occ u (x ∷ xs)) order.0 (λ u. omega arith)
      (late_with x xs x.fate solo.1 order.1 between keeps solo.0 (all_late x.at xs solo.1 order.1 (λ y i. between y (inr i)) keeps.1))

  -- A copy of a busy series that starts leaves in time.
  run_done : (s u from k v : ℕ) (x : Copy X) (xs : List (Copy X)) → least ≤ r.occ x.item → HasWorkCurve r curve (x ∷ xs) → IsLaterSeries u from k v (r.occ x.item) (recent_cost r.occ from (x ∷ xs)) x.at → s ≤ v → at < x.at + (b1 + occ) → s + r.occ x.item ≤ x.at + ((b1 + occ) + b2)
  run_done s u from k v x xs low keeps is early near = elim is.start [
    | inl same ↦
        let since = is.since in
        let taken = is.taken in
        let w : ℕ = x.at - u in
        let moment : x.at ≡ from + w = omega (arith, since, same) in
        let upto = keeps.0 from w moment in
        let more = rises w (w + (b1 + occ)) (omega arith) in
        let (z, nth, end) = then_on.in_time u w (omega (arith, low, taken, upto, more)) in
        let apart = nth_apart new occ k (curve (w + (b1 + occ)) - least) u v z then_on.has_fit (omega (arith, low, taken, upto, more)) is.nth nth in
        omega (arith, early, taken, upto, more, apart, end, moment, same, low)
    | inr about ↦
        let start = about.0 in
        let shortly = about.1 in
        let since = is.since in
        let taken = is.taken in
        let v0 : ℕ = x.at - from in
        let w : ℕ = x.at - at in
        let moment : x.at ≡ from + v0 = omega (arith, since) in
        let upto = keeps.0 from v0 moment in
        let more = rises v0 (w + (b1 + occ)) (omega (arith, moment, shortly)) in
        let (z, nth, end) = then_on.in_time u w (omega (arith, low, taken, upto, more)) in
        let apart = nth_apart new occ k (curve (w + (b1 + occ)) - least) u v z then_on.has_fit (omega (arith, low, taken, upto, more)) is.nth nth in
        omega (arith, early, taken, upto, more, apart, end, start, low, near)
  ]

  pub exchanged : (s : ℕ) (x : Copy X) (xs : List (Copy X)) → IsSolo r (x ∷ xs) → AreOffersInOrder x.at xs → HaveBoundedTimes r c least occ (x ∷ xs) → HasWorkCurve r curve (x ∷ xs) → x.fate ≡ Started s → s + r.occ x.item ≤ x.at + ((b1 + occ) + b2)
  exchanged s x xs solo order between keeps started =
      let (class, low, short) = between x (inl refl) in
      let fate : IsSoloFate r x xs (Started s) = subst (IsSoloFate r x xs) started solo.0 in
      let late = all_late x.at xs solo.1 order (λ y i. between y (inr i)) keeps.1 in
      elim (begins s x xs solo.1 order between keeps fate late) [
        | inl done ↦ let early = done.0 in omega (arith, early)
        | inr run ↦ run_done s run.0 run.1 run.2 run.3 x xs low keeps run.4 run.5 run.6
      ]
