-- Delays of copies whose work arrives in intervals.
use Rattle.std.proofs.Common.{◌≡◌, ◌≤◌, ◌+◌, ◌-◌, ◌⊎◌, ℕ, zero, suc, Bool, true, max, List, [], ◌∷◌, arith, refl, subst, inl, inr}
use Rattle.std.proofs.lemmas.Bool.{cases_lt}
use Rattle.bridge_cycle.specs.Fits.{IsFirstFit}
use Rattle.bridge_port.specs.Schedule.{AreOffersInOrder, Copy, Fate, Full, Never, PortRules, Queued, Started}
use Rattle.bridge_port.specs.Solo.{IsSolo, IsSoloFate, done_time_or, last_done_time}
use Rattle.bridge_groups.specs.Work.{HaveBoundedTimes, IsNthFit, recent_work}
use Rattle.bridge_groups.specs.IntervalWork.{AreIntervals, HasIntervalWork, IsIntervalBound, LeavesBy}
use Rattle.bridge_groups.proofs.Chain.{work_more, work_upto}
use Rattle.bridge_groups.proofs.NthFits.{HasFits, first_before, nth_apart, nth_fits, nth_more, nth_some}

-- A fit with the same number from a later time is no earlier.
pub nth_rises : (opens : ℕ → Bool) (occ k u from v w : ℕ) → u ≤ from → IsNthFit opens occ k u v → IsNthFit opens occ k from w → v ≤ w
nth_rises opens occ zero u from v w h a b = let after = b.after in first_before opens occ occ u v w (omega arith) (omega (arith, h, after)) b.fits a
nth_rises opens occ (suc k) u from v w h (x, e, first) (y, f, other) =
    let before = nth_rises opens occ k u from x y h e f in
    let after = other.after in
    first_before opens occ occ (x + 1) v w (omega arith) (omega (arith, before, after)) other.fits first

-- Holds if a busy series lasts: its last copy takes `own` ns and starts by fit `k` from `u`. The interval's copies take at least `k + own` ns.
pub record IsIntervalSeries (opens : ℕ → Bool) (occ least limit latest u k v own work done : ℕ) : Type 0 where
  pub upto : u ≤ latest
  pub nth : IsNthFit opens occ k u v
  pub taken : k + own ≤ work
  pub within : work ≤ limit
  pub some : least ≤ own
  pub ends : done ≤ v + own

-- Holds if the transmissions ended by `latest`, or a busy series of the interval lasts.
abbrev pub IsClearOrBusy : (ℕ → Bool) → ℕ → ℕ → ℕ → ℕ → ℕ → ℕ → Type 0
IsClearOrBusy opens occ least limit latest work done = (done ≤ latest) ⊎ ((u k v own : ℕ) × IsIntervalSeries opens occ least limit latest u k v own work done)

-- Work that waits from an earlier time leaves no later.
pub series_ends : (opens : ℕ → Bool) (occ least limit latest u k v own work done end : ℕ) → HasFits opens occ → IsIntervalSeries opens occ least limit latest u k v own work done → LeavesBy opens occ least limit latest end → v + own ≤ end
series_ends opens occ least limit latest u k v own work done end some is (z, far, by) =
    let upto = is.upto in
    let taken = is.taken in
    let within = is.within in
    let low = is.some in
    let (x, nth) = nth_some opens occ k latest some in
    let rises = nth_rises opens occ k u latest v x upto is.nth nth in
    let apart = nth_apart opens occ k (limit - least) latest x z some (omega (arith, taken, within, low)) nth far in
    omega (arith, rises, apart, by, taken, within, low)

module _ {X : Type 0} (r : PortRules X) (lets : ℕ → Bool) (begin limit : ℕ → ℕ) (c occ least b : ℕ) (are : AreIntervals begin) (is : IsIntervalBound (r.opens c) lets occ least begin limit b) where
  -- The latest time from which work of the interval of `t` waits, if it arrives by `t`.
  abbrev latest : ℕ → ℕ
  latest t = max (is.clear (begin t)) t

  abbrev State : List (Copy X) → ℕ → ℕ → Type 0
  State xs t done = IsClearOrBusy (r.opens c) occ least (limit (begin t)) (latest t) (recent_work r (begin t) xs) done

  -- The state holds at a later time.
  moved : (xs : List (Copy X)) (h t done : ℕ) → h ≤ t → lets h ≡ true → State xs h done → State xs t done
  moved xs h t done order opened before = elim (cases_lt h (begin t)) [
    | inl l ↦
        let rises = is.rises h t order in
        let start = are.before t in
        elim before [
          | inl clear ↦ let first = are.before h in inl (omega (arith, clear, rises, l, start, order))
          | inr (u, k, v, own, series) ↦
              let taken = series.taken in
              let within = series.within in
              let low = series.some in
              let gone = series_ends (r.opens c) occ least (limit (begin h)) (latest h) u k v own (recent_work r (begin h) xs) done (max (is.clear (begin t)) (begin t)) is.has_fit series (is.clears h t opened l (omega (arith, taken, within, low))) in
              let ends = series.ends in
              inl (omega (arith, ends, gone, start))
        ]
    | inr l ↦
        let same : begin h ≡ begin t = are.same t h l order in
        elim before [
          | inl clear ↦ inl (subst (λ (i : ℕ). done ≤ max (is.clear i) t) same (omega (arith, clear, order)))
          | inr (u, k, v, own, series) ↦
              let upto = series.upto in
              let later : IsIntervalSeries (r.opens c) occ least (limit (begin h)) (max (is.clear (begin h)) t) u k v own (recent_work r (begin h) xs) done = record { upto = omega (arith, upto, order); nth = series.nth; taken = series.taken; within = series.within; some = series.some; ends = series.ends } in
              inr (u, k, v, own, subst (λ (i : ℕ). IsIntervalSeries (r.opens c) occ least (limit i) (max (is.clear i) t) u k v own (recent_work r i xs) done) same later)
        ]
  ]

  -- A copy that starts is the last copy of a busy series.
  pub joins : (x : Copy X) (xs : List (Copy X)) (s : ℕ) → least ≤ r.occ x.item → r.occ x.item ≤ occ → recent_work r (begin x.at) (x ∷ xs) ≤ limit (begin x.at) → IsFirstFit (r.opens c) (r.occ x.item) (max x.at (last_done_time r xs)) s
      → State xs x.at (last_done_time r xs)
      → (u k v : ℕ) × (s ≤ v) × IsIntervalSeries (r.opens c) occ least (limit (begin x.at)) (latest x.at) u k v (r.occ x.item) (recent_work r (begin x.at) (x ∷ xs)) (s + r.occ x.item)
  joins x xs s low short within first before =
      let start = are.before x.at in
      let more = work_more r.occ (begin x.at) x xs start in
      elim before [
        | inl clear ↦ alone clear more
        | inr (u, k, v, own, series) ↦ elim (cases_lt (latest x.at) (last_done_time r xs)) [
          | inl l ↦
              let upto = series.upto in
              let taken = series.taken in
              let ends = series.ends in
              let (w, nth, after) = nth_more (r.opens c) occ k own u v is.has_fit series.nth in
              let early = first_before (r.opens c) (r.occ x.item) occ (max x.at (last_done_time r xs)) s w short (omega (arith, l, ends, after)) (nth_fits (r.opens c) occ (own + k) u w nth) first in
              (u, own + k, w, early, record { upto = upto; nth = nth; taken = omega (arith, taken, more); within = within; some = low; ends = omega (arith, early) })
          | inr l ↦ alone l more
        ]
      ]
    where
      alone : last_done_time r xs ≤ latest x.at → recent_work r (begin x.at) (x ∷ xs) ≡ r.occ x.item + recent_work r (begin x.at) xs → (u k v : ℕ) × (s ≤ v) × IsIntervalSeries (r.opens c) occ least (limit (begin x.at)) (latest x.at) u k v (r.occ x.item) (recent_work r (begin x.at) (x ∷ xs)) (s + r.occ x.item)
      alone clear more =
          let (v, fit) = is.has_fit (latest x.at) in
          let after = fit.after in
          let early = first_before (r.opens c) (r.occ x.item) occ (max x.at (last_done_time r xs)) s v short (omega (arith, clear, after)) fit.fits first in
          (latest x.at, 0, v, early, record { upto = omega arith; nth = fit; taken = omega (arith, more); within = within; some = low; ends = omega (arith, early) })

  stays : (x : Copy X) (xs : List (Copy X)) → recent_work r (begin x.at) (x ∷ xs) ≤ limit (begin x.at) → State xs x.at (last_done_time r xs) → State (x ∷ xs) x.at (last_done_time r xs)
  stays x xs within (inl clear) = inl clear
  stays x xs within (inr (u, k, v, own, series)) =
      let more = work_upto r.occ (begin x.at) x xs in
      let taken = series.taken in
      inr (u, k, v, own, record { upto = series.upto; nth = series.nth; taken = omega (arith, taken, more); within = within; some = series.some; ends = series.ends })

  -- The state after one more copy, by its fate.
  ends_with : (x : Copy X) (xs : List (Copy X)) (f : Fate) → x.class ≡ c → least ≤ r.occ x.item → r.occ x.item ≤ occ → recent_work r (begin x.at) (x ∷ xs) ≤ limit (begin x.at) → IsSoloFate r x xs f
      → State xs x.at (last_done_time r xs)
      → State (x ∷ xs) x.at (done_time_or f (r.occ x.item) (last_done_time r xs))
  ends_with x xs Never class low short within fate before = stays x xs within before
  ends_with x xs Full class low short within fate before = stays x xs within before
  ends_with x xs Queued class low short within fate before = absurd fate
  ends_with x xs (Started s) class low short within fate before =
      let own : IsFirstFit (r.opens c) (r.occ x.item) (max x.at (last_done_time r xs)) s = subst (λ (i : ℕ). IsFirstFit (r.opens i) (r.occ x.item) (max x.at (last_done_time r xs)) s) class fate.2 in
      let (u, k, v, early, series) = joins x xs s low short within own before in
      inr (u, k, v, r.occ x.item, series)

  -- The state of the copies of a queue with a link to itself.
  pub state : (t : ℕ) (xs : List (Copy X)) → IsSolo r xs → HaveBoundedTimes r c least occ xs → HasIntervalWork r lets begin limit xs → AreOffersInOrder t xs → State xs t (last_done_time r xs)
  state t [] solo between work order = inl (omega arith)
  state t (x ∷ xs) solo between work order =
      let (class, low, short) = between x (inl refl) in
      let before = state x.at xs solo.1 (λ y i. between y (inr i)) work.2 order.1 in
      moved (x ∷ xs) x.at t (last_done_time r (x ∷ xs)) order.0 work.0 (ends_with x xs x.fate class low short work.1 solo.0 before)

  -- A copy that started leaves within the delay bound.
  pub in_time : (s : ℕ) (x : Copy X) (xs : List (Copy X)) → IsSolo r (x ∷ xs) → AreOffersInOrder x.at xs → HaveBoundedTimes r c least occ (x ∷ xs) → HasIntervalWork r lets begin limit (x ∷ xs) → x.fate ≡ Started s → s + r.occ x.item ≤ x.at + b
  in_time s x xs solo order between work started =
      let (class, low, short) = between x (inl refl) in
      let fate : IsSoloFate r x xs (Started s) = subst (IsSoloFate r x xs) started solo.0 in
      let own : IsFirstFit (r.opens c) (r.occ x.item) (max x.at (last_done_time r xs)) s = subst (λ (i : ℕ). IsFirstFit (r.opens i) (r.occ x.item) (max x.at (last_done_time r xs)) s) class fate.2 in
      let before = state x.at xs solo.1 (λ y i. between y (inr i)) work.2 order in
      let (u, k, v, early, series) = joins x xs s low short work.1 own before in
      let taken = series.taken in
      let within = series.within in
      let gone = series_ends (r.opens c) occ least (limit (begin x.at)) (latest x.at) u k v (r.occ x.item) (recent_work r (begin x.at) (x ∷ xs)) (s + r.occ x.item) (x.at + b) is.has_fit series (is.in_time x.at work.0 (omega (arith, taken, within, low))) in
      omega (arith, early, gone)
