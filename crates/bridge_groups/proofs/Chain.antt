-- Delays of copies in a queue that has its link to itself, by the work that arrived.
use Rattle.std.proofs.Common.{◌≡◌, ◌≤◌, ◌+◌, ◌-◌, ◌*◌, ◌⊎◌, ℕ, Bool, true, false, max, List, [], ◌∷◌, arith, refl, sym, subst, inl, inr}
use Rattle.std.proofs.Math.Bool.{and-false}
use Rattle.std.proofs.Math.Nat.{mul-le-mul_left}
use Rattle.std.proofs.lemmas.Bool.{cases_lt, eq-eqb}
use Rattle.std.proofs.lemmas.Bool.Decides.{nat_tests}
use Rattle.std.specs.Prelude.{nat_lt, nat_le, nat_eq, ◌&&◌, if◌then◌else◌}
use Rattle.bridge_cycle.specs.Fits.{IsFirstFit}
use Rattle.bridge_port.specs.Schedule.{AreOffersInOrder, Copy, Fate, Full, Never, PortRules, Queued, Started, count_waiting, is_waiting}
use Rattle.bridge_port.specs.Solo.{IsSolo, IsSoloFate, done_time_or, last_done_time}
use Rattle.bridge_groups.specs.Work.{HaveSufficientCosts, HaveBoundedTimes, HasCostCurve, IsSufficientRoom, IsDelayBound, IsNthFit, IsSufficientCost, HasCountCurve, HasWorkCurve, recent_cost, count_recent_copies}
use Rattle.bridge_groups.proofs.NthFits.{HasFits, first_before, nth_apart, nth_behind, nth_more, nth_some}

-- Holds if a busy series of copies began at `u`: its last copy costs `own` and starts by fit `k` from `u`. The copies
-- of the series cost at least `k + own`.
pub record IsBusySeries (opens : ℕ → Bool) (occ u k v own work t done : ℕ) : Type 0 where
  pub since : u ≤ t
  pub nth : IsNthFit opens occ k u v
  pub taken : k + own ≤ work
  pub ends : done ≤ v + own

-- Holds if all transmissions ended by `t`, or a busy series lasts at `t`.
abbrev pub IsIdleOrBusy : (ℕ → Bool) → ℕ → ℕ → (ℕ → ℕ) → ℕ → Type 0
IsIdleOrBusy opens occ t work done = (done ≤ t) ⊎ ((u k v own : ℕ) × IsBusySeries opens occ u k v own (work u) t done)

-- A copy that was offered at `u` or later adds its cost to the recent cost.
pub work_more : {X : Type 0} (cost : X → ℕ) (u : ℕ) (x : Copy X) (xs : List (Copy X)) → u ≤ x.at → recent_cost cost u (x ∷ xs) ≡ cost x.item + recent_cost cost u xs
work_more cost u x xs h = let b : nat_le u x.at ≡ true = grind (arith, nat_tests) in rw b refl

pub work_upto : {X : Type 0} (cost : X → ℕ) (u : ℕ) (x : Copy X) (xs : List (Copy X)) → recent_cost cost u xs ≤ recent_cost cost u (x ∷ xs)
work_upto cost u x xs = omega arith

-- Holds if the busy series from `u` ends with a copy that started at `s`, by fit `k`.
pub record IsStartedSeries (opens : ℕ → Bool) (occ u k v own work t s : ℕ) : Type 0 where
  pub since : u ≤ t
  pub nth : IsNthFit opens occ k u v
  pub taken : k + own ≤ work
  pub early : s ≤ v

-- If all earlier transmissions had ended, the series begins with this copy.
starts_alone : {X : Type 0} (r : PortRules X) (cost : X → ℕ) (c least occ s : ℕ) (x : Copy X) (xs : List (Copy X)) → HasFits (r.opens c) occ → IsSufficientCost (r.opens c) occ least (r.occ x.item) (cost x.item) → last_done_time r xs ≤ x.at → IsFirstFit (r.opens c) (r.occ x.item) (max x.at (last_done_time r xs)) s
    → (u k v : ℕ) × IsStartedSeries (r.opens c) occ u k v (r.occ x.item) (recent_cost cost u (x ∷ xs)) x.at s
starts_alone r cost c least occ s x xs some paid h first =
    let enough = paid.covers_time in
    let (z, nth) = nth_some (r.opens c) occ (cost x.item - r.occ x.item) x.at some in
    let (m, after, before, fits) = paid.fits_soon x.at z nth in
    let early = first_before (r.opens c) (r.occ x.item) (r.occ x.item) (max x.at (last_done_time r xs)) s m (omega arith) (omega (arith, h, after)) fits first in
    let more = work_more cost x.at x xs (omega arith) in
    (x.at, cost x.item - r.occ x.item, z, record { since = omega arith; nth = nth; taken = omega (arith, more, enough); early = omega (arith, early, before) })

-- If an earlier transmission lasts, the series goes on with this copy.
starts_next : {X : Type 0} (r : PortRules X) (cost : X → ℕ) (c least occ s u k v own : ℕ) (x : Copy X) (xs : List (Copy X)) → HasFits (r.opens c) occ → IsSufficientCost (r.opens c) occ least (r.occ x.item) (cost x.item) → x.at ≤ last_done_time r xs → IsFirstFit (r.opens c) (r.occ x.item) (max x.at (last_done_time r xs)) s
    → IsBusySeries (r.opens c) occ u k v own (recent_cost cost u xs) x.at (last_done_time r xs)
    → (u k v : ℕ) × IsStartedSeries (r.opens c) occ u k v (r.occ x.item) (recent_cost cost u (x ∷ xs)) x.at s
starts_next r cost c least occ s u k v own x xs some paid h first is =
    let enough = paid.covers_time in
    let (w, nth, upto) = nth_more (r.opens c) occ k own u v some is.nth in
    let ends = is.ends in
    let since = is.since in
    let taken = is.taken in
    let e : ℕ = cost x.item - r.occ x.item in
    let (z, far) = nth_some (r.opens c) occ e w some in
    let (m, after, before, fits) = paid.fits_soon w z far in
    let early = first_before (r.opens c) (r.occ x.item) (r.occ x.item) (max x.at (last_done_time r xs)) s m (omega arith) (omega (arith, h, ends, upto, after)) fits first in
    let more = work_more cost u x xs since in
    (u, e + (own + k), z, record { since = since; nth = nth_behind (r.opens c) occ (own + k) e u w z nth far; taken = omega (arith, more, taken, enough); early = omega (arith, early, before) })

pub starts : {X : Type 0} (r : PortRules X) (cost : X → ℕ) (c least occ s : ℕ) (x : Copy X) (xs : List (Copy X)) → HasFits (r.opens c) occ → x.class ≡ c → IsSufficientCost (r.opens c) occ least (r.occ x.item) (cost x.item) → IsFirstFit (r.opens x.class) (r.occ x.item) (max x.at (last_done_time r xs)) s
    → IsIdleOrBusy (r.opens c) occ x.at (λ u. recent_cost cost u xs) (last_done_time r xs)
    → (u k v : ℕ) × IsStartedSeries (r.opens c) occ u k v (r.occ x.item) (recent_cost cost u (x ∷ xs)) x.at s
starts r cost c least occ s x xs some class paid first before =
    let own : IsFirstFit (r.opens c) (r.occ x.item) (max x.at (last_done_time r xs)) s = subst (λ (i : ℕ). IsFirstFit (r.opens i) (r.occ x.item) (max x.at (last_done_time r xs)) s) class first in
    elim before [
      | inl h ↦ starts_alone r cost c least occ s x xs some paid h own
      | inr b ↦ elim (cases_lt x.at (last_done_time r xs)) [
        | inl l ↦ starts_next r cost c least occ s b.0 b.1 b.2 b.3 x xs some paid (omega (arith, l)) own b.4
        | inr l ↦ starts_alone r cost c least occ s x xs some paid l own
      ]
    ]

-- The state of the copies holds at a later time, with more work.
later : (opens : ℕ → Bool) (occ t more done : ℕ) (work greater : ℕ → ℕ) → t ≤ more → ((u : ℕ) → work u ≤ greater u) → IsIdleOrBusy opens occ t work done → IsIdleOrBusy opens occ more greater done
later opens occ t more done work greater h upto (inl l) = inl (omega (arith, h, l))
later opens occ t more done work greater h upto (inr (u, k, v, own, is)) =
    let since = is.since in
    let taken = is.taken in
    let all = upto u in
    inr (u, k, v, own, record { since = omega (arith, since, h); nth = is.nth; taken = omega (arith, taken, all); ends = is.ends })

-- The state of the copies after one more copy, by its fate.
ends_with : {X : Type 0} (r : PortRules X) (cost : X → ℕ) (c least occ : ℕ) (x : Copy X) (xs : List (Copy X)) (f : Fate) → HasFits (r.opens c) occ → x.class ≡ c → IsSufficientCost (r.opens c) occ least (r.occ x.item) (cost x.item) → IsSoloFate r x xs f
    → IsIdleOrBusy (r.opens c) occ x.at (λ u. recent_cost cost u xs) (last_done_time r xs)
    → IsIdleOrBusy (r.opens c) occ x.at (λ u. recent_cost cost u (x ∷ xs)) (done_time_or f (r.occ x.item) (last_done_time r xs))
ends_with r cost c least occ x xs Never some class paid fate before = later (r.opens c) occ x.at x.at (last_done_time r xs) (λ u. recent_cost cost u xs) (λ u. recent_cost cost u (x ∷ xs)) (omega arith) (λ u. work_upto cost u x xs) before
ends_with r cost c least occ x xs Full some class paid fate before = later (r.opens c) occ x.at x.at (last_done_time r xs) (λ u. recent_cost cost u xs) (λ u. recent_cost cost u (x ∷ xs)) (omega arith) (λ u. work_upto cost u x xs) before
ends_with r cost c least occ x xs Queued some class paid fate before = absurd fate
ends_with r cost c least occ x xs (Started s) some class paid fate before =
    let (u, k, v, is) = starts r cost c least occ s x xs some class paid fate.2 before in
    let early = is.early in
    inr (u, k, v, r.occ x.item, record { since = is.since; nth = is.nth; taken = is.taken; ends = omega (arith, early) })

-- The state of the copies of a queue with a link to itself, offered up to `t`.
pub chained : {X : Type 0} (r : PortRules X) (cost : X → ℕ) (c least occ t : ℕ) (xs : List (Copy X)) → HasFits (r.opens c) occ → IsSolo r xs → HaveSufficientCosts r cost c least occ xs → AreOffersInOrder t xs → IsIdleOrBusy (r.opens c) occ t (λ u. recent_cost cost u xs) (last_done_time r xs)
chained r cost c least occ t [] some solo between order = inl (omega arith)
chained r cost c least occ t (x ∷ xs) some solo between order =
    let (class, paid) = between x (inl refl) in
    later (r.opens c) occ x.at t (last_done_time r (x ∷ xs)) (λ u. recent_cost cost u (x ∷ xs)) (λ u. recent_cost cost u (x ∷ xs)) order.0 (λ u. omega arith)
    (ends_with r cost c least occ x xs x.fate some class paid solo.0 (chained r cost c least occ x.at xs some solo.1 (λ y i. between y (inr i)) order.1))

-- A copy that started leaves within the delay bound.
pub in_time_at_cost : {X : Type 0} (r : PortRules X) (cost : X → ℕ) (curve : ℕ → ℕ) (c occ least b s : ℕ) (x : Copy X) (xs : List (Copy X)) → IsSolo r (x ∷ xs) → AreOffersInOrder x.at xs → HaveSufficientCosts r cost c least occ (x ∷ xs) → HasCostCurve cost curve (x ∷ xs) → IsDelayBound (r.opens c) occ least curve b → x.fate ≡ Started s → s + r.occ x.item ≤ x.at + b
in_time_at_cost r cost curve c occ least b s x xs solo order between keeps within started =
    let low = (between x (inl refl)).1.least_time in
    let (class, paid) = between x (inl refl) in
    let fate : IsSoloFate r x xs (Started s) = subst (IsSoloFate r x xs) started solo.0 in
    let before = chained r cost c least occ x.at xs within.has_fit solo.1 (λ y i. between y (inr i)) order in
    let (u, k, v, is) = starts r cost c least occ s x xs within.has_fit class paid fate.2 before in
    let since = is.since in
    let taken = is.taken in
    let early = is.early in
    let w : ℕ = x.at - u in
    let at : x.at ≡ u + w = omega (arith, since) in
    let upto = keeps.0 u w at in
    let (z, nth, end) = within.in_time u w (omega (arith, low, taken, upto)) in
    let apart = nth_apart (r.opens c) occ k (curve w - least) u v z within.has_fit (omega (arith, low, taken, upto)) is.nth nth in
    omega (arith, early, taken, upto, apart, end, at, low)

-- A copy that was offered at `u` or later adds its cost to the recent cost.
count_more : {X : Type 0} (u : ℕ) (x : Copy X) (xs : List (Copy X)) → u ≤ x.at → count_recent_copies u (x ∷ xs) ≡ 1 + count_recent_copies u xs
count_more u x xs h = let b : nat_le u x.at ≡ true = grind (arith, nat_tests) in rw b refl

-- Holds if `n` copies of a busy series from `u` wait at `t`. Each costs at least `least`, and the first of them
-- starts at `t` or later, by fit `k` from `u`.
pub record IsWaitingSeries (opens : ℕ → Bool) (occ u k v least work count n h t : ℕ) : Type 0 where
  pub since : u ≤ h
  pub nth : IsNthFit opens occ k u v
  pub late : t ≤ v
  pub held : k + n * least ≤ work
  pub counted : n ≤ count

abbrev pub HasWaitingSeries : (ℕ → Bool) → ℕ → ℕ → (ℕ → ℕ) → (ℕ → ℕ) → ℕ → ℕ → ℕ → Type 0
HasWaitingSeries opens occ least work count n h t = (n ≡ 0) ⊎ ((u k v : ℕ) × IsWaitingSeries opens occ u k v least (work u) (count u) n h t)

waits_later : (opens : ℕ → Bool) (occ least n m h i t : ℕ) (work greater count larger : ℕ → ℕ) → m ≡ n → h ≤ i → ((u : ℕ) → work u ≤ greater u) → ((u : ℕ) → count u ≤ larger u) → HasWaitingSeries opens occ least work count n h t → HasWaitingSeries opens occ least greater larger m i t
waits_later opens occ least n m h i t work greater count larger same order upto more (inl none) = inl (omega (arith, same, none))
waits_later opens occ least n m h i t work greater count larger same order upto more (inr (u, k, v, is)) =
    let since = is.since in
    let held : k + m * least ≤ work u = subst (λ (j : ℕ). k + j * least ≤ work u) (sym same) is.held in
    let counted = is.counted in
    let all = upto u in
    let most = more u in
    inr (u, k, v, record { since = omega (arith, since, order); nth = is.nth; late = is.late; held = omega (arith, held, all); counted = omega (arith, counted, most, same) })

-- The waiting copies after one more copy that waits.
one_waits : {X : Type 0} (r : PortRules X) (cost : X → ℕ) (c least occ s t n : ℕ) (x : Copy X) (xs : List (Copy X)) → t ≤ s → x.at ≤ t → least ≤ r.occ x.item → r.occ x.item ≤ cost x.item
    → ((u k v : ℕ) × IsStartedSeries (r.opens c) occ u k v (r.occ x.item) (recent_cost cost u (x ∷ xs)) x.at s)
    → HasWaitingSeries (r.opens c) occ least (λ u. recent_cost cost u xs) (λ u. count_recent_copies u xs) n x.at t
    → HasWaitingSeries (r.opens c) occ least (λ u. recent_cost cost u (x ∷ xs)) (λ u. count_recent_copies u (x ∷ xs)) (1 + n) x.at t
one_waits r cost c least occ s t n x xs late at low enough (u, k, v, is) (inl none) =
    let taken = is.taken in
    let early = is.early in
    let counts = count_more u x xs is.since in
    let one : (1 + n) * least ≡ least = subst (λ (i : ℕ). (1 + i) * least ≡ least) (sym none) (omega arith) in
    inr (u, k, v, record { since = is.since; nth = is.nth; late = omega (arith, late, early); held = omega (arith, one, taken, low); counted = omega (arith, counts, none) })
one_waits r cost c least occ s t n x xs late at low enough begun (inr (u, k, v, is)) =
    let held = is.held in
    let counted = is.counted in
    let more = work_more cost u x xs is.since in
    let counts = count_more u x xs is.since in
    inr (u, k, v, record { since = is.since; nth = is.nth; late = is.late; held = omega (arith, held, more, low, enough); counted = omega (arith, counted, counts) })

waits_by : {X : Type 0} (r : PortRules X) (cost : X → ℕ) (c least occ t n : ℕ) (x : Copy X) (xs : List (Copy X)) (f : Fate) → HasFits (r.opens c) occ → x.class ≡ c → IsSufficientCost (r.opens c) occ least (r.occ x.item) (cost x.item) → x.at ≤ t → IsSoloFate r x xs f
    → IsIdleOrBusy (r.opens c) occ x.at (λ u. recent_cost cost u xs) (last_done_time r xs)
    → HasWaitingSeries (r.opens c) occ least (λ u. recent_cost cost u xs) (λ u. count_recent_copies u xs) (count_waiting c t xs) x.at t
    → n ≡ (if nat_eq x.class c && is_waiting t f then 1 else 0) + count_waiting c t xs
    → HasWaitingSeries (r.opens c) occ least (λ u. recent_cost cost u (x ∷ xs)) (λ u. count_recent_copies u (x ∷ xs)) n x.at t
waits_by r cost c least occ t n x xs Never some class paid at fate ends before count =
    waits_later (r.opens c) occ least (count_waiting c t xs) n x.at x.at t (λ u. recent_cost cost u xs) (λ u. recent_cost cost u (x ∷ xs)) (λ u. count_recent_copies u xs) (λ u. count_recent_copies u (x ∷ xs)) (let z = rw and-false at count in omega (arith, z)) (omega arith) (λ u. work_upto cost u x xs) (λ u. omega arith) before
waits_by r cost c least occ t n x xs Full some class paid at fate ends before count =
    waits_later (r.opens c) occ least (count_waiting c t xs) n x.at x.at t (λ u. recent_cost cost u xs) (λ u. recent_cost cost u (x ∷ xs)) (λ u. count_recent_copies u xs) (λ u. count_recent_copies u (x ∷ xs)) (let z = rw and-false at count in omega (arith, z)) (omega arith) (λ u. work_upto cost u x xs) (λ u. omega arith) before
waits_by r cost c least occ t n x xs Queued some class paid at fate ends before count = absurd fate
waits_by r cost c least occ t n x xs (Started s) some class paid at fate ends before count = elim (cases_lt s t) [
  | inl l ↦
      let begun : nat_lt s t ≡ true = grind (arith, nat_tests) in
      let same : n ≡ count_waiting c t xs = let z = rw (begun, and-false) at count in omega (arith, z) in
      waits_later (r.opens c) occ least (count_waiting c t xs) n x.at x.at t (λ u. recent_cost cost u xs) (λ u. recent_cost cost u (x ∷ xs)) (λ u. count_recent_copies u xs) (λ u. count_recent_copies u (x ∷ xs)) same (omega arith) (λ u. work_upto cost u x xs) (λ u. omega arith) before
  | inr l ↦
      let own : nat_eq x.class c ≡ true = eq-eqb x.class c class in
      let late : nat_lt s t ≡ false = grind (arith, nat_tests) in
      let more : n ≡ 1 + count_waiting c t xs = rw (own, late) at count in
      subst (λ (i : ℕ). HasWaitingSeries (r.opens c) occ least (λ u. recent_cost cost u (x ∷ xs)) (λ u. count_recent_copies u (x ∷ xs)) i x.at t) (sym more)
      (one_waits r cost c least occ s t (count_waiting c t xs) x xs l at paid.least_time paid.covers_time (starts r cost c least occ s x xs some class paid fate.2 ends) before)
]

-- The copies that wait at `t` in a queue with a link to itself.
pub waits : {X : Type 0} (r : PortRules X) (cost : X → ℕ) (c least occ h t : ℕ) (xs : List (Copy X)) → h ≤ t → HasFits (r.opens c) occ → IsSolo r xs → HaveSufficientCosts r cost c least occ xs → AreOffersInOrder h xs → HasWaitingSeries (r.opens c) occ least (λ u. recent_cost cost u xs) (λ u. count_recent_copies u xs) (count_waiting c t xs) h t
waits r cost c least occ h t [] before some solo between order = inl refl
waits r cost c least occ h t (x ∷ xs) before some solo between order =
    let (class, paid) = between x (inl refl) in
    let upto = order.0 in
    let rest : HaveSufficientCosts r cost c least occ xs = λ y i. between y (inr i) in
    let ends = chained r cost c least occ x.at xs some solo.1 rest order.1 in
    let older = waits r cost c least occ x.at t xs (omega (arith, upto, before)) some solo.1 rest order.1 in
    waits_later (r.opens c) occ least (count_waiting c t (x ∷ xs)) (count_waiting c t (x ∷ xs)) x.at h t (λ u. recent_cost cost u (x ∷ xs)) (λ u. recent_cost cost u (x ∷ xs)) (λ u. count_recent_copies u (x ∷ xs)) (λ u. count_recent_copies u (x ∷ xs)) refl upto (λ u. omega arith) (λ u. omega arith)
    (waits_by r cost c least occ t (count_waiting c t (x ∷ xs)) x xs x.fate some class paid (omega (arith, upto, before)) solo.0 ends older refl)

-- If the capacity is sufficient, no copy finds its queue full.
pub not_full_at_cost : {X : Type 0} (r : PortRules X) (cost : X → ℕ) (curve many : ℕ → ℕ) (c occ least : ℕ) (x : Copy X) (xs : List (Copy X)) → IsSolo r (x ∷ xs) → AreOffersInOrder x.at xs → HaveSufficientCosts r cost c least occ (x ∷ xs) → HasCostCurve cost curve (x ∷ xs) → HasCountCurve many (x ∷ xs) → IsSufficientRoom (r.opens c) occ least curve many (r.room c) → x.fate ≡ Full → ⊥
not_full_at_cost r cost curve many c occ least x xs solo order between keeps counts room full =
    let low = (between x (inl refl)).1.least_time in
    let enough = (between x (inl refl)).1.covers_time in
    let (class, paid) = between x (inl refl) in
    let fate : IsSoloFate r x xs Full = subst (IsSoloFate r x xs) full solo.0 in
    let filled : r.room c ≤ count_waiting c x.at xs = subst (λ (i : ℕ). r.room i ≤ count_waiting i x.at xs) class fate.1 in
    let one = room.has_place in
    elim (waits r cost c least occ x.at x.at xs (omega arith) room.has_fit solo.1 (λ y i. between y (inr i)) order) [
      | inl none ↦ omega (arith, one, filled, none)
      | inr b ↦
          let (u, k, v, is) = b in
          let since = is.since in
          let late = is.late in
          let held = is.held in
          let counted = is.counted in
          let w : ℕ = x.at - u in
          let at : x.at ≡ u + w = omega (arith, since) in
          let upto = keeps.0 u w at in
          let most = counts.0 u w at in
          let more = work_more cost u x xs since in
          let another = count_more u x xs since in
          let all = mul-le-mul_left least filled in
          let need : k + (r.room c + 1) * least ≤ curve w = omega (arith, held, all, upto, more, low, enough) in
          let (z, nth, early) = room.drains u w (omega (arith, need)) (omega (arith, counted, most, another, filled)) in
          let apart = nth_apart (r.opens c) occ k (curve w - (r.room c + 1) * least) u v z room.has_fit (omega (arith, need)) is.nth nth in
          omega (arith, apart, early, late, at)
    ]

-- LINK TIME ALONE

-- If a frame is no longer than the frames whose fits are counted, its transmission time is a sufficient cost.
pub paid_plain : (opens : ℕ → Bool) (occ least on : ℕ) → least ≤ on → on ≤ occ → IsSufficientCost opens occ least on on
paid_plain opens occ least on low short = record {
  least_time = low;
  covers_time = omega arith;
  fits_soon = λ v z nth.
      let none : on - on ≡ 0 = omega arith in
      let first : IsNthFit opens occ 0 v z = subst (λ (i : ℕ). IsNthFit opens occ i v z) none nth in
      let after = first.after in
      (z, omega (arith, after), omega arith, λ u p q. first.fits u p (omega (arith, q, short)));
}

pub all_plain : {X : Type 0} (r : PortRules X) (c least occ : ℕ) (xs : List (Copy X)) → HaveBoundedTimes r c least occ xs → HaveSufficientCosts r r.occ c least occ xs
all_plain r c least occ xs between y i = let (class, low, short) = between y i in (class, paid_plain (r.opens c) occ least (r.occ y.item) low short)

pub in_time : {X : Type 0} (r : PortRules X) (curve : ℕ → ℕ) (c occ least b s : ℕ) (x : Copy X) (xs : List (Copy X)) → IsSolo r (x ∷ xs) → AreOffersInOrder x.at xs → HaveBoundedTimes r c least occ (x ∷ xs) → HasWorkCurve r curve (x ∷ xs) → IsDelayBound (r.opens c) occ least curve b → x.fate ≡ Started s → s + r.occ x.item ≤ x.at + b
in_time r curve c occ least b s x xs solo order between keeps within started = in_time_at_cost r r.occ curve c occ least b s x xs solo order (all_plain r c least occ (x ∷ xs) between) keeps within started

pub not_full : {X : Type 0} (r : PortRules X) (curve many : ℕ → ℕ) (c occ least : ℕ) (x : Copy X) (xs : List (Copy X)) → IsSolo r (x ∷ xs) → AreOffersInOrder x.at xs → HaveBoundedTimes r c least occ (x ∷ xs) → HasWorkCurve r curve (x ∷ xs) → HasCountCurve many (x ∷ xs) → IsSufficientRoom (r.opens c) occ least curve many (r.room c) → x.fate ≡ Full → ⊥
not_full r curve many c occ least x xs solo order between keeps counts room full = not_full_at_cost r r.occ curve many c occ least x xs solo order (all_plain r c least occ (x ∷ xs) between) keeps counts room full
