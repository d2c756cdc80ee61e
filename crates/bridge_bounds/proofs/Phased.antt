-- First fits and waits of one period hold at equal phases of every other period.
use Rattle.std.proofs.Common.{◌≡◌, ℕ, Bool, true, ◌≤◌, ◌+◌, ◌-◌, ◌*◌, ◌/◌, ◌%◌, min, arith, refl, sym, subst, inl, inr}
use Rattle.std.proofs.lemmas.Bool.{cases_lt, eqb-true, false≢true}
use Rattle.bridge_cycle.specs.Fits.{Fits, IsFirstFit, IsPeriodic}
use Rattle.bridge_cycle.proofs.Lists.{list_repeats}
use Rattle.bridge_cycle.proofs.Repeats.{turns}
use Rattle.bridge_cycle.proofs.Runs.{fits_less}
use Rattle.bridge_frame.specs.declared.Speed.{Speed}
use Rattle.bridge_frame.specs.Link.{transmission_time}
use Rattle.bridge_port.specs.GateSchedule.{Always, Changing, HasLawfulLists, One, GateSchedule, can_fit, list_opens, opens}
use Rattle.bridge_port.proofs.Opening.{ever_soon, exchanged_ever_is, list_ever_is}
use Rattle.bridge_bounds.proofs.Edges.{first_some, first_up}
use Rattle.bridge_bounds.specs.Bounds.{IsLongestTime}
use Rattle.bridge_bounds.proofs.Steps.{ends_fewer, first_rises}
use Rattle.bridge_bounds.specs.Latency.{IsMultiple}
use Rattle.bridge_bounds.specs.Waits.{IsLongestWait, IsShortestWait, has_period}
use Rattle.bridge_check.proofs.Isolated.{made}

-- If a transmission time fits at some time, a shorter one fits at some time.
pub ever_falls : (o : GateSchedule) (c m n : ℕ) → HasLawfulLists o → m ≤ n → can_fit o c n ≡ true → can_fit o c m ≡ true
ever_falls Always c m n made l h = refl
ever_falls (One l) c m n made le h = let (t, f) = (list_ever_is l c n made).0 h in (list_ever_is l c m made).1 (t, fits_less (list_opens l c) n m t le f)
ever_falls (Changing j) c m n made le h =
    let both = (exchanged_ever_is j c n made).0 h in
    let (t, f) = both.0 in
    let (u, g) = both.1 in
    (exchanged_ever_is j c m made).1 ((t, fits_less (list_opens j.old c) n m t le f), (u, fits_less (list_opens j.new c) n m u le g))

-- Each time has a first fit.
pub some_first : (o : GateSchedule) (c n from : ℕ) → HasLawfulLists o → can_fit o c n ≡ true → (s : ℕ) × IsFirstFit (opens o c) n from s
some_first o c n from made can = let near = ever_soon o c n from made can in first_some (opens o c) n from near.0 near.1 near.3

-- Lists that repeat with a period have equal windows one period later.
pub repeats : (o : GateSchedule) (period c : ℕ) → HasLawfulLists o → has_period period o ≡ true → IsPeriodic (opens o c) period
repeats Always period c is h u = refl
repeats (One l) period c is h u =
    let none : period % l.cycle ≡ 0 = eqb-true (period % l.cycle) 0 h in
    let same : period / l.cycle * l.cycle ≡ period = grind arith in
    let again : IsPeriodic (list_opens l c) period = subst (IsPeriodic (list_opens l c)) same (λ v. turns (list_opens l c) l.cycle (period / l.cycle) v (list_repeats l c is)) in
    again u
repeats (Changing j) period c is h u = absurd (false≢true h)

-- If the queue has capacity, the longest time is at least one transmission time.
pub some_longest : (opens : ℕ → Bool) (occ k d : ℕ) → IsLongestTime opens occ k d → 1 ≤ k → occ ≤ d
some_longest opens occ k d longest some =
    let (v, ends, upto) = longest 0 in
    let (w, few, before) = ends_fewer opens occ 1 k 0 v some ends in
    let (x, s, e, first, is) = few in
    omega (arith, upto, before, is)

-- The first fit at the same phase of a later period.
pub first_later : (opens : ℕ → Bool) (occ period p from s : ℕ) → IsPeriodic opens period → IsMultiple period p → IsFirstFit opens occ from s → IsFirstFit opens occ (from + p) (s + p)
first_later opens occ period p from s r (k, same) first =
    subst (λ (i : ℕ). IsFirstFit opens occ (from + i) (s + i)) (sym same) (first_up opens period occ k from s r first)

-- THE STARTS OF ONE FRAME

-- A frame that starts at its first fit and arrives between two phases of a period.
pub record IsTimely (opens : ℕ → Bool) (short long from to period p own at start : ℕ) : Type 0 where
  pub repeats : IsPeriodic opens period
  pub multiple : IsMultiple period p
  pub low : from + p ≤ at
  pub high : at ≤ to + p
  pub least : short ≤ own
  pub most : own ≤ long
  pub first : IsFirstFit opens own at start

module _ (opens : ℕ → Bool) (short long from to period p own at start : ℕ) (t : IsTimely opens short long from to period p own at start) where
  -- The frame starts no earlier than a shortest frame that arrives at the first phase.
  pub no_sooner : (first : ℕ) → IsFirstFit opens short from first → first + p ≤ start
  no_sooner first is = first_rises opens short own (from + p) at (first + p) start t.least t.low (first_later opens short period p from first t.repeats t.multiple is) t.first

  -- The frame starts no later than a longest frame that arrives at the last phase.
  pub no_later : (last : ℕ) → IsFirstFit opens long to last → start ≤ last + p
  no_later last is = first_rises opens own long at (to + p) start (last + p) t.most t.high t.first (first_later opens long period p to last t.repeats t.multiple is)

  -- The frame waits no longer than a longest frame from any time between the phases.
  pub waits_at_most : (wait : ℕ) → IsLongestWait opens long from to wait → ((u : ℕ) → (s : ℕ) × IsFirstFit opens long u s) → start ≤ at + wait
  waits_at_most wait is some =
      let low = t.low in
      let high = t.high in
      let u = at - p in
      let same : u + p ≡ at = omega (arith, low) in
      let (s, first) = some u in
      let upto = is.longest u s (omega (arith, low)) (omega (arith, high)) first in
      let again : IsFirstFit opens long at (s + p) = subst (λ (i : ℕ). IsFirstFit opens long i (s + p)) same (first_later opens long period p u s t.repeats t.multiple first) in
      let sooner = first_rises opens own long at at start (s + p) t.most (omega arith) t.first again in
      omega (arith, sooner, upto, same)

  -- The frame waits at least as long as a shortest frame.
  pub waits_at_least : (wait : ℕ) → IsShortestWait opens short from to wait → ((u : ℕ) → (s : ℕ) × IsFirstFit opens short u s) → at + wait ≤ start
  waits_at_least wait is some =
      let low = t.low in
      let high = t.high in
      let u = at - p in
      let same : u + p ≡ at = omega (arith, low) in
      let (s, first) = some u in
      let least = is.shortest u s (omega (arith, low)) (omega (arith, high)) first in
      let again : IsFirstFit opens short at (s + p) = subst (λ (i : ℕ). IsFirstFit opens short i (s + p)) same (first_later opens short period p u s t.repeats t.multiple first) in
      let later = first_rises opens short own at at (s + p) start t.least (omega arith) again t.first in
      omega (arith, later, least, same)

-- THE SHORTEST WAIT

-- If the first fit is after the last phase, a frame at the last phase has the shortest wait. Otherwise some frame doesn't wait.
pub shortest_wait : (opens : ℕ → Bool) (occ from to first : ℕ) → from ≤ to → IsFirstFit opens occ from first → IsShortestWait opens occ from to (first - to)
shortest_wait opens occ from to first h is =
    let after = is.after in
    elim (cases_lt to first) [
      | inl l ↦
          let same : to + (first - to) ≡ first = omega (arith, l) in
          record {
            shortest = λ u s p q other. let rise = first_rises opens occ occ from u first s (omega arith) p is other in omega (arith, rise, q, l);
            attained = (
              to,
              h,
              omega arith,
              record {
                after = omega arith;
                fits = subst (Fits opens occ) (sym same) is.fits;
                least = λ v a b. is.least v (omega (arith, a, h)) (omega (arith, b, l));
              },
            );
          }
      | inr l ↦
          let none : first + (first - to) ≡ first = omega (arith, l) in
          record {
            shortest = λ u s p q other. let later = other.after in omega (arith, l, later);
            attained = (
              first,
              after,
              l,
              record {
                after = omega arith;
                fits = subst (Fits opens occ) (sym none) is.fits;
                least = λ v a b. absurd (omega (arith, a, b, l));
              },
            );
          }
    ]

-- THE LENGTHS

-- If two lengths are at least as long as a frame, so is the smaller length.
pub within_both : (a b own : ℕ) (speed : Speed) → own ≤ transmission_time a speed → own ≤ transmission_time b speed → own ≤ transmission_time (min a b) speed
within_both a b own speed p q = elim (cases_lt a b) [
  | inl l ↦ let same : a ≡ min a b = omega (arith, l) in subst (λ (i : ℕ). own ≤ transmission_time i speed) same p
  | inr l ↦ let same : b ≡ min a b = omega (arith, l) in subst (λ (i : ℕ). own ≤ transmission_time i speed) same q
]
