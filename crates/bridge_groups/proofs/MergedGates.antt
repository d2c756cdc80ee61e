-- One list stands for several stream gates.
use Rattle.std.proofs.Common.{◌≡◌, ◌≤◌, ◌<◌, ◌+◌, ◌-◌, ◌*◌, ◌/◌, ◌%◌, ℕ, drop, get_or, length, zero, suc, true, min, Some, List, [], ◌∷◌, ◌++◌, arith, ap, refl, sym, subst, ◌∙◌, inl, inr}
use Rattle.std.specs.Prelude.{nat_eq, pos, ◌-ℤ◌}
use Rattle.std.specs.List.{list_all}
use Rattle.std.proofs.Math.Nat.{mod-lt, zero-mod}
use Rattle.std.proofs.lemmas.Bool.{cases_lt, eqb-true}
use Rattle.std.proofs.lemmas.Int.{ints}
use Rattle.std.proofs.lemmas.List.{append-nil, at_drop_more, drop_all}
use Rattle.std.proofs.lemmas.List.Sums.{sum_by-cons}
use Rattle.std.proofs.lemmas.Nat.{div-add-mod'}
use Rattle.bridge_limits.specs.Members.{IsMember}
use Rattle.bridge_limits.proofs.Members.{each_passes, passes_any}
use Rattle.bridge_cycle.specs.Cyclic.{Cyclic, EntryInterval, IsLawful, entry_interval, interval_turn, phase, turn_by_time}
use Rattle.bridge_cycle.specs.CyclicLaws.{cyclic_turn_exists, cyclic_turn_is_exact, place_here, place_next}
use Rattle.bridge_gate.specs.declared.schedule.GateEntry.{GateEntry}
use Rattle.bridge_filter.specs.declared.FilterPlan.{FilterPlan}
use Rattle.bridge_config.specs.Model.{Plan}
use Rattle.bridge_groups.specs.GateIntervals.{gate_opens, is_open_turn, last_opening, turn_end, turn_limit}
use Rattle.bridge_groups.specs.MergedGates.{AreGateLists, AreMergedEntries, IsMergedList, entry_limit, first_end, is_any_open, limit_sum}
use Rattle.bridge_groups.proofs.GateCycles.{IsMovedTurn, moved, opened_turn}
use Rattle.bridge_groups.proofs.GateOpenings.{turn_stays}

-- THE FIRST END

pub first_upto : (ls : List (Cyclic GateEntry)) (t until : ℕ) → first_end ls t until ≤ until
first_upto [] t until = omega arith
first_upto (l ∷ ls) t until = let rest = first_upto ls t (min until (turn_end (turn_by_time l t))) in omega (arith, rest)

-- The first end is no later than the end of any interval.
pub first_of_each : (ls : List (Cyclic GateEntry)) (t until : ℕ) (l : Cyclic GateEntry) → IsMember l ls → first_end ls t until ≤ turn_end (turn_by_time l t)
first_of_each [] t until l i = absurd i
first_of_each (k ∷ ls) t until l (inl same) = let upto = first_upto ls t (min until (turn_end (turn_by_time k t))) in let e = ap (λ (x : Cyclic GateEntry). turn_end (turn_by_time x t)) same in omega (arith, upto, e)
first_of_each (k ∷ ls) t until l (inr i) = first_of_each ls t (min until (turn_end (turn_by_time k t))) l i

-- ENTRIES

-- One more entry.
pub one_more : (ls : List (Cyclic GateEntry)) (es : List (GateEntry × ℕ)) (e : GateEntry × ℕ) (from seen : ℕ) → 1 ≤ e.1 → (is_any_open ls seen ≡ true → e.0.lets ≡ true) → limit_sum ls seen ≤ entry_limit e.0 → ((l : Cyclic GateEntry) → IsMember l ls → seen + e.1 ≤ turn_end (turn_by_time l seen)) → AreMergedEntries ls es from seen → AreMergedEntries ls (es ++ e ∷ []) from (seen + e.1)
one_more ls [] e from seen some opens limit upto same =
    subst (λ (i : ℕ). AreMergedEntries ls (e ∷ []) i (seen + e.1)) (sym same) (some, opens, limit, upto, refl)
one_more ls (f ∷ es) e from seen some opens limit upto (a, b, c, d, rest) = (a, b, c, d, one_more ls es e (from + f.1) seen some opens limit upto rest)

-- Holds if interval `x` contains offset `p`, and its entry stands for all gates in it.
record IsMergedInterval (ls : List (Cyclic GateEntry)) (p : ℕ) (x : EntryInterval GateEntry) : Type 0 where
  pub starts : x.start ≤ p
  pub ends : p < x.end
  pub opens : is_any_open ls x.start ≡ true → x.state.lets ≡ true
  pub limit : limit_sum ls x.start ≤ entry_limit x.state
  pub upto : (l : Cyclic GateEntry) → IsMember l ls → x.end ≤ turn_end (turn_by_time l x.start)

interval_found : (ls : List (Cyclic GateEntry)) (es : List (GateEntry × ℕ)) (from cycle p : ℕ) → AreMergedEntries ls es from cycle → from ≤ p → p < cycle → (x : EntryInterval GateEntry) × (entry_interval es from cycle p ≡ Some x) × IsMergedInterval ls p x
interval_found ls [] from cycle p same low high = absurd (omega (arith, same, low, high))
interval_found ls (e ∷ []) from cycle p (some, opens, limit, upto, same) low high =
    (record { state = e.0; start = from; end = cycle }, refl, record { starts = low; ends = high; opens = opens; limit = limit; upto = λ l i. let near = upto l i in omega (arith, near, same) })
interval_found ls (e ∷ f ∷ es) from cycle p (some, opens, limit, upto, rest) low high = elim (cases_lt p (from + e.1)) [
  | inl less ↦ (record { state = e.0; start = from; end = from + e.1 }, place_here e f es from cycle p less, record { starts = low; ends = less; opens = opens; limit = limit; upto = upto })
  | inr more ↦
      let (x, there, is) = interval_found ls (f ∷ es) (from + e.1) cycle p rest more high in
      (x, place_next e f es from cycle p more ∙ there, is)
]

-- TIME

-- A time has an offset in a cycle that begins at time 0.
offset_of : (cycle t : ℕ) → 0 < cycle → (p n : ℕ) × (phase 0 cycle t ≡ p) × (p < cycle) × (t ≡ p + n * cycle)
offset_of cycle t some =
    let d : ℕ = cycle - 0 % cycle in
    let none : 0 % cycle ≡ 0 = zero-mod cycle in
    let parts = div-add-mod' (t + d) cycle in
    let below : (t + d) % cycle < cycle = mod-lt (t + d) some in
    by_whole ((t + d) / cycle) ((t + d) % cycle) (omega (arith, parts, none)) below refl
  where
    by_whole : (q p : ℕ) → q * cycle + p ≡ t + cycle → p < cycle → phase 0 cycle t ≡ p → (p n : ℕ) × (phase 0 cycle t ≡ p) × (p < cycle) × (t ≡ p + n * cycle)
    by_whole zero p e below is = absurd (omega (arith, e, below))
    by_whole (suc n) p e below is = (p, n, is, below, omega (arith, e))

multiple_of : (cycle k : ℕ) → nat_eq (cycle % k) 0 ≡ true → cycle ≡ (cycle / k) * k
multiple_of cycle k h = let parts = div-add-mod' cycle k in let none = eqb-true (cycle % k) 0 h in omega (arith, parts, none)

-- After whole common cycles, each list has the same interval, later by these cycles.
pub moved_by_common : (ls : List (Cyclic GateEntry)) (laws : (l : Cyclic GateEntry) → IsMember l ls → IsLawful l) (cycle : ℕ) (common : list_all (λ (l : Cyclic GateEntry). nat_eq (cycle % l.cycle) 0) ls ≡ true) (l : Cyclic GateEntry) → IsMember l ls → (n t : ℕ) → IsMovedTurn (turn_by_time l t) (turn_by_time l (t + n * cycle)) (n * cycle)
moved_by_common ls laws cycle common l i n t =
    let times : cycle ≡ (cycle / l.cycle) * l.cycle = multiple_of cycle l.cycle (each_passes (λ (k : Cyclic GateEntry). nat_eq (cycle % k.cycle) 0) ls l common i) in
    let by : (n * (cycle / l.cycle)) * l.cycle ≡ n * cycle = by_times n (cycle / l.cycle) l.cycle cycle times in
    subst (λ (d : ℕ). IsMovedTurn (turn_by_time l t) (turn_by_time l (t + d)) d) by (moved l (laws l i) (n * (cycle / l.cycle)) t)
  where
    by_times : (n q k c : ℕ) → c ≡ q * k → (n * q) * k ≡ n * c
    by_times n q k c e = subst (λ (i : ℕ). (n * q) * k ≡ n * i) (sym e) (grind arith)

-- The sum of limits with one more gate.
pub limit_more : (l : Cyclic GateEntry) (ls : List (Cyclic GateEntry)) (t : ℕ) → limit_sum (l ∷ ls) t ≡ turn_limit (turn_by_time l t) + limit_sum ls t
limit_more l ls t = sum_by-cons (λ (k : Cyclic GateEntry). turn_limit (turn_by_time k t)) l ls

-- The sum of limits at a later time with equal intervals.
same_limits : (ls : List (Cyclic GateEntry)) (s t : ℕ) → ((l : Cyclic GateEntry) → IsMember l ls → turn_limit (turn_by_time l t) ≡ turn_limit (turn_by_time l s)) → limit_sum ls t ≡ limit_sum ls s
same_limits [] s t each = refl
same_limits (l ∷ ls) s t each =
    let one = each l (inl refl) in
    let rest = same_limits ls s t (λ k i. each k (inr i)) in
    limit_more l ls t ∙ (same_sum (turn_limit (turn_by_time l t)) (turn_limit (turn_by_time l s)) (limit_sum ls t) (limit_sum ls s) one rest ∙ sym (limit_more l ls s))
  where
    same_sum : (a b x y : ℕ) → a ≡ b → x ≡ y → a + x ≡ b + y
    same_sum a b x y e f = omega (arith, e, f)

module _ (ls : List (Cyclic GateEntry)) (laws : (l : Cyclic GateEntry) → IsMember l ls → IsLawful l) (cycle : ℕ) (common : list_all (λ (l : Cyclic GateEntry). nat_eq (cycle % l.cycle) 0) ls ≡ true) (m : Cyclic GateEntry) (lawful : IsLawful m) (base : m.base ≡ 0) (whole : m.cycle ≡ cycle) (entries : AreMergedEntries ls m.entries 0 cycle) where
  -- The interval of the merged list at a time, and what it stands for.
  record AtTime (t : ℕ) : Type 0 where
    pub x : EntryInterval GateEntry
    pub p : ℕ
    pub n : ℕ
    pub time : t ≡ p + n * cycle
    pub turn : turn_by_time m t ≡ interval_turn t p (Some x)
    pub is : IsMergedInterval ls p x

  at_time : (t : ℕ) → AtTime t
  at_time t =
      let some : 0 < cycle = subst (λ (i : ℕ). 0 < i) whole lawful.cycle_some in
      let (p, n, place, below, time) = offset_of cycle t some in
      let (x, found, is) = interval_found ls m.entries 0 cycle p entries (omega arith) below in
      let here : phase m.base m.cycle t ≡ p = rw (base, whole) place in
      let there : entry_interval m.entries 0 m.cycle p ≡ Some x = subst (λ (i : ℕ). entry_interval m.entries 0 i p ≡ Some x) (sym whole) found in
      record { x = x; p = p; n = n; time = time; turn = rw (here, there) refl; is = is }

  module _ (t : ℕ) (a : AtTime t) where
    -- The start of the interval.
    abbrev start : ℕ
    start = a.x.start + a.n * cycle

    start_upto : start ≤ t
    start_upto = let low = a.is.starts in let time = a.time in omega (arith, low, time)

    moved_turn : (l : Cyclic GateEntry) → IsMember l ls → IsMovedTurn (turn_by_time l a.x.start) (turn_by_time l start) (a.n * cycle)
    moved_turn l i = moved_by_common ls laws cycle common l i a.n a.x.start

    -- From the interval's start to the time, each gate stays in one interval.
    stays : (l : Cyclic GateEntry) → IsMember l ls → (u : ℕ) → start ≤ u → u ≤ t → turn_by_time l u ≡ turn_by_time l start
    stays l i u from upto =
        let (y, here) = cyclic_turn_exists l start (laws l i) in
        let end = (moved_turn l i).end in
        let own : turn_end (turn_by_time l start) ≡ y.end = ap turn_end here in
        let near = a.is.upto l i in
        let ends = a.is.ends in
        let time = a.time in
        turn_stays l (laws l i) start u y here from (omega (arith, end, own, near, ends, time, upto)) ∙ sym here

    opens_at : (l : Cyclic GateEntry) → IsMember l ls → gate_opens l t ≡ true → gate_opens m t ≡ true
    opens_at l i opened =
        let same = stays l i t start_upto (omega arith) in
        let first : gate_opens l a.x.start ≡ true = sym (moved_turn l i).lets ∙ (sym (ap is_open_turn same) ∙ opened) in
        let lets = a.is.opens (passes_any (λ (k : Cyclic GateEntry). gate_opens k a.x.start) ls l i first) in
        ap is_open_turn a.turn ∙ lets

    limit_at : limit_sum ls t ≤ turn_limit (turn_by_time m t)
    limit_at =
        let same = same_limits ls a.x.start t (λ l i. ap turn_limit (stays l i t start_upto (omega arith)) ∙ (moved_turn l i).octets) in
        let upto = a.is.limit in
        let own : turn_limit (turn_by_time m t) ≡ entry_limit a.x.state = ap turn_limit a.turn in
        omega (arith, same, upto, own)

    -- While the merged list is open, its latest opening is at or after the interval's start.
    opening_after : gate_opens m t ≡ true → start ≤ last_opening m t
    opening_after opened =
        let z : ℕ = last_opening m t in
        let first : turn_by_time m z ≡ interval_turn t a.p (Some a.x) = opened_turn m lawful t opened ∙ a.turn in
        let begins = (cyclic_turn_is_exact m z (record { state = a.x.state; start = pos t -ℤ pos (a.p - a.x.start); end = t + (a.x.end - a.p) }) lawful first).begins in
        let low = a.is.starts in
        let time = a.time in
        omega (arith, ints, begins, low, time)

    same_at : (u : ℕ) (l : Cyclic GateEntry) → IsMember l ls → gate_opens m t ≡ true → last_opening m t ≤ u → u ≤ t → turn_by_time l u ≡ turn_by_time l t
    same_at u l i opened from upto =
        let after = opening_after opened in
        stays l i u (omega (arith, after, from)) upto ∙ sym (stays l i t start_upto (omega arith))

  -- The list stands for the gates.
  pub merged_is : IsMergedList ls m
  merged_is = record {
    lawful = lawful;
    opens = λ t l i. opens_at t (at_time t) l i;
    limit = λ t. limit_at t (at_time t);
    same = λ t u l i opened from upto. same_at t (at_time t) u l i opened from upto;
  }

-- LOOPS

-- The first end of the remaining intervals, after one more.
pub rest_first : (ls : List (Cyclic GateEntry)) (t end i : ℕ) (x : Cyclic GateEntry) → i < length ls → x ≡ get_or ls i x → first_end (drop i ls) t end ≡ first_end (drop (i + 1) ls) t (min end (turn_end (turn_by_time x t)))
rest_first ls t end i x there is =
    at_drop_more (λ (xs : List (Cyclic GateEntry)). first_end xs t end) ls i x there
    ∙ ap (λ (y : Cyclic GateEntry). first_end (drop (i + 1) ls) t (min end (turn_end (turn_by_time y t)))) (sym is)

-- All lists are found when no filter is left.
pub lists_found : {A : Type 0} (p : Plan A) (gs fs : List (ℕ × FilterPlan)) (i : ℕ) (ls : List (Cyclic GateEntry)) → length gs ≤ i → ((rest : List (Cyclic GateEntry)) → AreGateLists p (drop i gs) rest → AreGateLists p fs (ls ++ rest)) → AreGateLists p fs ls
lists_found p gs fs i ls past keep = subst (AreGateLists p fs) (append-nil ls) (keep [] (subst (λ (xs : List (ℕ × FilterPlan)). AreGateLists p xs []) (sym (drop_all i gs past)) tt))
