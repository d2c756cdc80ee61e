-- The longest time under one list, and under both lists of a schedule change.
use Rattle.std.proofs.Common.{◌≡◌, ℕ, Bool, true, ◌<◌, ◌≤◌, ◌+◌, ◌-◌, ◌*◌, max, min, Some, arith, refl, sym, subst, ap, ◌∙◌, inl, inr}
use Rattle.std.proofs.lemmas.Bool.{cases_lt}
use Rattle.bridge_cycle.specs.Cyclic.{Cyclic, IsLawful, turn_by_time}
use Rattle.bridge_cycle.specs.CyclicLaws.{cyclic_turn_is_exact}
use Rattle.bridge_cycle.specs.Opens.{turn_opens}
use Rattle.bridge_cycle.specs.declared.timeline.Turn.{Turn}
use Rattle.bridge_cycle.proofs.Turns.{same_to_end}
use Rattle.bridge_cycle.specs.ChangingList.{Joined}
use Rattle.bridge_cycle.specs.Fits.{IsFirstFit}
use Rattle.bridge_cycle.specs.declared.cyclic_list.TheConstants.{LONGEST_CYCLE}
use Rattle.bridge_cycle.proofs.Changes.{opens_after, opens_before}
use Rattle.bridge_cycle.proofs.Lists.{list_repeats}
use Rattle.bridge_frame.specs.Link.{transmission_time}
use Rattle.bridge_port.specs.GateSchedule.{Always, can_fit, Changing, HasLawfulLists, list_can_fit, list_opens, gate_schedule, opens, lists_open}
use Rattle.bridge_port.proofs.Opening.{ever_soon, list_ever_is, list_soon}
use Rattle.bridge_config.specs.declared.ports.PortPlan.{PortPlan}
use Rattle.bridge_check.specs.Windows.{longest_frame}
use Rattle.bridge_bounds.specs.Bounds.{FramesEnd, IsTimeAttained, IsFramesBound, IsEdge, IsLeastTime, IsLongestTime}
use Rattle.bridge_bounds.specs.Intervals.{IsLongestAfterEdges}
use Rattle.bridge_bounds.proofs.Steps.{ends_open, ends_once, ends_some}
use Rattle.bridge_bounds.proofs.Edges.{first_some, IsCovered, no_longer}
use Rattle.bridge_bounds.proofs.Changed.{longest_over}

-- `room` frames that wait from time `v` on take at most `d` ns.
abbrev pub TakeAtMost : (ℕ → Bool) → ℕ → ℕ → ℕ → ℕ → Type 0
TakeAtMost opens occ room d v = (z : ℕ) → FramesEnd opens occ room v z → z ≤ v + d

-- The longest time of the search between two times, up to the last interval that it has covered.
pub record IsTried (opens : ℕ → Bool) (occ room from to seen d : ℕ) : Type 0 where
  pub begun : from + (occ - 1) ≤ seen
  pub near : seen ≤ to + (occ - 1) + LONGEST_CYCLE
  pub start : TakeAtMost opens occ room d from
  pub edges : (c : ℕ) → from ≤ c → c < to → c + occ ≤ seen → IsEdge opens occ c → TakeAtMost opens occ room d (c + 1)
  pub attained : (u : ℕ) × (from ≤ u) × (u ≤ to) × FramesEnd opens occ room u (u + d)
  pub bounded : d ≤ room * (2 * LONGEST_CYCLE)

pub tried_begin : (opens : ℕ → Bool) (occ room from to d : ℕ) → 1 ≤ occ → from ≤ to → FramesEnd opens occ room from (from + d) → d ≤ room * (2 * LONGEST_CYCLE) → IsTried opens occ room from to (from + (occ - 1)) d
tried_begin opens occ room from to d some times e soon = record {
  begun = omega arith;
  near = omega (arith, times);
  start = λ z f. let same = ends_once opens occ room from z (from + d) f e in omega (arith, same);
  edges = λ c p q r. absurd (omega (arith, p, r, some));
  attained = (from, omega arith, times, e);
  bounded = omega (arith, soon);
}

-- No edge lies inside an interval.
none_inside : (opens : ℕ → Bool) (occ c seen end : ℕ) → 1 ≤ occ → seen < c + occ → c + occ < end → ((u : ℕ) → seen ≤ u → u < end → opens u ≡ opens seen) → ¬ IsEdge opens occ c
none_inside opens occ c seen end some a b same edge =
    let begun : opens seen ≡ true = sym (same (c + occ - 1) (omega (arith, a)) (omega (arith, b))) ∙ edge.fits (c + occ - 1) (omega (arith, some)) (omega (arith, some)) in
    edge.last (λ u p q. elim (cases_lt u (c + occ)) [
      | inl l ↦ edge.fits u (omega (arith, p)) l
      | inr l ↦ same u (omega (arith, l, a)) (omega (arith, q, b)) ∙ begun
    ])

-- One interval more, without an edge at its end.
pub tried_past : (opens : ℕ → Bool) (occ room from to seen end d : ℕ) → IsTried opens occ room from to seen d → 1 ≤ occ → seen < to + (occ - 1) → seen < end → end ≤ seen + LONGEST_CYCLE → ((u : ℕ) → seen ≤ u → u < end → opens u ≡ opens seen) → ¬ IsEdge opens occ (min end (to + (occ - 1)) - occ) → IsTried opens occ room from to end d
tried_past opens occ room from to seen end d t some short on soon same none =
    let begun = t.begun in
    record {
      begun = omega (arith, begun, on);
      near = omega (arith, soon, short);
      start = t.start;
      edges = λ c p q r edge. elim (cases_lt seen (c + occ)) [
        | inr l ↦ t.edges c p q l edge
        | inl l ↦ elim (cases_lt (c + occ) end) [
          | inl m ↦ absurd (none_inside opens occ c seen end some l m same edge)
          | inr m ↦ let here : c ≡ min end (to + (occ - 1)) - occ = omega (arith, m, r, q, some) in absurd (none (subst (IsEdge opens occ) here edge))
        ]
      ];
      attained = t.attained;
      bounded = t.bounded;
    }

-- A bound stays a bound if it grows.
longer : (opens : ℕ → Bool) (occ room d e v : ℕ) → d ≤ e → TakeAtMost opens occ room d v → TakeAtMost opens occ room e v
longer opens occ room d e v h t z f = let before = t z f in omega (arith, before, h)

-- The greater of two attained times is attained.
pub attained_by : (opens : ℕ → Bool) (occ room from to d e u : ℕ) → ((v : ℕ) × (from ≤ v) × (v ≤ to) × FramesEnd opens occ room v (v + d)) → from ≤ u → u ≤ to → FramesEnd opens occ room u (u + e) → (v : ℕ) × (from ≤ v) × (v ≤ to) × FramesEnd opens occ room v (v + max e d)
attained_by opens occ room from to d e u (v, p, q, a) after before b = elim (cases_lt d e) [
  | inl l ↦ let is : u + e ≡ u + max e d = omega (arith, l) in (u, after, before, subst (FramesEnd opens occ room u) is b)
  | inr l ↦ let is : v + d ≡ v + max e d = omega (arith, l) in (v, p, q, subst (FramesEnd opens occ room v) is a)
]

-- One interval more, with an edge at its end.
pub tried_edge : (opens : ℕ → Bool) (occ room from to seen end d e : ℕ) → IsTried opens occ room from to seen d → 1 ≤ occ → seen < to + (occ - 1) → seen < end → end ≤ seen + LONGEST_CYCLE → ((u : ℕ) → seen ≤ u → u < end → opens u ≡ opens seen) → FramesEnd opens occ room (min end (to + (occ - 1)) - occ + 1) (min end (to + (occ - 1)) - occ + 1 + e) → e ≤ room * (2 * LONGEST_CYCLE) → IsTried opens occ room from to end (max e d)
tried_edge opens occ room from to seen end d e t some short on soon same ends few =
    let begun = t.begun in
    let bounded = t.bounded in
    let last : ℕ = min end (to + (occ - 1)) - occ in
    record {
      begun = omega (arith, begun, on);
      near = omega (arith, soon, short);
      start = longer opens occ room d (max e d) from (omega arith) t.start;
      edges = λ c p q r edge. elim (cases_lt seen (c + occ)) [
        | inr l ↦ longer opens occ room d (max e d) (c + 1) (omega arith) (t.edges c p q l edge)
        | inl l ↦ elim (cases_lt (c + occ) end) [
          | inl m ↦ absurd (none_inside opens occ c seen end some l m same edge)
          | inr m ↦
              let here : last + 1 ≡ c + 1 = omega (arith, m, r, q, some) in
              λ z f.
              let own : FramesEnd opens occ room (last + 1) z = subst (λ (i : ℕ). FramesEnd opens occ room i z) (sym here) f in
              let is = ends_once opens occ room (last + 1) z (last + 1 + e) own ends in
              omega (arith, is, here)
        ]
      ];
      attained = attained_by opens occ room from to d e (last + 1) t.attained (omega (arith, begun, on, short, some)) (omega (arith, short, begun, some)) ends;
      bounded = omega (arith, few, bounded);
    }

-- Each time of a list has a first fit.
pub list_firsts : (l : Cyclic ℕ) (class occ u : ℕ) → IsLawful l → list_can_fit l class occ ≡ true → (s : ℕ) × IsFirstFit (list_opens l class) occ u s
list_firsts l class occ u lawful can =
    let near = list_soon l class occ u lawful can in
    first_some (list_opens l class) occ u near.0 near.1 near.3

-- The search has covered all times.
pub tried_all : (opens : ℕ → Bool) (occ room from to seen d : ℕ) → IsTried opens occ room from to seen d → to + (occ - 1) ≤ seen → 1 ≤ occ → IsLongestAfterEdges opens occ room from to d
tried_all opens occ room from to seen d t all some = record {
  start = t.start;
  edges = λ c v p q edge e. t.edges c p q (omega (arith, q, all, some)) edge v e;
  attained = t.attained;
}

-- If the search has covered one cycle, its longest time is the longest of all times.
pub cycle_longest : (l : Cyclic ℕ) (class occ room d : ℕ) → IsLawful l → list_can_fit l class occ ≡ true → IsLongestAfterEdges (list_opens l class) occ room 0 (l.cycle + 1) d → IsLongestTime (list_opens l class) occ room d
cycle_longest l class occ room d lawful can t u =
    let opens = list_opens l class in
    let (fit, fits) = (list_ever_is l class occ lawful).0 can in
    let covered : IsCovered opens l.cycle occ (TakeAtMost opens occ room d) = record {
      cycle_some = lawful.cycle_some;
      repeats = list_repeats l class lawful;
      fit = fit;
      fits = fits;
      start = 0;
      serves = t.start;
      edges = λ c p q edge z e. t.edges c z (omega arith) (omega (arith, q)) edge e;
    } in
    let (v, most, shorter) = no_longer opens l.cycle occ (TakeAtMost opens occ room d) room u covered in
    let (y, ends) = ends_some opens occ room u (λ w. list_firsts l class occ w lawful can) in
    let (z, other) = ends_some opens occ room v (λ w. list_firsts l class occ w lawful can) in
    let less = shorter y z ends other in
    let upto = most z other in
    (y, ends, omega (arith, less, upto))

-- Without a list, frames leave one after another.
pub always_longest : (class occ room : ℕ) → IsLongestTime (opens Always class) occ room (room * occ)
always_longest class occ room u = (u + room * occ, ends_open (opens Always class) occ room u (λ w. refl), omega arith)

pub always_attained : (class occ room : ℕ) → IsTimeAttained (opens Always class) occ room (room * occ)
always_attained class occ room = (0, ends_open (opens Always class) occ room 0 (λ w. refl))

-- With a schedule change, the sum of both longest times is a longest time.
pub exchanged_longest : (j : Joined ℕ) (class occ room d e : ℕ) → HasLawfulLists (Changing j) → can_fit (Changing j) class occ ≡ true → IsLongestTime (list_opens j.old class) occ room d → IsLongestTime (list_opens j.new class) occ room e → IsLongestTime (opens (Changing j) class) occ room (d + e)
exchanged_longest j class occ room d e made can one other =
    longest_over (list_opens j.old class) (list_opens j.new class) (opens (Changing j) class) j.at occ room d e
    (record { before = λ w l. opens_before j class w l; after = λ w l. opens_after j class w l })
    (λ w. let near = ever_soon (Changing j) class occ w made can in first_some (opens (Changing j) class) occ w near.0 near.1 near.3)
    one other

-- The first fit comes within a longest cycle.
pub fit_soon : (l : Cyclic ℕ) (class occ from s : ℕ) → IsLawful l → list_can_fit l class occ ≡ true → IsFirstFit (list_opens l class) occ from s → s ≤ from + LONGEST_CYCLE
fit_soon l class occ from s lawful can first =
    let near = list_soon l class occ from lawful can in
    let before = near.2 in
    elim (cases_lt near.0 s) [ inl m ↦ absurd (first.least near.0 near.1 m near.3) | inr m ↦ omega (arith, m, before) ]

-- The interval of a list that has a time: the list doesn't change up to its end.
pub record IsListTurn (l : Cyclic ℕ) (class seen end : ℕ) : Type 0 where
  pub ends : seen < end
  pub soon : end ≤ seen + l.cycle
  pub same : (u : ℕ) → seen ≤ u → u < end → list_opens l class u ≡ list_opens l class seen

pub list_turn : (l : Cyclic ℕ) (class seen : ℕ) (x : Turn ℕ) → IsLawful l → turn_by_time l seen ≡ Some x → IsListTurn l class seen x.end
list_turn l class seen x lawful h =
    let is = cyclic_turn_is_exact l seen x lawful h in
    record {
      ends = is.ends;
      soon = is.soon;
      same = λ u p q. ap (λ o. turn_opens o class) (same_to_end (turn_by_time l) (λ t y k. (cyclic_turn_is_exact l t y lawful k).begins) (λ t v y k. (cyclic_turn_is_exact l t y lawful k).same v) seen x h u p q ∙ sym h);
    }

-- The result for a class is the bound of its frames, if `o` is the longest frame's transmission time.
abbrev pub bound_is : {A : Type 0} (out : PortPlan A) (c m k o l : ℕ) → o ≡ transmission_time (longest_frame m) out.speed → IsLongestTime (lists_open out.list c) o k l → IsLeastTime (gate_schedule out.list) c o k l → IsFramesBound out c m k (o - 1 + l)
bound_is out c m k o l occ is_longest is_least = record {
  longest = l;
  is_longest = subst (λ (n : ℕ). IsLongestTime (lists_open out.list c) n k l) occ is_longest;
  is_least = subst (λ (n : ℕ). IsLeastTime (gate_schedule out.list) c n k l) occ is_least;
  bound = ap (λ (n : ℕ). n - 1 + l) occ;
}
