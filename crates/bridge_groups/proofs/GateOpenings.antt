-- Openings of a stream gate.
use Rattle.std.proofs.Common.{◌≡◌, ◌<◌, ◌≤◌, ◌+◌, ◌-◌, max, ℕ, zero, suc, true, false, not, Some, arith, ap, refl, sym, subst, ◌∙◌, inl, inr}
use Rattle.std.specs.Prelude.{◌&&◌, nat_eq}
use Rattle.std.proofs.lemmas.Bool.{cases_lt, eq-eqb, eqb-true}
use Rattle.std.proofs.Math.Bool.{and-false}
use Rattle.bridge_limits.proofs.Cases.{by_bool}
use Rattle.bridge_cycle.specs.Cyclic.{Cyclic, IsLawful, turn_by_time}
use Rattle.bridge_cycle.specs.CyclicLaws.{cyclic_turn_is_exact}
use Rattle.bridge_cycle.specs.declared.timeline.Turn.{Turn}
use Rattle.bridge_cycle.proofs.Turns.{same_to_end}
use Rattle.bridge_gate.specs.declared.schedule.GateEntry.{GateEntry}
use Rattle.bridge_groups.specs.GateIntervals.{IsNextOpening, IsTurnStart, gate_opens, is_open_turn, last_opening, turn_end}
use Rattle.bridge_groups.specs.IntervalWork.{AreIntervals}
use Rattle.bridge_groups.specs.declared.openings.Opening.{Opening}

module _ (l : Cyclic GateEntry) (lawful : IsLawful l) where
  -- An interval that contains time `seen` contains each later time before its end.
  pub turn_stays : (seen u : ℕ) (x : Turn GateEntry) → turn_by_time l seen ≡ Some x → seen ≤ u → u < x.end → turn_by_time l u ≡ Some x
  turn_stays seen u x h p q = same_to_end (turn_by_time l) (λ t y k. (cyclic_turn_is_exact l t y lawful k).begins) (λ t v y k. (cyclic_turn_is_exact l t y lawful k).same v) seen x h u p q

  -- The end of an interval is the start of the next.
  pub ends_start : (seen : ℕ) (x : Turn GateEntry) → turn_by_time l seen ≡ Some x → IsTurnStart l x.end
  ends_start seen x h t e =
      let ends = (cyclic_turn_is_exact l seen x lawful h).ends in
      let same = turn_stays seen t x h (omega (arith, e, ends)) (omega (arith, e)) in
      ap turn_end same

  -- A closed interval adds closed times.
  pub shut_on : (from seen : ℕ) (x : Turn GateEntry) → turn_by_time l seen ≡ Some x → x.state.lets ≡ false → ((t : ℕ) → from ≤ t → t < seen → gate_opens l t ≡ false) → (t : ℕ) → from ≤ t → t < x.end → gate_opens l t ≡ false
  shut_on from seen x h closed before t p q = elim (cases_lt t seen) [
    | inl less ↦ before t p less
    | inr less ↦ ap is_open_turn (turn_stays seen t x h less q) ∙ closed
  ]

  -- The latest opening is no later than the time.
  pub opening_before : (t : ℕ) → last_opening l t ≤ t
  opening_before zero = omega arith
  opening_before (suc t) = let before = opening_before t in by_bool (is_open_turn (turn_by_time l (suc t)) && not (nat_eq (turn_end (turn_by_time l t)) (turn_end (turn_by_time l (suc t)))))
      (λ e. rw e (omega arith))
      (λ e. rw e (omega (arith, before)))

  -- From the latest opening up to the time, the latest opening is the same.
  pub opening_same : (t u : ℕ) → last_opening l t ≤ u → u ≤ t → last_opening l u ≡ last_opening l t
  opening_same zero u p q = let same : u ≡ 0 = omega (arith, q) in ap (last_opening l) same
  opening_same (suc t) u p q = elim (cases_lt u (suc t)) [
    | inl less ↦ by_bool (is_open_turn (turn_by_time l (suc t)) && not (nat_eq (turn_end (turn_by_time l t)) (turn_end (turn_by_time l (suc t)))))
        (λ e. let late : suc t ≤ u = rw e at p in absurd (omega (arith, late, less)))
        (λ e. let upto : last_opening l t ≤ u = rw e at p in rw e (opening_same t u upto (omega (arith, less))))
    | inr less ↦ let same : u ≡ suc t = omega (arith, less, q) in ap (last_opening l) same
  ]

  -- Openings group times into intervals.
  pub openings_are_intervals : AreIntervals (last_opening l)
  openings_are_intervals = record { before = opening_before; same = opening_same }

  -- The latest opening is no earlier at a later time.
  pub opening_rises : (t u : ℕ) → t ≤ u → last_opening l t ≤ last_opening l u
  opening_rises t u h = elim (cases_lt t (last_opening l u)) [
    | inl less ↦ let before = opening_before t in omega (arith, less, before)
    | inr less ↦ let same = opening_same u t less h in omega (arith, same)
  ]

  -- An opening is the latest opening at its start.
  pub opening_here : (from : ℕ) (o : Opening) → IsNextOpening l from o → last_opening l o.start ≡ o.start
  opening_here from o is = here o.start refl
    where
      here : (z : ℕ) → z ≡ o.start → last_opening l z ≡ z
      here zero e = refl
      here (suc t) e =
          let turn : turn_by_time l (suc t) ≡ Some o.turn = ap (turn_by_time l) e ∙ is.turn in
          let ends = (cyclic_turn_is_exact l (suc t) o.turn lawful turn).ends in
          let end : turn_end (turn_by_time l t) ≡ suc t = is.starts t e ∙ sym e in
          let opened : is_open_turn (turn_by_time l (suc t)) ≡ true = ap is_open_turn turn ∙ is.lets in
          let later : turn_end (turn_by_time l (suc t)) ≡ o.turn.end = ap turn_end turn in
          by_bool (nat_eq (turn_end (turn_by_time l t)) (turn_end (turn_by_time l (suc t))))
          (λ k. let same = eqb-true (turn_end (turn_by_time l t)) (turn_end (turn_by_time l (suc t))) k in absurd (omega (arith, same, end, later, ends)))
          (λ k. rw (opened, k) refl)

  module _ (from next : ℕ) (o : Opening) (is : IsNextOpening l from o) where
    -- In an open interval, and while the gate stays closed after it, the latest opening is its start.
    stays_here : ((t : ℕ) → o.turn.end ≤ t → t < next → gate_opens l t ≡ false) → (d : ℕ) → o.start + d < max o.turn.end next → last_opening l (o.start + d) ≡ o.start
    stays_here shut zero less = let same : o.start + zero ≡ o.start = omega arith in ap (last_opening l) same ∙ opening_here from o is
    stays_here shut (suc d) less =
        let t : ℕ = o.start + d in
        let next_is : o.start + suc d ≡ suc t = omega arith in
        let before = stays_here shut d (omega (arith, less)) in
        ap (last_opening l) next_is ∙ elim (cases_lt (suc t) o.turn.end) [
          | inl inside ↦
              let here = turn_stays o.start t o.turn is.turn (omega arith) (omega (arith, inside)) in
              let there = turn_stays o.start (suc t) o.turn is.turn (omega arith) inside in
              let same : nat_eq (turn_end (turn_by_time l t)) (turn_end (turn_by_time l (suc t))) ≡ true = eq-eqb (turn_end (turn_by_time l t)) (turn_end (turn_by_time l (suc t))) (ap turn_end (here ∙ sym there)) in
              rw (same, and-false) before
          | inr outside ↦
              let closed = shut (suc t) outside (omega (arith, less, outside)) in
              rw closed before
        ]

    pub opening_until : ((t : ℕ) → o.turn.end ≤ t → t < next → gate_opens l t ≡ false) → (t : ℕ) → o.start ≤ t → t < max o.turn.end next → last_opening l t ≡ o.start
    opening_until shut t p q = let same : o.start + (t - o.start) ≡ t = omega (arith, p) in subst (λ (i : ℕ). last_opening l i ≡ o.start) same (stays_here shut (t - o.start) (omega (arith, p, q)))
