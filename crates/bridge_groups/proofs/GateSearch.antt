-- Searches over the openings of a stream gate.
use Rattle.std.proofs.Common.{◌<◌, ◌≤◌, ◌+◌, max, ℕ, Bool, Option, Some, arith, sym, subst, ◌∙◌, inl, inr}
use Rattle.std.proofs.lemmas.Bool.{cases_lt, false≢true}
use Rattle.bridge_cycle.specs.Cyclic.{Cyclic, IsLawful}
use Rattle.bridge_cycle.specs.declared.timeline.Turn.{Turn}
use Rattle.bridge_gate.specs.declared.schedule.GateEntry.{GateEntry}
use Rattle.bridge_groups.specs.GateIntervals.{AreCovered, IsNextOpening, LeaveInTime, LeavesInTime, last_opening, opening_work, turn_work}
use Rattle.bridge_groups.specs.IntervalWork.{LeavesBy}
use Rattle.bridge_groups.specs.declared.openings.Opening.{Opening}
use Rattle.bridge_groups.specs.declared.opening_bound.GateDelays.{GateDelays}
use Rattle.bridge_groups.proofs.LeaveTimes.{leaves_later}
use Rattle.bridge_groups.proofs.NthFits.{HasFits}
use Rattle.bridge_groups.proofs.GateOpenings.{opening_before, opening_here, opening_rises, opening_until}

module _ (opens : ℕ → Bool) (occ least share carry : ℕ) (some : HasFits opens occ) (l : Cyclic GateEntry) (lawful : IsLawful l) where
  -- Bounds of an interval's delays stay bounds if they grow.
  pub longer : (b c d e t : ℕ) → b ≤ d → c ≤ e → LeavesInTime opens occ least share l carry b c t → LeavesInTime opens occ least share l carry d e t
  longer b c d e t h k is =
      let z = last_opening l t in
      record {
        in_time = leaves_later opens occ least (opening_work l least share z) some (max (z + carry) t) (t + b) (t + d) (omega (arith, h)) is.in_time;
        clears = λ u p. leaves_later opens occ least (opening_work l least share z) some (max (z + carry) t) (last_opening l u + c) (last_opening l u + e) (omega (arith, k)) (is.clears u p);
      }

  module _ (from : ℕ) (o n : Opening) (is : IsNextOpening l from o) (next : IsNextOpening l o.turn.end n) where
    -- After a time of the interval, the next opening is the first one.
    next_after : (t u : ℕ) → o.start ≤ t → t < last_opening l u → n.start ≤ last_opening l u
    next_after t u after later = elim (cases_lt u n.start) [
      | inl less ↦ elim (cases_lt u o.start) [
        | inl early ↦ let before = opening_before l lawful u in absurd (omega (arith, early, before, later, after))
        | inr late ↦
            let same = opening_until l lawful from n.start o is (λ v p q. next.shut v p q) u late (omega (arith, less)) in
            absurd (omega (arith, same, later, after))
      ]
      | inr late ↦
          let rises = opening_rises l lawful n.start u late in
          let here = opening_here l lawful o.turn.end n next in
          omega (arith, rises, here)
    ]

    -- The times up to the next opening are covered.
    pub covers_more : (b c first : ℕ) (d : GateDelays) → b ≤ d.longest → c ≤ d.carry → AreCovered opens occ least share o n.start carry d → LeaveInTime opens occ least share l carry b c first o.start → LeaveInTime opens occ least share l carry d.longest d.carry first n.start
    covers_more b c first d longer_is carry_is covered before t p q lets some_work = elim (cases_lt t o.start) [
      | inl early ↦ longer b c d.longest d.carry t longer_is carry_is (before t p early lets some_work)
      | inr late ↦ elim (cases_lt t o.turn.end) [
        | inl inside ↦
            let same = opening_until l lawful from n.start o is (λ v r s. next.shut v r s) t late (omega (arith, inside)) in
            let enough : least ≤ turn_work least share (Some o.turn) = subst (λ (i : Option (Turn GateEntry)). least ≤ turn_work least share i) is.turn (subst (λ (i : ℕ). least ≤ opening_work l least share i) same some_work) in
            let (done, gone) = covered t late inside enough in
            let at : (end : ℕ) → LeavesBy opens occ least (turn_work least share (Some o.turn)) (max (o.start + carry) t) end → LeavesBy opens occ least (opening_work l least share (last_opening l t)) (max (last_opening l t + carry) t) end =
            λ end by. subst (λ (i : ℕ). LeavesBy opens occ least (opening_work l least share i) (max (i + carry) t) end) (sym same) (subst (λ (i : Option (Turn GateEntry)). LeavesBy opens occ least (turn_work least share i) (max (o.start + carry) t) end) (sym is.turn) by) in
            record {
              in_time = at (t + d.longest) done;
              clears = λ u h. let after = next_after t u late h in at (last_opening l u + d.carry) (leaves_later opens occ least (turn_work least share (Some o.turn)) some (max (o.start + carry) t) (n.start + d.carry) (last_opening l u + d.carry) (omega (arith, after)) gone);
            }
        | inr outside ↦ absurd (false≢true (sym (next.shut t outside q) ∙ lets))
      ]
    ]
