-- Openings of a stream gate in later cycles.
use Rattle.std.proofs.Common.{◌≡◌, ◌<◌, ◌≤◌, ◌+◌, ◌-◌, ◌*◌, ◌/◌, ◌%◌, max, ℕ, zero, suc, Bool, true, false, not, Option, Some, None, arith, ap, refl, sym, subst, ◌∙◌, inl, inr}
use Rattle.std.specs.Prelude.{◌&&◌, nat_eq, nat_lt, if◌then◌else◌}
use Rattle.std.proofs.Math.Nat.{mod-lt}
use Rattle.std.proofs.Math.Bool.{and-false}
use Rattle.std.proofs.lemmas.Bool.{cases_lt, eq-eqb, eqb-true, false≢true}
use Rattle.std.proofs.lemmas.Bool.Decides.{nat_tests}
use Rattle.std.proofs.lemmas.Nat.{mod-mul-add}
use Rattle.bridge_limits.proofs.Cases.{by_bool}
use Rattle.bridge_cycle.specs.Cyclic.{Cyclic, EntryInterval, IsLawful, entry_interval, interval_turn, phase, turn_by_time}
use Rattle.bridge_cycle.specs.CyclicLaws.{cyclic_turn_exists, cyclic_turn_is_exact}
use Rattle.bridge_cycle.specs.Fits.{IsPeriodic}
use Rattle.bridge_cycle.specs.declared.timeline.Turn.{Turn}
use Rattle.bridge_gate.specs.declared.schedule.GateEntry.{GateEntry}
use Rattle.bridge_groups.specs.GateIntervals.{IsNextOpening, LeaveInTime, LeavesInTime, gate_opens, is_open_turn, last_opening, opening_work, turn_end, turn_limit, turn_work}
use Rattle.bridge_groups.specs.IntervalWork.{IsIntervalBound, LeavesBy}
use Rattle.bridge_groups.specs.Work.{IsNthFit}
use Rattle.bridge_groups.specs.declared.openings.Opening.{Opening}
use Rattle.bridge_groups.proofs.Cycles.{nth_later}
use Rattle.bridge_groups.proofs.GateOpenings.{opening_before, opening_here, opening_rises, opening_same, opening_until, turn_stays}
use Rattle.bridge_groups.proofs.LeaveTimes.{leaves_from_earlier, leaves_later}
use Rattle.bridge_groups.proofs.NthFits.{HasFits, nth_once, nth_some}

-- INTERVALS

phase_later : (base cycle t n : ℕ) → 0 < cycle → phase base cycle (t + n * cycle) ≡ phase base cycle t
phase_later base cycle t n some =
    let d = cycle - base % cycle in
    let below : (t + d) % cycle < cycle = mod-lt (t + d) some in
    let e : t + n * cycle + d ≡ ((t + d) / cycle + n) * cycle + (t + d) % cycle = grind arith in
    ap (λ i. i % cycle) e ∙ mod-mul-add ((t + d) / cycle + n) cycle ((t + d) % cycle) below

-- Holds if an interval is another one, later by `by` ns.
pub record IsMovedTurn (o later : Option (Turn GateEntry)) (by : ℕ) : Type 0 where
  pub lets : is_open_turn later ≡ is_open_turn o
  pub octets : turn_limit later ≡ turn_limit o
  pub end : turn_end later ≡ turn_end o + by

moved_of : (t u p by : ℕ) (x : EntryInterval GateEntry) → u ≡ t + by → IsMovedTurn (interval_turn t p (Some x)) (interval_turn u p (Some x)) by
moved_of t u p by x e = record { lets = refl; octets = refl; end = omega (arith, e) }

-- TWO NUMBERS

eq_later : (a b by : ℕ) → nat_eq (a + by) (b + by) ≡ nat_eq a b
eq_later a b by = by_bool (nat_eq a b)
    (λ e. let same = eqb-true a b e in eq-eqb (a + by) (b + by) (omega (arith, same)) ∙ sym e)
    (λ e. by_bool (nat_eq (a + by) (b + by))
    (λ f. let same = eqb-true (a + by) (b + by) f in let one = eq-eqb a b (omega (arith, same)) in absurd (false≢true (sym e ∙ one)))
    (λ f. f ∙ sym e))

is_less : (a b : ℕ) → a < b → nat_lt a b ≡ true
is_less a b h = grind (arith, nat_tests)

not_less : (a b : ℕ) → b ≤ a → nat_lt a b ≡ false
not_less a b h = grind (arith, nat_tests)

module _ (l : Cyclic GateEntry) (lawful : IsLawful l) where
  -- The latest opening's interval contains the time, if the gate is open.
  pub opened_turn : (t : ℕ) → gate_opens l t ≡ true → turn_by_time l (last_opening l t) ≡ turn_by_time l t
  opened_turn zero h = refl
  opened_turn (suc t) h = by_bool (nat_eq (turn_end (turn_by_time l t)) (turn_end (turn_by_time l (suc t))))
      (λ e.
      let (x, here) = cyclic_turn_exists l t lawful in
      let (y, there) = cyclic_turn_exists l (suc t) lawful in
      let ends = (cyclic_turn_is_exact l (suc t) y lawful there).ends in
      let same = eqb-true (turn_end (turn_by_time l t)) (turn_end (turn_by_time l (suc t))) e in
      let one : x.end ≡ y.end = sym (ap turn_end here) ∙ (same ∙ ap turn_end there) in
      let stays = turn_stays l lawful t (suc t) x here (omega arith) (omega (arith, ends, one)) in
      let equal : turn_by_time l t ≡ turn_by_time l (suc t) = here ∙ sym stays in
      rw (e, and-false) (opened_turn t (ap is_open_turn equal ∙ h) ∙ equal))
      (λ e. rw (h, e) refl)

  pub work_now : (least share t : ℕ) → gate_opens l t ≡ true → opening_work l least share (last_opening l t) ≡ turn_work least share (turn_by_time l t)
  work_now least share t h = ap (turn_work least share) (opened_turn t h)

  module _ (n : ℕ) where
    abbrev by : ℕ
    by = n * l.cycle

    pub moved : (t : ℕ) → IsMovedTurn (turn_by_time l t) (turn_by_time l (t + by)) by
    moved t =
        let p = phase l.base l.cycle t in
        let (x, here) = cyclic_turn_exists l t lawful in
        let same = phase_later l.base l.cycle t n lawful.cycle_some in
        by_place t (t + by) p refl same (entry_interval l.entries 0 l.cycle p) refl x here
      where
        by_place : (t u p : ℕ) → phase l.base l.cycle t ≡ p → phase l.base l.cycle u ≡ phase l.base l.cycle t → (o : Option (EntryInterval GateEntry)) → entry_interval l.entries 0 l.cycle p ≡ o → (x : Turn GateEntry) → turn_by_time l t ≡ Some x → IsMovedTurn (turn_by_time l t) (turn_by_time l (t + by)) by
        by_place t u p is same None e x here = absurd (cc)
        by_place t u p is same (Some z) e x here =
            let later = phase_later l.base l.cycle t n lawful.cycle_some in
            rw (later, is, e) (moved_of t (t + by) p by z refl)

-- LATER CYCLES

module _ (opens : ℕ → Bool) (occ least share common : ℕ) (some : HasFits opens occ) (repeats : IsPeriodic opens common) where
  -- Facts about times hold of equal times.
  transported : (w work from start end until : ℕ) → w ≡ work → from ≡ start → end ≡ until → LeavesBy opens occ least w from end → LeavesBy opens occ least work start until
  transported w work from start end until e f g (v, nth, by_end) =
      (v, subst (λ (i : ℕ). IsNthFit opens occ (i - least) start v) e (subst (λ (i : ℕ). IsNthFit opens occ (w - least) i v) f nth), omega (arith, by_end, g))

  leaves_moved : (w from end : ℕ) → LeavesBy opens occ least w from end → LeavesBy opens occ least w (from + common) (end + common)
  leaves_moved w from end (v, nth, by_end) = (v + common, nth_later opens occ common repeats (w - least) from v nth, omega (arith, by_end))

  leaves_back : (w from end : ℕ) → LeavesBy opens occ least w (from + common) (end + common) → LeavesBy opens occ least w from end
  leaves_back w from end (v, nth, by_end) =
      let (x, early) = nth_some opens occ (w - least) from some in
      let later = nth_later opens occ common repeats (w - least) from x early in
      let same = nth_once opens occ (w - least) (from + common) (x + common) v later nth in
      (x, early, omega (arith, same, by_end))

  module _ (l : Cyclic GateEntry) (lawful : IsLawful l) (moves : (t : ℕ) → IsMovedTurn (turn_by_time l t) (turn_by_time l (t + common)) common) where
    -- True if an open interval starts 1 ns after the time.
    abbrev starts_next : ℕ → Bool
    starts_next t = is_open_turn (turn_by_time l (suc t)) && not (nat_eq (turn_end (turn_by_time l t)) (turn_end (turn_by_time l (suc t))))

    starts_later : (t : ℕ) → starts_next (t + common) ≡ starts_next t
    starts_later t =
        let e : suc (t + common) ≡ suc t + common = omega arith in
        let lets : is_open_turn (turn_by_time l (suc (t + common))) ≡ is_open_turn (turn_by_time l (suc t)) = ap (λ (i : ℕ). is_open_turn (turn_by_time l i)) e ∙ (moves (suc t)).lets in
        let one = (moves t).end in
        let two : turn_end (turn_by_time l (suc (t + common))) ≡ turn_end (turn_by_time l (suc t)) + common = ap (λ (i : ℕ). turn_end (turn_by_time l i)) e ∙ (moves (suc t)).end in
        rw (lets, one, two, eq_later (turn_end (turn_by_time l t)) (turn_end (turn_by_time l (suc t))) common) refl

    opening_step : (t : ℕ) → (starts_next t ≡ false → last_opening l (t + common) ≡ last_opening l t + common) → last_opening l (suc t + common) ≡ last_opening l (suc t) + common
    opening_step t before =
        let e : suc t + common ≡ suc (t + common) = omega arith in
        let later = starts_later t in
        ap (last_opening l) e ∙ by_bool (starts_next t)
        (λ k. rw (later, k) (omega arith))
        (λ k. rw (later, k) (before k))

    module _ (from : ℕ) (o : Opening) (is : IsNextOpening l from o) (one : 1 ≤ from) where
      -- From the first opening on, openings recur.
      from_first : (d : ℕ) → last_opening l ((o.start + d) + common) ≡ last_opening l (o.start + d) + common
      from_first zero = first o.start (omega arith) (opening_here l lawful from o is)
        where
          first : (z : ℕ) → o.start ≡ z → last_opening l o.start ≡ o.start → last_opening l ((o.start + zero) + common) ≡ last_opening l (o.start + zero) + common
          first zero e here = let after = is.after in absurd (omega (arith, e, after, one))
          first (suc p) e here =
              let same : o.start + zero ≡ suc p = omega (arith, e) in
              let at : last_opening l (suc p) ≡ suc p = subst (λ (i : ℕ). last_opening l i ≡ i) e here in
              subst (λ (i : ℕ). last_opening l (i + common) ≡ last_opening l i + common) (sym same)
              (opening_step p (λ k. let low = opening_before l lawful p in let was : last_opening l p ≡ suc p = rw k at at in absurd (omega (arith, low, was))))
      from_first (suc d) =
          let e : o.start + suc d ≡ suc (o.start + d) = omega arith in
          subst (λ (i : ℕ). last_opening l (i + common) ≡ last_opening l i + common) (sym e) (opening_step (o.start + d) (λ k. from_first d))

      opening_later : (t : ℕ) → o.start ≤ t → last_opening l (t + common) ≡ last_opening l t + common
      opening_later t p = let e : o.start + (t - o.start) ≡ t = omega (arith, p) in subst (λ (i : ℕ). last_opening l (i + common) ≡ last_opening l i + common) e (from_first (t - o.start))

      work_later : (t : ℕ) → gate_opens l t ≡ true → opening_work l least share (last_opening l (t + common)) ≡ opening_work l least share (last_opening l t)
      work_later t lets =
          let there : gate_opens l (t + common) ≡ true = (moves t).lets ∙ lets in
          work_now l lawful least share (t + common) there ∙ (ap (λ (i : ℕ). least * i / share) (moves t).octets ∙ sym (work_now l lawful least share t lets))

      module _ (carry b c : ℕ) where
        abbrev Leaves : ℕ → Type 0
        Leaves t = gate_opens l t ≡ true → least ≤ opening_work l least share (last_opening l t) → LeavesInTime opens occ least share l carry b c t

        -- The work of an interval leaves in time one cycle later.
        leaves_next : (t : ℕ) → o.start ≤ t → Leaves t → Leaves (t + common)
        leaves_next t p before opened enough =
            let lets : gate_opens l t ≡ true = sym (moves t).lets ∙ opened in
            let same = work_later t lets in
            let z = last_opening l t in
            let here = opening_later t p in
            let is_now = before lets (omega (arith, enough, same)) in
            record {
              in_time = transported (opening_work l least share z) (opening_work l least share (last_opening l (t + common))) (max (z + carry) t + common) (max (last_opening l (t + common) + carry) (t + common)) ((t + b) + common) ((t + common) + b) (sym same) (omega (arith, here)) (omega arith) (leaves_moved (opening_work l least share z) (max (z + carry) t) (t + b) is_now.in_time);
              clears = λ u h.
                  let y = last_opening l u in
                  let w : ℕ = y - common in
                  let back : w + common ≡ y = omega (arith, h) in
                  let late : o.start ≤ w = omega (arith, h, p) in
                  let moved_on = opening_later w late in
                  let own = opening_same l lawful u y (omega arith) (opening_before l lawful u) in
                  let at : last_opening l (w + common) ≡ y = ap (last_opening l) back ∙ own in
                  let gone = is_now.clears w (omega (arith, h, moved_on, at)) in
                  transported (opening_work l least share z) (opening_work l least share (last_opening l (t + common))) (max (z + carry) t + common) (max (last_opening l (t + common) + carry) (t + common)) ((last_opening l w + c) + common) (y + c) (sym same) (omega (arith, here)) (omega (arith, moved_on, at)) (leaves_moved (opening_work l least share z) (max (z + carry) t) (last_opening l w + c) gone);
            }

        module _ (cycle_some : 1 ≤ common) (search : LeaveInTime opens occ least share l carry b c o.start (o.start + common)) where
          all_upto : (most t : ℕ) → t < most → o.start ≤ t → Leaves t
          all_upto zero t less p = absurd (omega (arith, less))
          all_upto (suc most) t less p = elim (cases_lt t (o.start + common)) [
            | inl early ↦ search t p early
            | inr late ↦
                let w : ℕ = t - common in
                let back : w + common ≡ t = omega (arith, late) in
                subst Leaves back (leaves_next w (omega (arith, late)) (all_upto most w (omega (arith, less, late, cycle_some)) (omega (arith, late))))
          ]

          pub all_leave : (t : ℕ) → o.start ≤ t → Leaves t
          all_leave t p = all_upto (t + 1) t (omega arith) p

      -- BEFORE THE FIRST OPENING

      module _ (x : Turn GateEntry) (zero_turn : turn_by_time l 0 ≡ Some x) (from_is : from ≡ x.end) (near : o.start ≤ common + common) (carry b c : ℕ) (c_fits : c ≤ carry) (all : (t : ℕ) → o.start ≤ t → Leaves carry b c t) where
        -- Before the first opening, the gate is open only in the interval of time 0.
        opened_first : (t : ℕ) → t < o.start → gate_opens l t ≡ true → x.state.lets ≡ true
        opened_first t early opened = elim (cases_lt t x.end) [
          | inl inside ↦ sym (ap is_open_turn (turn_stays l lawful 0 t x zero_turn (omega arith) inside)) ∙ opened
          | inr outside ↦ absurd (false≢true (sym (is.shut t (omega (arith, from_is, outside)) early) ∙ opened))
        ]

        first_interval : (t u : ℕ) → t < o.start → gate_opens l t ≡ true → u < o.start → last_opening l u ≡ 0
        first_interval t u early opened late =
            let at_zero : Opening = record { start = 0; turn = x } in
            let is_zero : IsNextOpening l 0 at_zero = record { after = omega arith; turn = zero_turn; lets = opened_first t early opened; starts = λ v e. absurd (omega (arith, e)); shut = λ v p q. absurd (omega (arith, q)) } in
            opening_until l lawful 0 o.start at_zero is_zero (λ v p q. is.shut v (omega (arith, from_is, p)) q) u (omega arith) (omega (arith, late))

        twice : (t : ℕ) → o.start ≤ (t + common) + common
        twice t = omega (arith, near)

        opened_later : (t : ℕ) → gate_opens l t ≡ true → gate_opens l ((t + common) + common) ≡ true
        opened_later t opened = (moves (t + common)).lets ∙ ((moves t).lets ∙ opened)

        work_twice : (t : ℕ) → gate_opens l t ≡ true → opening_work l least share (last_opening l ((t + common) + common)) ≡ opening_work l least share (last_opening l t)
        work_twice t opened = work_later (t + common) ((moves t).lets ∙ opened) ∙ work_later t opened

        -- An interval that began before time 0 leaves in time: it does so two cycles later.
        early_leaves : (t end : ℕ) → gate_opens l t ≡ true → LeavesBy opens occ least (opening_work l least share (last_opening l ((t + common) + common))) (max (last_opening l ((t + common) + common) + carry) ((t + common) + common)) ((end + common) + common) → LeavesBy opens occ least (opening_work l least share (last_opening l t)) t end
        early_leaves t end opened by_end =
            let w = opening_work l least share (last_opening l ((t + common) + common)) in
            let there = leaves_from_earlier opens occ least w some ((t + common) + common) (max (last_opening l ((t + common) + common) + carry) ((t + common) + common)) ((end + common) + common) (omega arith) by_end in
            let back = leaves_back w t end (leaves_back w (t + common) (end + common) there) in
            transported w (opening_work l least share (last_opening l t)) t t end end (work_twice t opened) refl refl back

        -- Time by which the work of earlier intervals has left: that of the first openings' predecessors before time 0 is none.
        abbrev clear_time : ℕ → ℕ
        clear_time z = if nat_lt z o.start then 0 else z + carry

        clear_late : (z : ℕ) → o.start ≤ z → clear_time z ≡ z + carry
        clear_late z p = rw (not_less z o.start p) refl

        clear_early : (z : ℕ) → z < o.start → clear_time z ≡ 0
        clear_early z p = rw (is_less z o.start p) refl

        clear_rises : (y z : ℕ) → y ≤ z → clear_time y ≤ clear_time z
        clear_rises y z p = elim (cases_lt y o.start) [
          | inl early ↦ let none = clear_early y early in omega (arith, none)
          | inr late ↦ let one = clear_late y late in let two = clear_late z (omega (arith, late, p)) in omega (arith, one, two, p)
        ]

        late_opening : (t : ℕ) → o.start ≤ t → o.start ≤ last_opening l t
        late_opening t p =
            let rises = opening_rises l lawful o.start t p in
            let here = opening_here l lawful from o is in
            omega (arith, rises, here)

        -- The work of every interval leaves by each end that bounds it.
        each_in_time : (t : ℕ) → gate_opens l t ≡ true → least ≤ opening_work l least share (last_opening l t) → LeavesBy opens occ least (opening_work l least share (last_opening l t)) (max (clear_time (last_opening l t)) t) (t + b)
        each_in_time t opened enough = elim (cases_lt t o.start) [
          | inl early ↦
              let none = first_interval t t early opened early in
              let one = is.after in
              let clear : clear_time (last_opening l t) ≡ 0 = clear_early (last_opening l t) (omega (arith, none, one, from_is, early)) in
              let later = (all ((t + common) + common) (twice t) (opened_later t opened) (let same = work_twice t opened in omega (arith, enough, same))).in_time in
              let w = opening_work l least share (last_opening l ((t + common) + common)) in
              let start = max (last_opening l ((t + common) + common) + carry) ((t + common) + common) in
              let moved_end = transported w w start start (((t + common) + common) + b) (((t + b) + common) + common) refl refl (omega arith) later in
              transported (opening_work l least share (last_opening l t)) (opening_work l least share (last_opening l t)) t (max (clear_time (last_opening l t)) t) (t + b) (t + b) refl (omega (arith, clear)) refl (early_leaves t (t + b) opened moved_end)
          | inr late ↦
              let clear = clear_late (last_opening l t) (late_opening t late) in
              transported (opening_work l least share (last_opening l t)) (opening_work l least share (last_opening l t)) (max (last_opening l t + carry) t) (max (clear_time (last_opening l t)) t) (t + b) (t + b) refl (omega (arith, clear)) refl (all t late opened enough).in_time
        ]

        each_clears : (t u : ℕ) → gate_opens l t ≡ true → t < last_opening l u → least ≤ opening_work l least share (last_opening l t) → LeavesBy opens occ least (opening_work l least share (last_opening l t)) (max (clear_time (last_opening l t)) t) (max (clear_time (last_opening l u)) (last_opening l u))
        each_clears t u opened later enough = elim (cases_lt t o.start) [
          | inl early ↦
              let y = last_opening l u in
              let own = opening_same l lawful u y (omega arith) (opening_before l lawful u) in
              let late : o.start ≤ y = elim (cases_lt y o.start) [
                | inl before ↦ let none = first_interval t y early opened before in absurd (omega (arith, none, own, later))
                | inr after ↦ after
              ] in
              let once = opening_later y late in
              let again = opening_later (y + common) (omega (arith, late)) in
              let none = first_interval t t early opened early in
              let one = is.after in
              let clear : clear_time (last_opening l t) ≡ 0 = clear_early (last_opening l t) (omega (arith, none, early)) in
              let clear_y = clear_late y late in
              let gone = (all ((t + common) + common) (twice t) (opened_later t opened) (let same = work_twice t opened in omega (arith, enough, same))).clears ((y + common) + common) (omega (arith, again, once, own, later)) in
              let w = opening_work l least share (last_opening l ((t + common) + common)) in
              let start = max (last_opening l ((t + common) + common) + carry) ((t + common) + common) in
              let moved_end = transported w w start start (last_opening l ((y + common) + common) + c) (((y + c) + common) + common) refl refl (omega (arith, again, once, own)) gone in
              let back = early_leaves t (y + c) opened moved_end in
              let by_clear = leaves_later opens occ least (opening_work l least share (last_opening l t)) some t (y + c) (max (clear_time y) y) (omega (arith, clear_y, c_fits)) back in
              transported (opening_work l least share (last_opening l t)) (opening_work l least share (last_opening l t)) t (max (clear_time (last_opening l t)) t) (max (clear_time y) y) (max (clear_time y) y) refl (omega (arith, clear)) refl by_clear
          | inr late ↦
              let clear = clear_late (last_opening l t) (late_opening t late) in
              let clear_u = clear_late (last_opening l u) (omega (arith, late, later)) in
              let gone = (all t late opened enough).clears u later in
              let by_clear = leaves_later opens occ least (opening_work l least share (last_opening l t)) some (max (last_opening l t + carry) t) (last_opening l u + c) (max (clear_time (last_opening l u)) (last_opening l u)) (omega (arith, clear_u, c_fits)) gone in
              transported (opening_work l least share (last_opening l t)) (opening_work l least share (last_opening l t)) (max (last_opening l t + carry) t) (max (clear_time (last_opening l t)) t) (max (clear_time (last_opening l u)) (last_opening l u)) (max (clear_time (last_opening l u)) (last_opening l u)) refl (omega (arith, clear)) refl by_clear
        ]

        pub bound_holds : IsIntervalBound opens (gate_opens l) occ least (last_opening l) (opening_work l least share) b
        bound_holds = record {
          has_fit = some;
          clear = clear_time;
          rises = λ t u p. clear_rises (last_opening l t) (last_opening l u) (opening_rises l lawful t u p);
          clears = each_clears;
          in_time = each_in_time;
        }
