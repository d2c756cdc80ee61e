-- The longest time over all times at which a stream gate can put a frame into a class.
use Rattle.std.proofs.Common.{◌≡◌, ℕ, Bool, true, false, ◌<◌, ◌≤◌, ◌+◌, ◌-◌, ◌*◌, ◌/◌, ◌%◌, max, Some, arith, refl, sym, subst, ap, ◌∙◌, inl, inr}
use Rattle.std.proofs.Math.Nat.{mod-lt}
use Rattle.std.proofs.lemmas.Bool.{cases_lt, cases_Bool, false≢true}
use Rattle.bridge_cycle.specs.Cyclic.{Cyclic, IsLawful, turn_by_time}
use Rattle.bridge_cycle.specs.CyclicLaws.{cyclic_turn_exists, cyclic_turn_is_exact}
use Rattle.bridge_cycle.specs.declared.cyclic_list.TheConstants.{LONGEST_CYCLE}
use Rattle.bridge_cycle.specs.declared.timeline.Turn.{Turn}
use Rattle.bridge_cycle.proofs.Lists.{list_repeats}
use Rattle.bridge_cycle.proofs.Turns.{same_to_end}
use Rattle.bridge_gate.specs.declared.schedule.GateEntry.{GateEntry}
use Rattle.bridge_port.specs.GateSchedule.{list_can_fit, list_opens}
use Rattle.bridge_bounds.specs.Bounds.{FramesEnd, IsLongestTimeBetween, IsOpeningsTime, IsTimeAttainedFrom}
use Rattle.bridge_bounds.specs.Openings.{IsCommonCycle, turn_passes}
use Rattle.bridge_bounds.proofs.CommonCycles.{whole}
use Rattle.bridge_bounds.proofs.Cycles.{turn_later}
use Rattle.bridge_bounds.proofs.Edges.{ends_up}
use Rattle.bridge_bounds.proofs.Lists.{list_firsts}
use Rattle.bridge_bounds.proofs.Steps.{ends_some}

-- The times at which the gate's entry passes a test.
abbrev pub passes_at : (GateEntry → Bool) → Cyclic GateEntry → ℕ → Bool
passes_at test gate u = turn_passes test (turn_by_time gate u)

-- The longest time after openings before `seen`.
pub record IsAsked (lets opens : ℕ → Bool) (occ room seen span longest : ℕ) (found : Bool) : Type 0 where
  pub near : seen ≤ span + LONGEST_CYCLE
  pub all : (u v : ℕ) → u < seen → lets u ≡ true → FramesEnd opens occ room (u + (occ - 1)) v → v ≤ u + (occ - 1) + longest
  pub attained : found ≡ true → IsTimeAttainedFrom lets opens occ (occ - 1) room longest
  pub none : found ≡ false → (longest ≡ 0) × ((u : ℕ) → u < seen → lets u ≡ false)
  pub bounded : longest ≤ room * (2 * LONGEST_CYCLE)

pub asked_begin : (lets opens : ℕ → Bool) (occ room span : ℕ) → IsAsked lets opens occ room 0 span 0 false
asked_begin lets opens occ room span = record {
  near = omega arith;
  all = λ u v p q e. absurd (omega (arith, p));
  attained = λ h. absurd (false≢true h);
  none = λ h. (refl, λ u p. absurd (omega (arith, p)));
  bounded = omega arith;
}

-- The interval of a gate's list that has a time: the test's result doesn't change up to its end.
pub record IsGateTurn (test : GateEntry → Bool) (l : Cyclic GateEntry) (seen : ℕ) (x : Turn GateEntry) : Type 0 where
  pub ends : seen < x.end
  pub soon : x.end ≤ seen + l.cycle
  pub same : (u : ℕ) → seen ≤ u → u < x.end → passes_at test l u ≡ test x.state

pub gate_turn : (test : GateEntry → Bool) (l : Cyclic GateEntry) (seen : ℕ) (x : Turn GateEntry) → IsLawful l → turn_by_time l seen ≡ Some x → IsGateTurn test l seen x
gate_turn test l seen x lawful h =
    let is = cyclic_turn_is_exact l seen x lawful h in
    record {
      ends = is.ends;
      soon = is.soon;
      same = λ u p q. ap (turn_passes test) (same_to_end (turn_by_time l) (λ t y k. (cyclic_turn_is_exact l t y lawful k).begins) (λ t v y k. (cyclic_turn_is_exact l t y lawful k).same v) seen x h u p q);
    }

-- One closed interval more.
pub asked_past : (lets opens : ℕ → Bool) (occ room seen end span longest : ℕ) (found : Bool) → IsAsked lets opens occ room seen span longest found → seen < span → end ≤ seen + LONGEST_CYCLE → ((u : ℕ) → seen ≤ u → u < end → lets u ≡ false) → IsAsked lets opens occ room end span longest found
asked_past lets opens occ room seen end span longest found asked before soon shut = record {
  near = omega (arith, soon, before);
  all = λ u v p q e. elim (cases_lt u seen) [
    | inl l ↦ asked.all u v l q e
    | inr l ↦ absurd (false≢true (sym (shut u l p) ∙ q))
  ];
  attained = asked.attained;
  none = λ h. let (zero_time, none) = asked.none h in (zero_time, λ u p. elim (cases_lt u seen) [ inl l ↦ none u l | inr l ↦ shut u l p ]);
  bounded = asked.bounded;
}

-- One open interval more.
pub asked_more : (lets opens : ℕ → Bool) (occ room seen end span longest time : ℕ) (found : Bool) → IsAsked lets opens occ room seen span longest found → seen < span → seen < end → end ≤ seen + LONGEST_CYCLE → ((u : ℕ) → seen ≤ u → u < end → lets u ≡ true) → IsLongestTimeBetween opens occ room (seen + (occ - 1)) (end - 1 + (occ - 1)) time → time ≤ room * (2 * LONGEST_CYCLE) → IsAsked lets opens occ room end span (max time longest) true
asked_more lets opens occ room seen end span longest time found asked before on soon passes is few =
    let bounded = asked.bounded in
    record {
      near = omega (arith, soon, before);
      all = λ u v p q e. elim (cases_lt u seen) [
        | inl l ↦ let upto = asked.all u v l q e in omega (arith, upto)
        | inr l ↦ let upto = is.longest (u + (occ - 1)) v (omega (arith, l)) (omega (arith, p)) e in omega (arith, upto)
      ];
      attained = λ h. elim (cases_lt longest time) [
        | inl l ↦ here (omega (arith, l))
        | inr l ↦ elim (cases_Bool found) [
          | inl m ↦ let same : longest ≡ max time longest = omega (arith, l) in subst (IsTimeAttainedFrom lets opens occ (occ - 1) room) same (asked.attained m)
          | inr m ↦ let zero_time = (asked.none m).0 in here (omega (arith, l, zero_time))
        ]
      ];
      none = λ h. absurd (false≢true (sym h));
      bounded = omega (arith, few, bounded);
    }
  where
    here : time ≡ max time longest → IsTimeAttainedFrom lets opens occ (occ - 1) room (max time longest)
    here same =
        let (x, after, upto, ends) = is.attained in
        let u : ℕ = x - (occ - 1) in
        let at : x ≡ u + (occ - 1) = omega (arith, after) in
        let own : FramesEnd opens occ room (u + (occ - 1)) (u + (occ - 1) + time) = subst (λ (i : ℕ). FramesEnd opens occ room i (i + time)) at ends in
        (u, passes u (omega (arith, after)) (omega (arith, upto, after, on)), subst (λ (n : ℕ). FramesEnd opens occ room (u + (occ - 1)) (u + (occ - 1) + n)) same own)

-- CYCLES

-- The times at which a gate's entry passes a test repeat with its cycle time.
pub passes_repeat : (test : GateEntry → Bool) (gate : Cyclic GateEntry) (n u : ℕ) → IsLawful gate → passes_at test gate (u + n * gate.cycle) ≡ passes_at test gate u
passes_repeat test gate n u lawful =
    let (x, at) = cyclic_turn_exists gate u lawful in
    let (y, there) = cyclic_turn_exists gate (u + n * gate.cycle) lawful in
    let later = turn_later gate u n x y lawful at there in
    ap (turn_passes test) there ∙ (ap test later.state ∙ sym (ap (turn_passes test) at))

-- A time in the first common cycle, and the whole cycles to another time.
record IsFolded (gate : Cyclic GateEntry) (list : Cyclic ℕ) (span u : ℕ) : Type 0 where
  at : ℕ
  before : at < span
  gates : ℕ
  lists : ℕ
  by_gates : u ≡ at + gates * gate.cycle
  by_lists : u ≡ at + lists * list.cycle

folded : (gate : Cyclic GateEntry) (list : Cyclic ℕ) (span u : ℕ) → IsLawful gate → IsLawful list → IsCommonCycle gate list span → IsFolded gate list span u
folded gate list span u lawful made common =
    let below : u % span < span = mod-lt u common.some in
    let e : u ≡ u % span + u / span * span = grind arith in
    let gate_span = whole span gate.cycle lawful.cycle_some common.gate_cycles in
    let list_span = whole span list.cycle made.cycle_some common.list_cycles in
    record {
      at = u % span;
      before = below;
      gates = u / span * (span / gate.cycle);
      lists = u / span * (span / list.cycle);
      by_gates = folds u (u % span) (u / span) span (span / gate.cycle) gate.cycle e gate_span;
      by_lists = folds u (u % span) (u / span) span (span / list.cycle) list.cycle e list_span;
    }
  where
    folds : (u at n span m cycle : ℕ) → u ≡ at + n * span → m * cycle ≡ span → u ≡ at + n * m * cycle
    folds u at n span m cycle e is =
        let product : n * (m * cycle) ≡ n * m * cycle = grind arith in
        let same : n * span ≡ n * m * cycle = subst (λ (i : ℕ). n * i ≡ n * m * cycle) is product in
        omega (arith, e, same)

-- The search has covered a common cycle.
pub asked_all : (test : GateEntry → Bool) (gate : Cyclic GateEntry) (list : Cyclic ℕ) (class occ room seen span longest : ℕ) (found : Bool) → IsLawful gate → IsLawful list → list_can_fit list class occ ≡ true → IsCommonCycle gate list span → IsAsked (passes_at test gate) (list_opens list class) occ room seen span longest found → span ≤ seen → found ≡ true → IsOpeningsTime (passes_at test gate) (list_opens list class) occ room longest
asked_all test gate list class occ room seen span longest found lawful made can common asked all has = record {
  longest = λ u lets.
      let opens = list_opens list class in
      let f = folded gate list span u lawful made common in
      let before = f.before in
      let first : passes_at test gate f.at ≡ true = sym (passes_repeat test gate f.gates f.at lawful) ∙ (sym (ap (passes_at test gate) f.by_gates) ∙ lets) in
      let (w, ends) = ends_some opens occ room (f.at + (occ - 1)) (λ s. list_firsts list class occ s made can) in
      let upto = asked.all f.at w (omega (arith, before, all)) first ends in
      let later : FramesEnd opens occ room (f.at + (occ - 1) + f.lists * list.cycle) (w + f.lists * list.cycle) = ends_up opens list.cycle occ f.lists room (f.at + (occ - 1)) w (list_repeats list class made) ends in
      let by_lists = f.by_lists in
      let at : f.at + (occ - 1) + f.lists * list.cycle ≡ u + (occ - 1) = omega (arith, by_lists) in
      (w + f.lists * list.cycle, subst (λ (i : ℕ). FramesEnd opens occ room i (w + f.lists * list.cycle)) at later, omega (arith, upto, by_lists));
  attained = asked.attained has;
}

-- The search has found no opening.
pub asked_none : (test : GateEntry → Bool) (gate : Cyclic GateEntry) (list : Cyclic ℕ) (opens : ℕ → Bool) (occ room seen span longest : ℕ) (found : Bool) → IsLawful gate → IsLawful list → IsCommonCycle gate list span → IsAsked (passes_at test gate) opens occ room seen span longest found → span ≤ seen → found ≡ false → (u : ℕ) → passes_at test gate u ≡ false
asked_none test gate list opens occ room seen span longest found lawful made common asked all lacks u =
    let f = folded gate list span u lawful made common in
    let before = f.before in
    ap (passes_at test gate) f.by_gates ∙ (passes_repeat test gate f.gates f.at lawful ∙ (asked.none lacks).1 f.at (omega (arith, before, all)))
