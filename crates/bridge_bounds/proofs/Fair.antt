-- A schedule that passes each frame of a traffic, in every period.
use Rattle.std.proofs.Common.{◌≡◌, ℕ, true, ◌<◌, ◌≤◌, ◌+◌, ◌-◌, ◌*◌, ◌/◌, ◌%◌, min, Option, None, Some, arith, ap, refl, sym, subst, ◌∙◌, inl, inr}
use Rattle.std.proofs.lemmas.Bool.{and_parts, cases_lt, eqb-true}
use Rattle.std.proofs.lemmas.Bool.Decides.{nat_tests}
use Rattle.std.proofs.lemmas.Option.{same_Some}
use Rattle.bridge_cycle.specs.Cyclic as cyclic
use Rattle.bridge_cycle.specs.CyclicLaws.{cyclic_turn_exists, cyclic_turn_is_exact}
use Rattle.bridge_cycle.specs.ChangingList as joined
use Rattle.bridge_cycle.specs.ChangingListLaws.{turn_is_new, turn_is_old, changing_turn_exists, changing_turn_is_exact, list_turn_is_exact}
use Rattle.bridge_cycle.specs.declared.timeline.Turn.{Turn}
use Rattle.bridge_cycle.proofs.Turns.{same_to_end}
use Rattle.bridge_gate.specs.declared.schedule.GateEntry.{GateEntry}
use Rattle.bridge_gate.specs.declared.schedule.Schedule.{Schedule}
use Rattle.bridge_gate.specs.declared.schedule.Schedule.TheVariants.{Cyclic, Fixed, Joined}
use Rattle.bridge_gate.specs.Schedules.{IsLawful, turn_by_time}
use Rattle.bridge_bounds.proofs.Cycles.{turn_later}
use Rattle.bridge_bounds.specs.Latency.{IsMultiple}
use Rattle.bridge_bounds.specs.declared.traffic.Traffic.{Traffic}
use Rattle.bridge_bounds.specs.Passing.{CanPassSchedule, CanPassList, allows, is_limit_reset_in_time}
use Rattle.bridge_bounds.specs.Traffic.{IsTraffic}

-- The interval passes one frame, and its octet limit, if any, ends by time `until`.
pub record IsFairTurn (x : Turn GateEntry) (sdu until : ℕ) : Type 0 where
  pub lets : x.state.lets ≡ true
  pub allows : allows x.state.octets sdu ≡ true
  pub ends : (limit : ℕ) → x.state.octets ≡ Some limit → x.end ≤ until

-- Each interval at the phases of a period passes one frame, and its limit ends before the next period's first phase.
abbrev pub IsFair : (ℕ → Option (Turn GateEntry)) → Traffic → ℕ → Type 0
IsFair turns t sdu = (p u : ℕ) (x : Turn GateEntry) → IsMultiple t.period p → t.from + p ≤ u → u ≤ t.to + p → turns u ≡ Some x → IsFairTurn x sdu (p + t.from + t.period)

ends_at : (octets : Option ℕ) (limit end until : ℕ) → is_limit_reset_in_time octets end until ≡ true → octets ≡ Some limit → end ≤ until
ends_at None limit end until h e = absurd (cc)
ends_at (Some k) limit end until h e = grind (arith, nat_tests)

-- An interval at a phase of the first period is fair.
first_turn : (l : cyclic.Cyclic GateEntry) (t : Traffic) (sdu u : ℕ) (x : Turn GateEntry) → cyclic.IsLawful l → IsTraffic t → CanPassList l t sdu → t.from ≤ u → u ≤ t.to → cyclic.turn_by_time l u ≡ Some x → IsFairTurn x sdu (t.from + t.period)
first_turn l t sdu u x lawful traffic h p q i =
    let (lets, octets) = and_parts x.state.lets (allows x.state.octets sdu) (h.are_let u x p q i) in
    record {
      lets = lets;
      allows = octets;
      ends = λ limit is. elim (cases_lt t.to x.end) [
        | inl m ↦
            let last : cyclic.turn_by_time l t.to ≡ Some x = same_to_end (cyclic.turn_by_time l) (λ v z k. (cyclic_turn_is_exact l v z lawful k).begins) (λ v w z k. (cyclic_turn_is_exact l v z lawful k).same w) u x i t.to q m in
            ends_at x.state.octets limit x.end (t.from + t.period) (h.ends x last) is
        | inr m ↦ let within = traffic.within in omega (arith, m, within)
      ];
    }

-- An interval at a phase of any period is fair.
pub list_fair : (l : cyclic.Cyclic GateEntry) (t : Traffic) (sdu : ℕ) → cyclic.IsLawful l → IsTraffic t → CanPassList l t sdu → IsFair (cyclic.turn_by_time l) t sdu
list_fair l t sdu lawful traffic h p u x (k, same) low high i =
    let none : t.period % l.cycle ≡ 0 = eqb-true (t.period % l.cycle) 0 h.repeats in
    let whole : t.period ≡ t.period / l.cycle * l.cycle = grind arith in
    let far : p ≡ k * (t.period / l.cycle) * l.cycle = times k t.period (t.period / l.cycle) l.cycle p whole same in
    let v = u - p in
    let back : v + p ≡ u = omega (arith, low) in
    let (y, at) = cyclic_turn_exists l v lawful in
    let here : cyclic.turn_by_time l (v + k * (t.period / l.cycle) * l.cycle) ≡ Some x = subst (λ (w : ℕ). cyclic.turn_by_time l w ≡ Some x) (sym back ∙ ap (λ n. v + n) far) i in
    let later = turn_later l v (k * (t.period / l.cycle)) y x lawful at here in
    let end = later.end in
    let fair = first_turn l t sdu v y lawful traffic h (omega (arith, low)) (omega (arith, high)) at in
    record {
      lets = subst (λ (e : GateEntry). e.lets ≡ true) (sym later.state) fair.lets;
      allows = subst (λ (e : GateEntry). allows e.octets sdu ≡ true) (sym later.state) fair.allows;
      ends = λ limit is. let turn_is_old = fair.ends limit (subst (λ (e : GateEntry). e.octets ≡ Some limit) later.state is) in omega (arith, turn_is_old, end, far);
    }
  where
    times : (k period n cycle p : ℕ) → period ≡ n * cycle → p ≡ k * period → p ≡ k * n * cycle
    times k period n cycle p a b = grind arith

joined_fair : (j : joined.Joined GateEntry) (t : Traffic) (sdu : ℕ) → IsFair (cyclic.turn_by_time j.old) t sdu → IsFair (cyclic.turn_by_time j.new) t sdu → joined.IsLawful j → IsFair (joined.turn_by_time j) t sdu
joined_fair j t sdu old new lawful p u x multiple low high i = elim (cases_lt u j.at) [
  | inl m ↦
      let (y, at) = cyclic_turn_exists j.old u lawful.old in
      let fair = old p u y multiple low high at in
      let is : record { state = y.state; start = y.start; end = min y.end j.at } ≡ x = same_Some _ x (sym (turn_is_old j u m ∙ ap (joined.clip_end j.at) at) ∙ i) in
      subst (λ (z : Turn GateEntry). IsFairTurn z sdu (p + t.from + t.period)) is (record {
        lets = fair.lets;
        allows = fair.allows;
        ends = λ limit o. let by = fair.ends limit o in omega (arith, by);
      })
  | inr m ↦
      let (y, at) = cyclic_turn_exists j.new u lawful.new in
      let fair = new p u y multiple low high at in
      let is = same_Some _ x (sym (turn_is_new j u m ∙ ap (joined.clip_start j.at) at) ∙ i) in
      subst (λ (z : Turn GateEntry). IsFairTurn z sdu (p + t.from + t.period)) is (record { lets = fair.lets; allows = fair.allows; ends = fair.ends })
]

-- A schedule that passes each frame is fair.
pub fair : {A : Type 0} (s : Schedule A) (t : Traffic) (sdu : ℕ) → IsLawful s → IsTraffic t → CanPassSchedule s t sdu → IsFair (turn_by_time s) t sdu
fair (Fixed lets ipv) t sdu lawful traffic h p u x multiple low high i =
    subst (λ (z : Turn GateEntry). IsFairTurn z sdu (p + t.from + t.period)) (same_Some _ x i) (record { lets = h; allows = refl; ends = λ limit is. absurd (cc) })
fair (Cyclic l) t sdu lawful traffic h p u x multiple low high i = list_fair l t sdu lawful traffic h p u x multiple low high i
fair (Joined j) t sdu lawful traffic h p u x multiple low high i = joined_fair j t sdu (list_fair j.old t sdu lawful.old traffic h.0) (list_fair j.new t sdu lawful.new traffic h.1) lawful p u x multiple low high i

-- A schedule has an interval at each time.
pub some_turn : {A : Type 0} (s : Schedule A) (u : ℕ) → IsLawful s → (x : Turn GateEntry) × (turn_by_time s u ≡ Some x)
some_turn (Fixed lets ipv) u lawful = (_, refl)
some_turn (Cyclic l) u lawful = cyclic_turn_exists l u lawful
some_turn (Joined j) u lawful = changing_turn_exists j u lawful

-- An interval with an octet limit ends after each of its times.
pub goes_on : {A : Type 0} (s : Schedule A) (u limit : ℕ) (x : Turn GateEntry) → IsLawful s → turn_by_time s u ≡ Some x → x.state.octets ≡ Some limit → u < x.end
goes_on (Fixed lets ipv) u limit x lawful at is =
    let none : None ≡ x.state.octets = ap (λ y. y.state.octets) (same_Some _ x at) in
    absurd (no_limit limit (none ∙ is))
  where
    no_limit : (limit : ℕ) → None ≡ Some limit → ⊥
    no_limit limit h = cc
goes_on (Cyclic l) u limit x lawful at is = (list_turn_is_exact l u x lawful at).ends
goes_on (Joined j) u limit x lawful at is = (changing_turn_is_exact j u x lawful at).ends
