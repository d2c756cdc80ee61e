use Rattle.std.proofs.Common.{◌≡◌, ℕ, Bool, true, false, ◌+◌, ◌≤◌, List, ◌∷◌, arith, refl, ap, ◌∙◌, sym, subst, inl, inr, Option, Some, None, zero-add}
use Rattle.std.proofs.lemmas.Int.{ints}
use Rattle.std.proofs.lemmas.Bool.{cases_lt}
use Rattle.std.proofs.lemmas.Bool.Decides.{nat_tests, Decides-int_eq}
use Rattle.std.specs.Prelude.{if◌then◌else◌}
use Rattle.std.specs.Ordering.{int_eq}
use Rattle.std.proofs.Math.Bool.{and-true, and-false}
use Rattle.bridge_limits.proofs.Cases.{by_bool}
use lib.IntN.{ℤ}
use lib.Signed.{◌≤ℤ◌}
use Rattle.bridge_cycle.specs.declared.timeline.Turn.{Turn}
use Rattle.bridge_gate.specs.declared.schedule.GateEntry.{GateEntry}
use Rattle.bridge_gate.specs.declared.stream_gate.GateAnswer.{GateAnswer}
use Rattle.bridge_gate.specs.declared.stream_gate.GateAnswer.TheVariants.{Through, Closed, ShutByRx, ShutByOctets, OctetsExceeded}
use Rattle.bridge_gate.specs.Gates.{GateRules, GateEvent, Asked, ClearedRx, ClearedOctets, GateStep, Answered, octets_in_turn, is_over_limit, answer, gate_steps}
use Rattle.bridge_gate.specs.Schedules.{gate_rules, turn_by_time, has_valid_priorities, is_valid_priority}
use Rattle.bridge_gate.specs.StandsFor.{GateState, counted_octets, StandsFor, state_answer, gate_after_answer, gate_after_counting}
use Rattle.bridge_gate.proofs.ScheduleLaws.{IsOrdered, turn_priority}

none_exceeds : (o : Option ℕ) (n m : ℕ) → ((limit : ℕ) → o ≡ Some limit → n ≡ m) → is_over_limit o n ≡ is_over_limit o m
none_exceeds None n m h = refl
none_exceeds (Some limit) n m h = ap (is_over_limit (Some limit)) (h limit refl)

-- The gate's answer is the answer that the definition gives.
pub replies : {A : Type 0} (r : GateRules) (g : GateState A) (es : List GateEvent) (t sdu : ℕ) (x : Turn GateEntry) → StandsFor r g es → g.earliest ≤ t → r.turn_at t ≡ Some x → state_answer g x sdu ≡ answer r (gate_steps r es) t sdu
replies r g es t sdu x st le h =
    let same : is_over_limit x.state.octets (counted_octets g x.start + sdu) ≡ is_over_limit x.state.octets (octets_in_turn r.turn_at x.start (gate_steps r es) + sdu) = none_exceeds x.state.octets (counted_octets g x.start + sdu) (octets_in_turn r.turn_at x.start (gate_steps r es) + sdu) (λ limit is. ap (λ n. n + sdu) (sym (st.counted t x limit le h is))) in
    rw (h, st.rx, st.octets, same) refl

used_more : (line : ℕ → Option (Turn GateEntry)) (t n : ℕ) (ipv : Option ℕ) (x : Turn GateEntry) (z : ℤ) (ss : List GateStep) → line t ≡ Some x → octets_in_turn line z (Answered t n (Through ipv) ∷ ss) ≡ (if int_eq x.start z then n else 0) + octets_in_turn line z ss
used_more line t n ipv x z ss h = rw h refl

apart : (a b : ℤ) → (a ≡ b → ⊥) → int_eq a b ≡ false
apart a b h = by_bool (int_eq a b) (λ e. absurd (h ((Decides-int_eq a b).0 e))) (λ e. e)

pub same_int : (a b : ℤ) → int_eq a b ≡ true → a ≡ b
same_int a b e = (Decides-int_eq a b).0 e

other_start : (a b : ℤ) → int_eq a b ≡ false → a ≡ b → ⊥
other_start a b e z = let w = (Decides-int_eq a b).1 z in cc

between : (a b c : ℤ) → a ≤ℤ b → b ≤ℤ c → a ≡ c → b ≡ c
between a b c h k e = omega (arith, ints)

zero_either : (b : Bool) (n : ℕ) → n ≡ 0 → (if b then n else 0) ≡ 0
zero_either true n h = h
zero_either false n h = refl

-- If the interval of `t` has ended, the gate has counted no octets yet.
none_counted : {A : Type 0} (r : GateRules) (g : GateState A) (es : List GateEvent) (t u : ℕ) (x y : Turn GateEntry) → IsOrdered r.turn_at → StandsFor r g es → g.earliest ≤ t → t ≤ u → r.turn_at t ≡ Some x → r.turn_at u ≡ Some y → int_eq x.start y.start ≡ false → counted_octets g y.start ≡ 0
none_counted r g es t u x y l st le later h k e = elim (cases_lt 0 g.count) [
  | inl some ↦ (let differ : int_eq g.start y.start ≡ false = apart g.start y.start (λ q. other_start x.start y.start e (between g.start x.start y.start (st.begun t x some le h) (l.rises t u x y h k later) q)) in rw differ refl)
  | inr none ↦ zero_either (int_eq g.start y.start) g.count (omega arith)
]

-- A frame that passes in an interval with a limit adds its octets to the count.
count_more : {A : Type 0} (r : GateRules) (g : GateState A) (es : List GateEvent) (t u n limit : ℕ) (ipv : Option ℕ) (x y : Turn GateEntry) (most : ℕ) → IsOrdered r.turn_at → StandsFor r g es → g.earliest ≤ t → t ≤ u → r.turn_at t ≡ Some x → r.turn_at u ≡ Some y → x.state.octets ≡ Some most → y.state.octets ≡ Some limit → octets_in_turn r.turn_at y.start (Answered t n (Through ipv) ∷ gate_steps r es) ≡ (if int_eq x.start y.start then (counted_octets g x.start + n) else 0)
count_more r g es t u n limit ipv x y most l st le later h k m q =
    used_more r.turn_at t n ipv x y.start (gate_steps r es) h ∙ by_bool (int_eq x.start y.start)
    (λ e.
    let same : x.start ≡ y.start = same_int x.start y.start e in
    let old : octets_in_turn r.turn_at y.start (gate_steps r es) ≡ counted_octets g x.start = subst (λ (z : ℤ). octets_in_turn r.turn_at z (gate_steps r es) ≡ counted_octets g x.start) same (st.counted t x most le h m) in
    rw (e, old) (omega arith))
    (λ e.
    let old : octets_in_turn r.turn_at y.start (gate_steps r es) ≡ counted_octets g y.start = st.counted u y limit (omega arith) k q in
    let none : counted_octets g y.start ≡ 0 = none_counted r g es t u x y l st le later h k e in
    rw (e, old, none) refl)

-- A frame that passes in an interval without a limit counts in no interval with a limit.
count_stays : {A : Type 0} (r : GateRules) (g : GateState A) (es : List GateEvent) (t u n limit : ℕ) (ipv : Option ℕ) (x y : Turn GateEntry) → IsOrdered r.turn_at → StandsFor r g es → g.earliest ≤ t → t ≤ u → r.turn_at t ≡ Some x → r.turn_at u ≡ Some y → x.state.octets ≡ None → y.state.octets ≡ Some limit → octets_in_turn r.turn_at y.start (Answered t n (Through ipv) ∷ gate_steps r es) ≡ counted_octets g y.start
count_stays r g es t u n limit ipv x y l st le later h k m q =
    used_more r.turn_at t n ipv x y.start (gate_steps r es) h ∙ by_bool (int_eq x.start y.start)
    (λ e.
    let one : x ≡ y = l.one t u x y h k later (same_int x.start y.start e) in
    let both : x.state.octets ≡ y.state.octets = ap (λ (z : Turn GateEntry). z.state.octets) one in
    absurd (let w = sym m ∙ (both ∙ q) in cc))
    (λ e. rw e (zero-add (octets_in_turn r.turn_at y.start (gate_steps r es)) ∙ st.counted u y limit (omega arith) k q))

counts : {A : Type 0} (r : GateRules) (g : GateState A) (es : List GateEvent) (t n : ℕ) (ipv : Option ℕ) (x : Turn GateEntry) (o : Option ℕ) → gate_rules g.plan ≡ r → IsOrdered r.turn_at → StandsFor r g es → g.earliest ≤ t → r.turn_at t ≡ Some x → x.state.octets ≡ o → Through ipv ≡ answer r (gate_steps r es) t n → StandsFor r (gate_after_counting g t x.start (counted_octets g x.start + n) o) (Asked t n ∷ es)
counts r g es t n ipv x None same l st le h m e =
    record {
      rules_are = same;
      rx = rw (← e) st.rx;
      octets = rw (← e) st.octets;
      last = refl;
      counted = λ u y limit later k q. rw (← e) (count_stays r g es t u n limit ipv x y l st le later h k m q);
      begun = λ u y some later k. st.begun u y some (omega arith) k;
    }
counts r g es t n ipv x (Some most) same l st le h m e =
    record {
      rules_are = same;
      rx = rw (← e) st.rx;
      octets = rw (← e) st.octets;
      last = refl;
      counted = λ u y limit later k q. rw (← e) (count_more r g es t u n limit ipv x y most l st le later h k m q);
      begun = λ u y some later k. l.rises t u x y h k later;
    }

shut_is : {A : Type 0} (r : GateRules) (g : GateState A) → gate_rules g.plan ≡ r → (g.plan.shut_on_rx ≡ r.shut_on_rx) × (g.plan.shut_on_octets ≡ r.shut_on_octets)
shut_is r g e = (ap (λ (q : GateRules). q.shut_on_rx) e, ap (λ (q : GateRules). q.shut_on_octets) e)

-- After any answer, the gate stands for the extended list of events.
pub stands_after : {A : Type 0} (r : GateRules) (g : GateState A) (es : List GateEvent) (t n : ℕ) (x : Turn GateEntry) (a : GateAnswer) → IsOrdered r.turn_at → StandsFor r g es → g.earliest ≤ t → r.turn_at t ≡ Some x → a ≡ answer r (gate_steps r es) t n → StandsFor r (gate_after_answer g t x n a) (Asked t n ∷ es)
stands_after r g es t n x (Through ipv) l st le h e = counts r g es t n ipv x x.state.octets st.rules_are l st le h refl e
stands_after r g es t n x Closed l st le h e =
    record {
      rules_are = st.rules_are;
      rx = rw (← e) ((shut_is r g st.rules_are).0 ∙ sym (and-true r.shut_on_rx));
      octets = rw (← e) st.octets;
      last = refl;
      counted = λ u y limit later k q. rw (← e) (st.counted u y limit (omega arith) k q);
      begun = λ u y some later k. st.begun u y some (omega arith) k;
    }
stands_after r g es t n x OctetsExceeded l st le h e =
    record {
      rules_are = st.rules_are;
      rx = rw (← e) st.rx;
      octets = rw (← e) ((shut_is r g st.rules_are).1 ∙ sym (and-true r.shut_on_octets));
      last = refl;
      counted = λ u y limit later k q. rw (← e) (st.counted u y limit (omega arith) k q);
      begun = λ u y some later k. st.begun u y some (omega arith) k;
    }
stands_after r g es t n x ShutByRx l st le h e =
    record {
      rules_are = st.rules_are;
      rx = rw (← e) st.rx;
      octets = rw (← e) st.octets;
      last = refl;
      counted = λ u y limit later k q. rw (← e) (st.counted u y limit (omega arith) k q);
      begun = λ u y some later k. st.begun u y some (omega arith) k;
    }
stands_after r g es t n x ShutByOctets l st le h e =
    record {
      rules_are = st.rules_are;
      rx = rw (← e) st.rx;
      octets = rw (← e) st.octets;
      last = refl;
      counted = λ u y limit later k q. rw (← e) (st.counted u y limit (omega arith) k q);
      begun = λ u y some later k. st.begun u y some (omega arith) k;
    }

-- After a command clears the receive flag, the gate stands for the extended list of events.
pub stands_rx : {A : Type 0} (r : GateRules) (g : GateState A) (es : List GateEvent) → StandsFor r g es → StandsFor r (record g { rx = false }) (ClearedRx ∷ es)
stands_rx r g es st = record { rules_are = st.rules_are; rx = sym (and-false r.shut_on_rx); octets = st.octets; last = st.last; counted = st.counted; begun = st.begun }

-- After a command clears the octets flag, the gate stands for the extended list of events.
pub stands_octets : {A : Type 0} (r : GateRules) (g : GateState A) (es : List GateEvent) → StandsFor r g es → StandsFor r (record g { octets = false }) (ClearedOctets ∷ es)
stands_octets r g es st = record { rules_are = st.rules_are; rx = st.rx; octets = sym (and-false r.shut_on_octets); last = st.last; counted = st.counted; begun = st.begun }

-- A frame that passes gets the internal priority value of its interval.
pub through_is : {A : Type 0} (g : GateState A) (x : Turn GateEntry) (sdu : ℕ) (ipv : Option ℕ) → state_answer g x sdu ≡ Through ipv → x.state.ipv ≡ ipv
through_is g x sdu ipv h =
    by_bool g.rx (λ a. absurd (let w = rw a at h in cc)) (λ a.
    by_bool g.octets (λ b. absurd (let w = rw (a, b) at h in cc)) (λ b.
    by_bool x.state.lets
    (λ d. by_bool (is_over_limit x.state.octets (counted_octets g x.start + sdu)) (λ f. absurd (let w = rw (a, b, d, f) at h in cc)) (λ f. let w = rw (a, b, d, f) at h in cc))
    (λ d. absurd (let w = rw (a, b, d) at h in cc))))

-- A gate that answers by `state_answer` still stands for its events, and gives the answer of the definition.
pub asked : {A : Type 0} (g : GateState A) (t n : ℕ) (x : Turn GateEntry) (a : GateAnswer) → IsOrdered (turn_by_time g.plan.schedule) → turn_by_time g.plan.schedule t ≡ Some x → g.earliest ≤ t → a ≡ state_answer g x n → (r : GateRules) (es : List GateEvent) → StandsFor r g es → StandsFor r (gate_after_answer g t x n a) (Asked t n ∷ es) × (a ≡ answer r (gate_steps r es) t n)
asked g t n x a l h le e r es st =
    let line : IsOrdered r.turn_at = subst (λ (q : GateRules). IsOrdered q.turn_at) st.rules_are l in
    let there : r.turn_at t ≡ Some x = subst (λ (q : GateRules). q.turn_at t ≡ Some x) st.rules_are h in
    let is : a ≡ answer r (gate_steps r es) t n = e ∙ replies r g es t n x st le there in
    (stands_after r g es t n x a line st le there is, is)

-- The internal priority value that a frame gets is at most 7.
pub priority_is : {A : Type 0} (g : GateState A) (t n : ℕ) (x : Turn GateEntry) (a : GateAnswer) → has_valid_priorities g.plan.schedule ≡ true → turn_by_time g.plan.schedule t ≡ Some x → a ≡ state_answer g x n → (ipv : ℕ) → a ≡ Through (Some ipv) → ipv ≤ 7
priority_is g t n x a p h e ipv is =
    let value : x.state.ipv ≡ Some ipv = through_is g x n (Some ipv) (sym e ∙ is) in
    let ok : is_valid_priority (Some ipv) ≡ true = ap is_valid_priority (sym value) ∙ turn_priority g.plan.schedule t x p h in
    grind (arith, nat_tests, ok)
