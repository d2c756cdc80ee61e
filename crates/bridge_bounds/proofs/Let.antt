-- Number of frames that a stream gate passes in a span of time.
use Rattle.std.proofs.Common.{◌≡◌, ◌<◌, ◌≤◌, ◌+◌, ◌*◌, ℕ, ℤ, Bool, true, false, not, cond, Option, None, Some, List, [], ◌∷◌, arith, ap, refl, sym, subst, ◌∙◌, inl, inr}
use Rattle.std.specs.Prelude.{nat_le, nat_lt, ◌&&◌}
use Rattle.std.specs.Ordering.{int_eq}
use Rattle.std.proofs.lemmas.Bool.{and_parts, cases_lt}
use Rattle.std.proofs.lemmas.Bool.Decides.{nat_tests}
use Rattle.std.proofs.lemmas.Option.{same_Some}
use Rattle.bridge_limits.proofs.Cases.{by_bool}
use Rattle.bridge_cycle.specs.declared.timeline.Turn.{Turn}
use Rattle.bridge_gate.specs.declared.stream_gate.GateAnswer.{GateAnswer}
use Rattle.bridge_gate.specs.declared.stream_gate.GateAnswer.TheVariants.{Closed, OctetsExceeded, ShutByOctets, ShutByRx, Through}
use Rattle.bridge_gate.specs.declared.schedule.GateEntry.{GateEntry}
use Rattle.bridge_gate.specs.Gates.{Asked, ClearedOctets, ClearedRx, GateEvent, GateRules, GateStep, Answered, answer, turn_answer, is_over_limit, is_shut_by_octets, is_shut_by_rx, gate_steps, octets_in_turn}
use Rattle.bridge_bounds.specs.GateFrames.{AreSeldom, HaveEtherTypes, IsFrameLimit, LetsFew, count_recent, pass_times}

-- ONE FRAME

-- The interval in which a frame passed.
record IsThrough (r : GateRules) (ss : List GateStep) (t n : ℕ) : Type 0 where
  turn : Turn GateEntry
  at : r.turn_at t ≡ Some turn
  lets : turn.state.lets ≡ true
  within : is_over_limit turn.state.octets (octets_in_turn r.turn_at turn.start ss + n) ≡ false

let_by : (lets over : Bool) (i ipv : Option ℕ) → cond (not lets) Closed (cond over OctetsExceeded (Through i)) ≡ Through ipv → (lets ≡ true) × (over ≡ false)
let_by false over i ipv h = absurd (cc)
let_by true true i ipv h = absurd (cc)
let_by true false i ipv h = (refl, refl)

let_in : (r : GateRules) (ss : List GateStep) (t n : ℕ) (o : Option (Turn GateEntry)) (ipv : Option ℕ) → r.turn_at t ≡ o → turn_answer r ss n o ≡ Through ipv → IsThrough r ss t n
let_in r ss t n None ipv e h = absurd (cc)
let_in r ss t n (Some x) ipv e h =
    let (lets, within) = let_by x.state.lets (is_over_limit x.state.octets (octets_in_turn r.turn_at x.start ss + n)) x.state.ipv ipv h in
    record { turn = x; at = e; lets = lets; within = within }

unshut : (a b : Bool) (v : GateAnswer) (ipv : Option ℕ) → cond a ShutByRx (cond b ShutByOctets v) ≡ Through ipv → v ≡ Through ipv
unshut true b v ipv h = absurd (cc)
unshut false true v ipv h = absurd (cc)
unshut false false v ipv h = h

let_through : (r : GateRules) (ss : List GateStep) (t n : ℕ) (ipv : Option ℕ) → answer r ss t n ≡ Through ipv → IsThrough r ss t n
let_through r ss t n ipv h = let_in r ss t n (r.turn_at t) ipv refl (unshut (r.shut_on_rx && is_shut_by_rx ss) (r.shut_on_octets && is_shut_by_octets ss) (turn_answer r ss n (r.turn_at t)) ipv h)

-- A SPAN OF TIME

other_start : (a b : ℤ) → int_eq a b ≡ false → ¬ (a ≡ b)
other_start a b h e = grind arith

same_start : (a : ℤ) → int_eq a a ≡ true
same_start a = grind arith

-- Two frames that arrive less than `w` ns apart arrive in one interval.
began_with : (turns : ℕ → Option (Turn GateEntry)) (k w t u : ℕ) (x y : Turn GateEntry) → LetsFew turns k w → u ≤ t → t < u + w → turns t ≡ Some x → turns u ≡ Some y → x.state.lets ≡ true → y.state.lets ≡ true → int_eq y.start x.start ≡ true
began_with turns k w t u x y few upto late here there lets own = elim (cases_lt u t) [
  | inl l ↦ by_bool (int_eq y.start x.start) (λ e. e) (λ e. let far = few.apart u t y x l there here own lets (other_start y.start x.start e) in absurd (omega (arith, far, late)))
  | inr l ↦
      let one : u ≡ t = omega (arith, l, upto) in
      let same : y ≡ x = same_Some y x (sym there ∙ (ap turns one ∙ here)) in
      subst (λ (z : Turn GateEntry). int_eq y.start z.start ≡ true) same (same_start y.start)
]

module _ (r : GateRules) (k w : ℕ) (few : LetsFew r.turn_at k w) where
  -- One frame more, by the stream gate's answer.
  counts_more : (t u n : ℕ) (x : Turn GateEntry) (a : GateAnswer) (ss : List GateStep) → 2 ≤ n → r.turn_at t ≡ Some x → x.state.lets ≡ true → answer r ss u n ≡ a → 2 * count_recent w t (pass_times ss) ≤ octets_in_turn r.turn_at x.start ss → 2 * count_recent w t (pass_times (Answered u n a ∷ ss)) ≤ octets_in_turn r.turn_at x.start (Answered u n a ∷ ss)
  counts_more t u n x Closed ss some here lets is before = before
  counts_more t u n x ShutByRx ss some here lets is before = before
  counts_more t u n x ShutByOctets ss some here lets is before = before
  counts_more t u n x OctetsExceeded ss some here lets is before = before
  counts_more t u n x (Through ipv) ss some here lets is before = by_bool (nat_le u t && nat_lt t (u + w))
      (λ e.
      let (upto, late) = and_parts (nat_le u t) (nat_lt t (u + w)) e in
      let own = let_through r ss u n ipv is in
      let least : u ≤ t = grind (arith, nat_tests) in
      let most : t < u + w = grind (arith, nat_tests) in
      let same : int_eq own.turn.start x.start ≡ true = began_with r.turn_at k w t u x own.turn few least most here own.at lets own.lets in
      let at = own.at in
      rw (e, at, same) (omega (arith, before, some)))
      (λ e. rw e (omega (arith, before)))

  -- Each frame that passed in the last `w` ns has used two octets of the interval.
  counted : (t : ℕ) (x : Turn GateEntry) (es : List GateEvent) → HaveEtherTypes es → r.turn_at t ≡ Some x → x.state.lets ≡ true → 2 * count_recent w t (pass_times (gate_steps r es)) ≤ octets_in_turn r.turn_at x.start (gate_steps r es)
  counted t x [] some here lets = omega arith
  counted t x (Asked u n ∷ es) some here lets = counts_more t u n x (answer r (gate_steps r es) u n) (gate_steps r es) some.0 here lets refl (counted t x es some.1 here lets)
  counted t x (ClearedRx ∷ es) some here lets = counted t x es some here lets
  counted t x (ClearedOctets ∷ es) some here lets = counted t x es some here lets

  -- Before a frame that passes, fewer than `k` frames have passed.
  few_by : (o : Option ℕ) (before n many : ℕ) → IsFrameLimit o k → is_over_limit o (before + n) ≡ false → 2 ≤ n → 2 * many ≤ before → many < k
  few_by None before n many is within some twice = absurd is
  few_by (Some limit) before n many is within some twice =
      let upto : before + n ≤ limit = grind (arith, nat_tests) in
      omega (arith, is, upto, some, twice)

  seldom_more : (u n : ℕ) (a : GateAnswer) (es : List GateEvent) → HaveEtherTypes es → 2 ≤ n → answer r (gate_steps r es) u n ≡ a → AreSeldom w k (pass_times (gate_steps r es)) → AreSeldom w k (pass_times (Answered u n a ∷ gate_steps r es))
  seldom_more u n Closed es some own is before = before
  seldom_more u n ShutByRx es some own is before = before
  seldom_more u n ShutByOctets es some own is before = before
  seldom_more u n OctetsExceeded es some own is before = before
  seldom_more u n (Through ipv) es some own is before =
      let through = let_through r (gate_steps r es) u n ipv is in
      let x = through.turn in
      (few_by x.state.octets (octets_in_turn r.turn_at x.start (gate_steps r es)) n (count_recent w u (pass_times (gate_steps r es))) (few.few u x through.at through.lets) through.within own (counted u x es some through.at through.lets), before)

  -- A stream gate passes at most `k` frames in any `w` ns.
  pub seldom : (es : List GateEvent) → HaveEtherTypes es → AreSeldom w k (pass_times (gate_steps r es))
  seldom [] some = tt
  seldom (Asked u n ∷ es) some = seldom_more u n (answer r (gate_steps r es) u n) es some.1 some.0 refl (seldom es some.1)
  seldom (ClearedRx ∷ es) some = seldom es some
  seldom (ClearedOctets ∷ es) some = seldom es some
