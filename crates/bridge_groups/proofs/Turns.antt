-- Octets that a stream gate with octet limits passes in a span of time.
use Rattle.std.proofs.Common.{◌≡◌, ◌<◌, ◌≤◌, ◌+◌, ◌-◌, ℕ, ℤ, zero, suc, Bool, true, false, not, cond, Option, None, Some, List, [], ◌∷◌, arith, ap, refl, sym, subst, inl, inr}
use Rattle.std.specs.Prelude.{nat_le, ◌&&◌}
use Rattle.std.specs.Ordering.{int_eq}
use Rattle.std.proofs.lemmas.Bool.{cases_lt}
use Rattle.std.proofs.lemmas.Bool.Decides.{nat_tests}
use Rattle.bridge_limits.proofs.Cases.{by_bool}
use Rattle.bridge_cycle.specs.declared.timeline.Turn.{Turn}
use Rattle.bridge_gate.specs.declared.stream_gate.GateAnswer.{GateAnswer}
use Rattle.bridge_gate.specs.declared.stream_gate.GateAnswer.TheVariants.{Closed, OctetsExceeded, ShutByOctets, ShutByRx, Through}
use Rattle.bridge_gate.specs.declared.schedule.GateEntry.{GateEntry}
use Rattle.bridge_gate.specs.Gates.{Answered, Asked, ClearedOctets, ClearedRx, GateEvent, GateRules, GateStep, OctetsCleared, RxCleared, answer, gate_steps, is_over_limit, is_shut_by_octets, is_shut_by_rx, last_frame_time, octets_in_turn, turn_answer}
use Rattle.bridge_groups.specs.GateLimits.{AreGateFramesInOrder, HasOctetLimits, octet_budget, ended_turn_limits, is_same_turn, recent_passed_octets}
use Rattle.bridge_groups.specs.GateIntervals.{turn_limit}

-- ONE FRAME

record IsThrough (r : GateRules) (ss : List GateStep) (t n : ℕ) : Type 0 where
  turn : Turn GateEntry
  at : r.turn_at t ≡ Some turn
  lets : turn.state.lets ≡ true
  within : is_over_limit turn.state.octets (octets_in_turn r.turn_at turn.start ss + n) ≡ false

let_by : (lets over : Bool) (i ipv : Option ℕ) → cond (not lets) Closed (cond over OctetsExceeded (Through i)) ≡ Through ipv → (lets ≡ true) × (over ≡ false)
let_by false over i ipv h = absurd (cc)
let_by true true i ipv h = absurd (cc)
let_by true false i ipv h = (refl, refl)

let_in : (r : GateRules) (ss : List GateStep) (t n : ℕ) (o : Option (Turn GateEntry)) (ipv : Option ℕ) → r.turn_at t ≡ o → turn_answer r ss n o ≡ Through ipv → IsThrough r ss t n
let_in r ss t n None ipv e h = absurd (cc)
let_in r ss t n (Some x) ipv e h =
    let (lets, within) = let_by x.state.lets (is_over_limit x.state.octets (octets_in_turn r.turn_at x.start ss + n)) x.state.ipv ipv h in
    record { turn = x; at = e; lets = lets; within = within }

unshut : (a b : Bool) (v : GateAnswer) (ipv : Option ℕ) → cond a ShutByRx (cond b ShutByOctets v) ≡ Through ipv → v ≡ Through ipv
unshut true b v ipv h = absurd (cc)
unshut false true v ipv h = absurd (cc)
unshut false false v ipv h = h

let_through : (r : GateRules) (ss : List GateStep) (t n : ℕ) (ipv : Option ℕ) → answer r ss t n ≡ Through ipv → IsThrough r ss t n
let_through r ss t n ipv h = let_in r ss t n (r.turn_at t) ipv refl (unshut (r.shut_on_rx && is_shut_by_rx ss) (r.shut_on_octets && is_shut_by_octets ss) (turn_answer r ss n (r.turn_at t)) ipv h)

same_int : (a b : ℤ) → int_eq a b ≡ true → a ≡ b
same_int a b h = grind arith

int_same : (a : ℤ) → int_eq a a ≡ true
int_same a = grind arith

-- ONE TURN

-- The octets that the gate passed in the interval of a time.
abbrev used_in : (ℕ → Option (Turn GateEntry)) → Option (Turn GateEntry) → List GateStep → ℕ
used_in turn_at None ss = 0
used_in turn_at (Some x) ss = octets_in_turn turn_at x.start ss

upto_limit : (o : Option ℕ) (l before n : ℕ) → o ≡ Some l → is_over_limit o (before + n) ≡ false → before + n ≤ l
upto_limit None l before n is h = absurd (cc)
upto_limit (Some k) l before n is h =
    let same : k ≡ l = cc in
    let upto : before + n ≤ k = grind (arith, nat_tests) in
    omega (arith, upto, same)

module _ (r : GateRules) (limits : HasOctetLimits r.turn_at) where
  used_more : (s t n : ℕ) (x : Turn GateEntry) (a : GateAnswer) (ss : List GateStep) → r.turn_at s ≡ Some x → answer r ss t n ≡ a → octets_in_turn r.turn_at x.start ss ≤ turn_limit (Some x) → octets_in_turn r.turn_at x.start (Answered t n a ∷ ss) ≤ turn_limit (Some x)
  used_more s t n x Closed ss at is before = before
  used_more s t n x ShutByRx ss at is before = before
  used_more s t n x ShutByOctets ss at is before = before
  used_more s t n x OctetsExceeded ss at is before = before
  used_more s t n x (Through ipv) ss at is before =
      let own = let_through r ss t n ipv is in
      let y = own.turn in
      let there = own.at in
      by_bool (int_eq y.start x.start)
      (λ e.
      let same : y ≡ x = limits.by_start t s y x own.at at (same_int y.start x.start e) in
      let lets : x.state.lets ≡ true = subst (λ (z : Turn GateEntry). z.state.lets ≡ true) same own.lets in
      let within : is_over_limit x.state.octets (octets_in_turn r.turn_at x.start ss + n) ≡ false = subst (λ (z : Turn GateEntry). is_over_limit z.state.octets (octets_in_turn r.turn_at z.start ss + n) ≡ false) same own.within in
      let (l, has) = limits.limited s x at lets in
      let upto = upto_limit x.state.octets l (octets_in_turn r.turn_at x.start ss) n has within in
      rw (there, e, lets, has) (omega (arith, upto)))
      (λ e. rw (there, e) (omega (arith, before)))

  -- The gate passes at most the limit of an interval in this interval.
  used_limited : (s : ℕ) (x : Turn GateEntry) (es : List GateEvent) → r.turn_at s ≡ Some x → octets_in_turn r.turn_at x.start (gate_steps r es) ≤ turn_limit (Some x)
  used_limited s x [] at = omega arith
  used_limited s x (Asked t n ∷ es) at = used_more s t n x (answer r (gate_steps r es) t n) (gate_steps r es) at refl (used_limited s x es at)
  used_limited s x (ClearedRx ∷ es) at = used_limited s x es at
  used_limited s x (ClearedOctets ∷ es) at = used_limited s x es at

  used_by : (s : ℕ) (o : Option (Turn GateEntry)) (es : List GateEvent) → r.turn_at s ≡ o → used_in r.turn_at o (gate_steps r es) ≤ turn_limit o
  used_by s None es at = omega arith
  used_by s (Some x) es at = used_limited s x es at

  -- Two times of one interval have equal passed octets.
  same_used : (o q : Option (Turn GateEntry)) (ss : List GateStep) → is_same_turn o q ≡ true → used_in r.turn_at o ss ≡ used_in r.turn_at q ss
  same_used None None ss h = refl
  same_used None (Some y) ss h = absurd (cc)
  same_used (Some x) None ss h = absurd (cc)
  same_used (Some x) (Some y) ss h = ap (λ (z : ℤ). octets_in_turn r.turn_at z ss) (same_int x.start y.start h)

  -- A STRETCH OF TIME

  -- Holds if the octets passed from `u` are at most the limits of the ended intervals and the octets of the current
  -- one.
  abbrev IsSpent : ℕ → ℕ → List GateStep → Type 0
  IsSpent u w ss = recent_passed_octets u ss ≤ ended_turn_limits r.turn_at u w + used_in r.turn_at (r.turn_at (u + w)) ss

  one_later : (u w : ℕ) (es : List GateEvent) → IsSpent u w (gate_steps r es) → IsSpent u (suc w) (gate_steps r es)
  one_later u w es before = by_bool (is_same_turn (r.turn_at (u + w)) (r.turn_at (u + suc w)))
      (λ k. let same = same_used (r.turn_at (u + w)) (r.turn_at (u + suc w)) (gate_steps r es) k in rw k (omega (arith, before, same)))
      (λ k. let upto = used_by (u + w) (r.turn_at (u + w)) es refl in rw k (omega (arith, before, upto)))

  much_later : (u w d : ℕ) (es : List GateEvent) → IsSpent u w (gate_steps r es) → IsSpent u (d + w) (gate_steps r es)
  much_later u w zero es before = subst (λ (i : ℕ). IsSpent u i (gate_steps r es)) (let same : w ≡ zero + w = omega arith in same) before
  much_later u w (suc d) es before = subst (λ (i : ℕ). IsSpent u i (gate_steps r es)) (let same : suc (d + w) ≡ suc d + w = omega arith in same) (one_later u (d + w) es (much_later u w d es before))

  -- A further frame doesn't lower the octets of its interval.
  used_rises : (o : Option (Turn GateEntry)) (t n : ℕ) (a : GateAnswer) (ss : List GateStep) → used_in r.turn_at o ss ≤ used_in r.turn_at o (Answered t n a ∷ ss)
  used_rises None t n a ss = omega arith
  used_rises (Some x) t n (Through ipv) ss = omega arith
  used_rises (Some x) t n Closed ss = omega arith
  used_rises (Some x) t n ShutByRx ss = omega arith
  used_rises (Some x) t n ShutByOctets ss = omega arith
  used_rises (Some x) t n OctetsExceeded ss = omega arith

  -- The passed octets after a frame at the current time.
  spent_now : (u w t n : ℕ) (a : GateAnswer) (ss : List GateStep) → t ≡ u + w → answer r ss t n ≡ a → IsSpent u w ss → IsSpent u w (Answered t n a ∷ ss)
  spent_now u w t n Closed ss at is before = let more = used_rises (r.turn_at (u + w)) t n Closed ss in omega (arith, before, more)
  spent_now u w t n ShutByRx ss at is before = let more = used_rises (r.turn_at (u + w)) t n ShutByRx ss in omega (arith, before, more)
  spent_now u w t n ShutByOctets ss at is before = let more = used_rises (r.turn_at (u + w)) t n ShutByOctets ss in omega (arith, before, more)
  spent_now u w t n OctetsExceeded ss at is before = let more = used_rises (r.turn_at (u + w)) t n OctetsExceeded ss in omega (arith, before, more)
  spent_now u w t n (Through ipv) ss at is before =
      let own = let_through r ss t n ipv is in
      let x = own.turn in
      let there = own.at in
      let here : r.turn_at (u + w) ≡ Some x = subst (λ (i : ℕ). r.turn_at i ≡ Some x) at own.at in
      let late : nat_le u t ≡ true = grind (arith, nat_tests) in
      let so_far : recent_passed_octets u ss ≤ ended_turn_limits r.turn_at u w + octets_in_turn r.turn_at x.start ss = subst (λ (o : Option (Turn GateEntry)). recent_passed_octets u ss ≤ ended_turn_limits r.turn_at u w + used_in r.turn_at o ss) here before in
      let more : octets_in_turn r.turn_at x.start (Answered t n (Through ipv) ∷ ss) ≡ n + octets_in_turn r.turn_at x.start ss = rw (there, int_same x.start) refl in
      subst (λ (o : Option (Turn GateEntry)). recent_passed_octets u (Answered t n (Through ipv) ∷ ss) ≤ ended_turn_limits r.turn_at u w + used_in r.turn_at o (Answered t n (Through ipv) ∷ ss)) (sym here)
      (rw late (omega (arith, so_far, more)))

  -- The passed octets after a frame before the span.
  spent_before : (u w t n : ℕ) (a : GateAnswer) (ss : List GateStep) → t < u → IsSpent u w ss → IsSpent u w (Answered t n a ∷ ss)
  spent_before u w t n Closed ss early before = let more = used_rises (r.turn_at (u + w)) t n Closed ss in omega (arith, before, more)
  spent_before u w t n ShutByRx ss early before = let more = used_rises (r.turn_at (u + w)) t n ShutByRx ss in omega (arith, before, more)
  spent_before u w t n ShutByOctets ss early before = let more = used_rises (r.turn_at (u + w)) t n ShutByOctets ss in omega (arith, before, more)
  spent_before u w t n OctetsExceeded ss early before = let more = used_rises (r.turn_at (u + w)) t n OctetsExceeded ss in omega (arith, before, more)
  spent_before u w t n (Through ipv) ss early before =
      let off : nat_le u t ≡ false = grind (arith, nat_tests) in
      let more = used_rises (r.turn_at (u + w)) t n (Through ipv) ss in
      rw off (omega (arith, before, more))

  -- A command keeps the passed octets.
  rx_same : (o : Option (Turn GateEntry)) (ss : List GateStep) → used_in r.turn_at o (RxCleared ∷ ss) ≡ used_in r.turn_at o ss
  rx_same None ss = refl
  rx_same (Some x) ss = refl

  octets_same : (o : Option (Turn GateEntry)) (ss : List GateStep) → used_in r.turn_at o (OctetsCleared ∷ ss) ≡ used_in r.turn_at o ss
  octets_same None ss = refl
  octets_same (Some x) ss = refl

  spent : (u w : ℕ) (es : List GateEvent) → AreGateFramesInOrder es → last_frame_time es ≤ u + w → IsSpent u w (gate_steps r es)
  spent u w [] order upto = omega arith
  spent u w (ClearedRx ∷ es) order upto = let before = spent u w es order upto in let same = rx_same (r.turn_at (u + w)) (gate_steps r es) in omega (arith, before, same)
  spent u w (ClearedOctets ∷ es) order upto = let before = spent u w es order upto in let same = octets_same (r.turn_at (u + w)) (gate_steps r es) in omega (arith, before, same)
  spent u w (Asked t n ∷ es) order upto =
      let before = order.0 in
      elim (cases_lt t u) [
        | inl l ↦ spent_before u w t n (answer r (gate_steps r es) t n) (gate_steps r es) l (spent u w es order.1 (omega (arith, before, upto)))
        | inr l ↦
            let v : ℕ = t - u in
            let at : t ≡ u + v = omega (arith, l) in
            let now = spent_now u v t n (answer r (gate_steps r es) t n) (gate_steps r es) at refl (spent u v es order.1 (omega (arith, before, at))) in
            let same : (w - v) + v ≡ w = omega (arith, at, upto) in
            subst (λ (i : ℕ). IsSpent u i (Answered t n (answer r (gate_steps r es) t n) ∷ gate_steps r es)) same (much_later u v (w - v) (Asked t n ∷ es) now)
      ]

  -- In any `w` ns the gate passes at most the octets of the intervals that overlap these `w` ns.
  pub within_budget : (u w : ℕ) (es : List GateEvent) → AreGateFramesInOrder es → last_frame_time es ≤ u + w → recent_passed_octets u (gate_steps r es) ≤ octet_budget r.turn_at u w
  within_budget u w es order upto =
      let all = spent u w es order upto in
      let most = used_by (u + w) (r.turn_at (u + w)) es refl in
      omega (arith, all, most)
