-- Few frames in each period conform to a burst and a rate.
use Rattle.std.proofs.Common.{◌≡◌, ◌<◌, ◌≤◌, ◌+◌, ◌-◌, ◌*◌, ◌/◌, ◌⊎◌, ℕ, zero, suc, true, false, List, [], ◌∷◌, length, arith, refl, inl, inr}
use Rattle.std.proofs.Math.Nat.{le-div_iff_mul-le, mul-div-le, mul-le-mul_left}
use Rattle.std.proofs.lemmas.Bool.{cases_lt, ltb-false}
use Rattle.std.proofs.lemmas.Bool.Decides.{nat_tests}
use Rattle.std.specs.Prelude.{nat_le, nat_lt}
use Rattle.bridge_limits.proofs.Cases.{by_bool}
use Rattle.bridge_groups.specs.TalkerFrames.{HasFrameLimit, SentFrame, last_send_time, count_recent_frames, recent_sent_octets}

-- Splits off the frames that were sent less than a period before `t`.
record IsPeriodSplit (n m period u t : ℕ) (xs : List SentFrame) : Type 0 where
  rest : List SentFrame
  few : HasFrameLimit n m period rest
  shorter : length rest ≤ length xs
  before : (length rest ≡ 0) ⊎ (last_send_time rest + period ≤ t)
  split : recent_sent_octets u xs ≤ m * count_recent_frames period t xs + recent_sent_octets u rest

split : (n m period u t : ℕ) (xs : List SentFrame) → HasFrameLimit n m period xs → IsPeriodSplit n m period u t xs
split n m period u t [] few = record { rest = []; few = tt; shorter = omega arith; before = inl refl; split = omega arith }
split n m period u t (x ∷ xs) few = by_bool (nat_lt t (x.at + period))
    (λ k.
    let s = split n m period u t xs few.3 in
    let own = few.0 in
    let shorter = s.shorter in
    let upto = s.split in
    let one : recent_sent_octets u (x ∷ xs) ≤ x.octets + recent_sent_octets u xs = by_bool (nat_le u x.at) (λ h. rw h (omega arith)) (λ h. rw h (omega arith)) in
    let counts : count_recent_frames period t (x ∷ xs) ≡ 1 + count_recent_frames period t xs = rw k refl in
    let times : m * count_recent_frames period t (x ∷ xs) ≡ m + m * count_recent_frames period t xs = rw counts (omega arith) in
    record { rest = s.rest; few = s.few; shorter = omega (arith, shorter); before = s.before; split = omega (arith, one, upto, own, times) })
    (λ k.
    let early : x.at + period ≤ t = ltb-false t (x.at + period) k in
    record { rest = x ∷ xs; few = few; shorter = omega arith; before = inr early; split = omega arith })

-- No frame was sent after the newest one.
none_since : (n m period u : ℕ) (xs : List SentFrame) → HasFrameLimit n m period xs → last_send_time xs < u → recent_sent_octets u xs ≡ 0
none_since n m period u [] few h = refl
none_since n m period u (x ∷ xs) few h =
    let off : nat_le u x.at ≡ false = grind (arith, nat_tests) in
    let before = few.1 in
    let rest = none_since n m period u xs few.3 (omega (arith, before, h)) in
    rw off (omega (arith, rest))

nothing : (ys : List SentFrame) (u : ℕ) → length ys ≡ 0 → recent_sent_octets u ys ≡ 0
nothing [] u e = refl
nothing (y ∷ ys) u e = absurd (omega (arith, e))

one_at_most : (u : ℕ) (x : SentFrame) (xs : List SentFrame) → recent_sent_octets u (x ∷ xs) ≤ x.octets + recent_sent_octets u xs
one_at_most u x xs = by_bool (nat_le u x.at) (λ h. rw h (omega arith)) (λ h. rw h (omega arith))

-- In `w` ns a talker sends at most one burst, and one for each whole period.
few_octets : (most n m period u w : ℕ) (xs : List SentFrame) → length xs ≤ most → 0 < period → HasFrameLimit n m period xs → last_send_time xs ≡ u + w → recent_sent_octets u xs ≤ m * n + m * n * (w / period)
few_octets most n m period u w [] within some few at = omega arith
few_octets zero n m period u w (x ∷ xs) within some few at = absurd (omega (arith, within))
few_octets (suc most) n m period u w (x ∷ xs) within some few at =
    let s = split n m period u x.at xs few.3 in
    let upto = s.split in
    let shorter = s.shorter in
    let own_octets = few.0 in
    let here : nat_lt x.at (x.at + period) ≡ true = grind (arith, nat_tests) in
    let count : 1 + count_recent_frames period x.at xs ≤ n = rw here at few.2 in
    let times = mul-le-mul_left m count in
    let one = one_at_most u x xs in
    let all : recent_sent_octets u (x ∷ xs) ≤ m * n + recent_sent_octets u s.rest = omega (arith, one, upto, own_octets, times) in
    elim (cases_lt (last_send_time s.rest) u) [
      | inl l ↦
          let none = none_since n m period u s.rest s.few l in
          omega (arith, all, none)
      | inr l ↦ elim s.before [
        | inl e ↦ let none = nothing s.rest u e in omega (arith, all, none)
        | inr early ↦
            let v : ℕ = last_send_time s.rest - u in
            let own : last_send_time s.rest ≡ u + v = omega (arith, l) in
            let rest = few_octets most n m period u v s.rest (omega (arith, shorter, within)) some s.few own in
            let low = mul-div-le v period in
            let far : v + period ≤ w = omega (arith, own, early, at) in
            let next : v / period + 1 ≤ w / period = (le-div_iff_mul-le some).1 (omega (arith, low, far)) in
            let more = mul-le-mul_left (m * n) next in
            omega (arith, all, rest, more)
      ]
    ]

-- The frames conform to a burst of `n` frames, and to each rate that gives this burst in a period.
pub few_conform : (n m period rate unit u w : ℕ) (x : SentFrame) (xs : List SentFrame) → 0 < period → HasFrameLimit n m period (x ∷ xs) → m * n * unit ≤ rate * period → x.at ≡ u + w → recent_sent_octets u (x ∷ xs) * unit ≤ m * n * unit + rate * w
few_conform n m period rate unit u w x xs some few gives at =
    let octets = few_octets (length (x ∷ xs)) n m period u w (x ∷ xs) (omega arith) some few at in
    let units = mul-le-mul_left unit octets in
    let back = mul-le-mul_left (w / period) gives in
    let whole = mul-le-mul_left rate (mul-div-le w period) in
    omega (arith, units, back, whole)
