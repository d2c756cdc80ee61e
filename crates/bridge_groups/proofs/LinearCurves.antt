-- Straight arrival curves rise slowly.
use Rattle.std.proofs.Common.{◌≡◌, ◌<◌, ◌≤◌, ◌+◌, ◌-◌, ◌*◌, ◌/◌, ℕ, zero, suc, arith, subst, inl, inr, List, [], ◌∷◌, All}
use Rattle.std.proofs.lemmas.Bool.{cases_lt}
use Rattle.std.proofs.lemmas.List.Elements.{All-head, All-tail}
use Rattle.std.proofs.Math.Nat.{add-mul-div_right, div-mul-le_self, le-div_iff_mul-le}
use Rattle.bridge_groups.specs.LinearCurves.{IsCountCurve, IsLinearCurve, count_at, curve_at}
use Rattle.bridge_groups.specs.declared.linear_curve.LinearCurve.{LinearCurve}

-- A greater dividend has at least the same quotient.
quotient_rises : (a b u : ℕ) → 1 ≤ u → a ≤ b → a / u ≤ b / u
quotient_rises a b u some h =
    let below = div-mul-le_self a u in
    (le-div_iff_mul-le {k = u} {x = a / u} {y = b} some).1 (omega (arith, below, h))

-- A longer span has at least as much work.
rises_by : (c : LinearCurve) (v d : ℕ) → 1 ≤ c.unit → curve_at c v ≤ curve_at c (v + d)
rises_by c v d some =
    let e : c.rate * (v + d) ≡ c.rate * v + c.rate * d = omega arith in
    quotient_rises (c.burst + c.rate * v) (c.burst + c.rate * (v + d)) c.unit some (omega (arith, e))

pub rises : (c : LinearCurve) (v w : ℕ) → 1 ≤ c.unit → v ≤ w → curve_at c v ≤ curve_at c w
rises c v w some h =
    let e : v + (w - v) ≡ w = omega (arith, h) in
    subst (λ (i : ℕ). curve_at c v ≤ curve_at c i) e (rises_by c v (w - v) some)

-- If `d` ns add at most `n` whole ns of work, the curve rises by at most `n`.
pub adds : (c : LinearCurve) (w d n : ℕ) → 1 ≤ c.unit → c.rate * d ≤ n * c.unit → curve_at c (w + d) ≤ curve_at c w + n
adds c w d n some h =
    let e : c.rate * (w + d) ≡ c.rate * w + c.rate * d = omega arith in
    let upto = quotient_rises (c.burst + c.rate * (w + d)) ((c.burst + c.rate * w) + n * c.unit) c.unit some (omega (arith, e, h)) in
    let same = add-mul-div_right (c.burst + c.rate * w) n {z = c.unit} some in
    omega (arith, upto, same)

-- A curve rises by at most 1 ns each ns.
pub slow : (c : LinearCurve) (v w : ℕ) → IsLinearCurve c → v ≤ w → curve_at c w ≤ curve_at c v + (w - v)
slow c v w is h =
    let e : v + (w - v) ≡ w = omega (arith, h) in
    let few = is.rate_few in
    let product = mul-le-mul c.rate c.unit (w - v) few in
    subst (λ (i : ℕ). curve_at c i ≤ curve_at c v + (w - v)) e (adds c v (w - v) (w - v) is.unit_some (omega (arith, product)))
  where
    mul-le-mul : (a b d : ℕ) → a ≤ b → a * d ≤ d * b
    mul-le-mul a b zero h = omega arith
    mul-le-mul a b (suc d) h = let rest = mul-le-mul a b d h in omega (arith, rest, h)

-- If a span has less work than `most`, the first time of `most` is later.
pub first_later : (c : LinearCurve) (span time most : ℕ) → 1 ≤ c.unit → curve_at c span < most → most ≤ curve_at c time → span < time
first_later c span time most some before reached = elim (cases_lt span time) [
  | inl l ↦ l
  | inr l ↦ absurd (let rise = rises c time span some l in omega (arith, rise, before, reached))
]

-- At the first time of `most`, the work is at most `most`.
pub first_most : (c : LinearCurve) (time most : ℕ) → IsLinearCurve c → 1 ≤ time → curve_at c (time - 1) < most → curve_at c time ≤ most
first_most c time most is later before =
    let rise = slow c (time - 1) time is (omega arith) in
    omega (arith, rise, before, later)

-- A longer span has at least as many frames.
pub counts_rise : (cs : List LinearCurve) (v w : ℕ) → All IsCountCurve cs → v ≤ w → count_at cs v ≤ count_at cs w
counts_rise [] v w are h = omega arith
counts_rise (c ∷ cs) v w are h =
    let rest = counts_rise cs v w (All-tail IsCountCurve c cs are) h in
    let own = rises c v w (All-head IsCountCurve c cs are).line.unit_some h in
    omega (arith, own, rest)
