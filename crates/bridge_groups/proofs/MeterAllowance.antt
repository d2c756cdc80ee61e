-- Units that a meter passes in a span of time.
use Rattle.std.proofs.Common.{◌≡◌, ◌<◌, ◌≤◌, ◌+◌, ◌-◌, ◌*◌, ℕ, Bool, true, false, List, [], ◌∷◌, arith, refl, inl, inr}
use Rattle.std.proofs.Math.Nat.{mul-le-mul_left}
use Rattle.std.proofs.lemmas.Bool.{cases_lt, leb-true}
use Rattle.std.proofs.lemmas.Bool.Decides.{nat_tests}
use Rattle.std.specs.Prelude.{nat_le, if◌then◌else◌}
use Rattle.bridge_limits.proofs.Cases.{by_bool}
use Rattle.bridge_meter.specs.declared.MeterPlan.{MeterPlan}
use Rattle.bridge_meter.specs.Bounds.{JudgedFrame, Limits, committed, coupled_overflow, overflow}
use Rattle.bridge_meter.specs.Colours.{MeterEvent, meter_history, meter_limits, octet_units}
use Rattle.bridge_meter.specs.Covers.{IsCovered, IsGreenCovered, IsYellowCovered}
use Rattle.bridge_meter.specs.StandsFor.{AreInOrder, newest_time}
use Rattle.bridge_meter.proofs.Covered.{committed_le, covers_committed, covers_excess, excess_le}
use Rattle.bridge_meter.proofs.Stands.{covered}
use Rattle.bridge_groups.specs.MeterAllowance.{meter_allowance, recent_passed_units, meter_rate}

-- The excess bucket gains at most the overflow of the committed bucket.
coupled_most : (l : Limits) (o : ℕ) → coupled_overflow l o ≤ o
coupled_most l o = let P : Bool → Type 0 = λ c. (if c then o else 0) ≤ o in elim l.coupling as P [ true ↦ omega arith | false ↦ omega arith ]

-- GREEN FRAMES

-- Green frames at `u` or later, with some newer frames, take at most what the committed bucket gives.
green_since : (l : Limits) (now green g u w : ℕ) (fs : List JudgedFrame) → now ≡ u + w → IsGreenCovered l now green fs → g ≤ green → g ≤ l.cbs + l.cir * w → g + recent_passed_units true u fs ≤ l.cbs + l.cir * w
green_since l now green g u w [] at covers some upto = omega (arith, upto)
green_since l now green g u w (f ∷ fs) at covers some upto = by_bool (nat_le u f.at)
    (λ k.
    let before : u ≤ f.at = leb-true u f.at k in
    let near : now - f.at ≤ w = omega (arith, at, before) in
    let rate = mul-le-mul_left l.cir near in
    let first = covers.1 in
    let all : g + f.green ≤ l.cbs + l.cir * w = omega (arith, first, some, rate) in
    let rest = green_since l now (green + f.green) (g + f.green) u w fs at covers.2 (omega (arith, some)) all in
    rw k (omega (arith, rest)))
    (λ k.
    let rest = green_since l now (green + f.green) g u w fs at covers.2 (omega (arith, some)) upto in
    rw k (omega (arith, rest)))

-- Green frames from `u` up to the newest frame take at most what the committed bucket gives.
green_upto : (l : Limits) (f : JudgedFrame) (fs : List JudgedFrame) (u w : ℕ) → f.at ≡ u + w → IsCovered l (f ∷ fs) → recent_passed_units true u (f ∷ fs) ≤ l.cbs + l.cir * w
green_upto l f fs u w at c =
    let here : nat_le u f.at ≡ true = grind (arith, nat_tests) in
    let own = committed_le l f.at fs in
    let took = c.2 in
    let covers = covers_committed l f.at 0 f.green fs c.0 c.2 in
    let rest = green_since l (f.at + 0) (f.green + 0) f.green u w fs (omega (arith, at)) covers (omega arith) (omega (arith, own, took)) in
    rw here (omega (arith, rest))

-- GREEN AND YELLOW FRAMES

-- Green and yellow frames take at most what both buckets give. The overflow between them counts once.
both_since : (l : Limits) (now held green yellow g u w : ℕ) (fs : List JudgedFrame) → now ≡ u + w → IsYellowCovered l now held green yellow fs → g ≤ green + yellow → g ≤ l.cbs + l.ebs + (l.cir * w + l.eir * w) → g + recent_passed_units false u fs ≤ l.cbs + l.ebs + (l.cir * w + l.eir * w)
both_since l now held green yellow g u w [] at covers some upto = omega (arith, upto)
both_since l now held green yellow g u w (f ∷ fs) at covers some upto = by_bool (nat_le u f.at)
    (λ k.
    let before : u ≤ f.at = leb-true u f.at k in
    let near : now - f.at ≤ w = omega (arith, at, before) in
    let rate = mul-le-mul_left l.cir near in
    let more = mul-le-mul_left l.eir near in
    let first = covers.0 in
    let second = covers.1 in
    let flown = coupled_most l (overflow l f.at (committed l f.at fs) (green + f.green) now held) in
    let full = committed_le l f.at fs in
    let all : g + (f.green + f.yellow) ≤ l.cbs + l.ebs + (l.cir * w + l.eir * w) = omega (arith, first, second, some, rate, more, flown, full) in
    let rest = both_since l now held (green + f.green) (yellow + f.yellow) (g + (f.green + f.yellow)) u w fs at covers.2 (omega (arith, some)) all in
    rw k (omega (arith, rest)))
    (λ k.
    let rest = both_since l now held (green + f.green) (yellow + f.yellow) g u w fs at covers.2 (omega (arith, some)) upto in
    rw k (omega (arith, rest)))

both_upto : (l : Limits) (f : JudgedFrame) (fs : List JudgedFrame) (u w : ℕ) → f.at ≡ u + w → IsCovered l (f ∷ fs) → recent_passed_units false u (f ∷ fs) ≤ l.cbs + l.ebs + (l.cir * w + l.eir * w)
both_upto l f fs u w at c =
    let here : nat_le u f.at ≡ true = grind (arith, nat_tests) in
    let own = committed_le l f.at fs in
    let other = excess_le l f.at fs in
    let took = c.2 in
    let taken = c.3 in
    let covers = covers_excess l f.at 0 f.green f.yellow 0 fs c.0 c.1 (omega (arith, took)) c.3 in
    let rest = both_since l (f.at + 0) 0 (f.green + 0) (f.yellow + 0) (f.green + f.yellow) u w fs (omega (arith, at)) covers (omega arith) (omega (arith, own, took, other, taken)) in
    rw here (omega (arith, rest))

-- A METER

-- If frames are in order, no frame arrived after the newest one.
pub none_since : (drop : Bool) (u : ℕ) (fs : List JudgedFrame) → AreInOrder fs → newest_time fs < u → recent_passed_units drop u fs ≡ 0
none_since drop u [] order h = refl
none_since drop u (f ∷ fs) order h =
    let early : nat_le u f.at ≡ false = grind (arith, nat_tests) in
    let before = order.0 in
    let rest = none_since drop u fs order.1 (omega (arith, before, h)) in
    rw early (omega (arith, rest))

by_drop : (drop : Bool) (cbs ebs cir eir : ℕ) (f : JudgedFrame) (fs : List JudgedFrame) (coupling : Bool) (u w : ℕ) → f.at ≡ u + w → IsCovered (record { cir = cir; cbs = cbs * octet_units; eir = eir; ebs = ebs * octet_units; coupling = coupling }) (f ∷ fs)
    → recent_passed_units drop u (f ∷ fs) ≤ (if drop then cbs else cbs + ebs) * octet_units + (if drop then cir else cir + eir) * w
by_drop true cbs ebs cir eir f fs coupling u w at c = let h = green_upto (record { cir = cir; cbs = cbs * octet_units; eir = eir; ebs = ebs * octet_units; coupling = coupling }) f fs u w at c in h
by_drop false cbs ebs cir eir f fs coupling u w at c = let h = both_upto (record { cir = cir; cbs = cbs * octet_units; eir = eir; ebs = ebs * octet_units; coupling = coupling }) f fs u w at c in omega (arith, h)

allowed_later : (p : MeterPlan) (v w : ℕ) → v ≤ w → meter_allowance p v ≤ meter_allowance p w
allowed_later p v w h = let more = mul-le-mul_left (meter_rate p) h in omega (arith, more)

upto_by : (p : MeterPlan) (u w : ℕ) (js : List JudgedFrame) → AreInOrder js → IsCovered (meter_limits p) js → newest_time js ≤ u + w → recent_passed_units p.drop_yellow u js ≤ meter_allowance p w
upto_by p u w [] order c upto = omega arith
upto_by p u w (f ∷ fs) order c upto = elim (cases_lt f.at u) [
  | inl l ↦ let none = none_since p.drop_yellow u (f ∷ fs) order l in omega (arith, none)
  | inr l ↦
      let v : ℕ = f.at - u in
      let at : f.at ≡ u + v = omega (arith, l) in
      let own = by_drop p.drop_yellow p.cbs p.ebs p.cir p.eir f fs p.coupling u v at c in
      let more = allowed_later p v w (omega (arith, at, upto)) in
      omega (arith, own, more)
]

-- In any `w` ns from `u`, the frames that a meter passes have at most the units of its allowance.
pub lets_upto : (p : MeterPlan) (u w : ℕ) (es : List MeterEvent) → AreInOrder (meter_history p es).judged → newest_time (meter_history p es).judged ≤ u + w → recent_passed_units p.drop_yellow u (meter_history p es).judged ≤ meter_allowance p w
lets_upto p u w es order upto = upto_by p u w (meter_history p es).judged order (covered p es order) upto
