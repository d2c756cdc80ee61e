-- Frames that conform to a meter's burst and rate are green.
use Rattle.std.proofs.Common.{◌≡◌, ◌≤◌, ◌+◌, ◌-◌, ◌*◌, ℕ, Bool, true, false, not, ◌||◌, List, [], ◌∷◌, arith, refl, ap, sym, subst}
use Rattle.std.proofs.Math.Nat.{mul-le-mul_left}
use Rattle.std.proofs.Math.Bool.{and-false}
use Rattle.std.proofs.lemmas.Bool.Decides.{nat_tests}
use Rattle.std.specs.Prelude.{nat_le}
use Rattle.bridge_meter.specs.declared.Colour.TheVariants.{Green}
use Rattle.bridge_meter.specs.declared.MeterPlan.{MeterPlan}
use Rattle.bridge_meter.specs.Bounds.{JudgedFrame, Limits, committed, committed_bounds, least_bound}
use Rattle.bridge_meter.specs.Colours.{Arrived, Cleared, MeterEvent, MeterHistory, colour_by_history, frame_colour, history_with_frame, may_be_green, meter_history, meter_limits, octet_units}
use Rattle.bridge_groups.specs.MeterAllowance.{AreConforming, AreFramesInOrder, green_frames, last_metered_time, recent_octets}

-- Holds if each number of the list is at least `g`.
abbrev AreAtLeast : ℕ → List ℕ → Type 0
AreAtLeast g [] = Unit {0}
AreAtLeast g (x ∷ xs) = (g ≤ x) × AreAtLeast g xs

at_least : (g a : ℕ) (xs : List ℕ) → g ≤ a → AreAtLeast g xs → g ≤ least_bound a xs
at_least g a [] h all = h
at_least g a (x ∷ xs) h all = let rest = at_least g a xs h all.1 in let own = all.0 in omega (arith, rest, own)

-- Holds if a talker conforms, seen from a frame at `at`: this frame and the newer ones took `taken` units.
abbrev HasConformingPast : ℕ → ℕ → ℕ → ℕ → List MeterEvent → Type 0
HasConformingPast burst rate at taken es = (u w : ℕ) → at ≡ u + w → u ≤ last_metered_time es → taken + recent_octets u es * octet_units ≤ burst * octet_units + rate * w

-- Each bound of the committed bucket leaves enough units for the frame.
bounds_leave : (l : Limits) (burst rate at g green : ℕ) (es : List MeterEvent) → burst * octet_units ≤ l.cbs → rate ≤ l.cir → last_metered_time es ≤ at → AreFramesInOrder es → HasConformingPast burst rate at (g + green) es → AreAtLeast g (committed_bounds l at green (green_frames es))
bounds_leave l burst rate at g green [] size speed upto order keeps = tt
bounds_leave l burst rate at g green (Cleared ∷ es) size speed upto order keeps = bounds_leave l burst rate at g green es size speed upto order keeps
bounds_leave l burst rate at g green (Arrived t octets dei ∷ es) size speed upto order keeps =
    let before = order.0 in
    let here : nat_le t t ≡ true = grind (arith, nat_tests) in
    let w : ℕ = at - t in
    let own = keeps t w (omega (arith, upto)) (omega arith) in
    let mine : g + green + (octets + recent_octets t es) * octet_units ≤ burst * octet_units + rate * w = rw here at own in
    let times : rate * w ≤ l.cir * w = let m = mul-le-mul_left w speed in omega (arith, m) in
    let low : g + (green + octets * octet_units) ≤ l.cbs + l.cir * (at - t) = omega (arith, mine, times, size) in (
      omega (arith, low),
      bounds_leave l burst rate at g (green + octets * octet_units) es size speed (omega (arith, before, upto)) order.1
          (λ u v from early.
          let late : nat_le u t ≡ true = grind (arith, nat_tests) in
          let all = keeps u v from (omega (arith, early, before)) in
          let more : g + green + (octets + recent_octets u es) * octet_units ≤ burst * octet_units + rate * v = rw late at all in
          omega (arith, more)),
    )

-- The committed bucket has enough units for a conforming frame.
leaves : (l : Limits) (burst rate at octets : ℕ) (es : List MeterEvent) → burst * octet_units ≤ l.cbs → rate ≤ l.cir → AreFramesInOrder (Arrived at octets false ∷ es) → AreConforming burst rate (Arrived at octets false ∷ es) → octets * octet_units ≤ committed l at (green_frames es)
unfolding committed
leaves l burst rate at octets es size speed order keeps =
    let here : nat_le at at ≡ true = grind (arith, nat_tests) in
    let own : (octets + recent_octets at es) * octet_units ≤ burst * octet_units + rate * 0 = let h = keeps.1 at 0 (omega arith) in rw here at h in
    at_least (octets * octet_units) l.cbs (committed_bounds l at 0 (green_frames es)) (omega (arith, own, size))
    (bounds_leave l burst rate at (octets * octet_units) 0 es size speed order.0 order.1
    (λ u w from early.
    let before = order.0 in
    let late : nat_le u at ≡ true = grind (arith, nat_tests) in
    let all = keeps.1 u w from in
    let more : (octets + recent_octets u es) * octet_units ≤ burst * octet_units + rate * w = rw late at all in
    omega (arith, more)))

may_be : (p : MeterPlan) → may_be_green p false ≡ true
may_be p = let P : Bool → Type 0 = λ b. (not b || true) ≡ true in elim p.aware as P [ true ↦ refl | false ↦ refl ]

-- A conforming frame is green.
green_by : (p : MeterPlan) (burst rate at octets : ℕ) (es : List MeterEvent) → burst ≤ p.cbs → rate ≤ p.cir → AreFramesInOrder (Arrived at octets false ∷ es) → AreConforming burst rate (Arrived at octets false ∷ es) → colour_by_history p (green_frames es) at octets false ≡ Green
green_by p burst rate at octets es size speed order keeps =
    let enough = leaves (meter_limits p) burst rate at octets es (omega (arith, size)) speed order keeps in
    let fits : nat_le (octets * octet_units) (committed (meter_limits p) at (green_frames es)) ≡ true = grind (arith, nat_tests) in
    rw (may_be p, fits) refl

abbrev all_green : List MeterEvent → MeterHistory
all_green es = record { judged = green_frames es; all_red = false }

after_green : (p : MeterPlan) (x : MeterHistory) (js : List JudgedFrame) (at octets : ℕ) (dei : Bool) → x ≡ record { judged = js; all_red = false } → colour_by_history p js at octets dei ≡ Green → history_with_frame p x at octets dei ≡ record { judged = record { at = at; green = octets * octet_units; yellow = 0 } ∷ js; all_red = false }
after_green p x js at octets dei is green =
    let y : MeterHistory = record { judged = js; all_red = false } in
    subst (λ (z : MeterHistory). history_with_frame p z at octets dei ≡ record { judged = record { at = at; green = octets * octet_units; yellow = 0 } ∷ js; all_red = false }) (sym is)
    (rw (green, and-false) refl)

-- All conforming frames are green.
pub past_green : (p : MeterPlan) (burst rate : ℕ) (es : List MeterEvent) → burst ≤ p.cbs → rate ≤ p.cir → AreFramesInOrder es → AreConforming burst rate es → meter_history p es ≡ all_green es
past_green p burst rate [] size speed order keeps = refl
past_green p burst rate (Cleared ∷ es) size speed order keeps = ap (λ (x : MeterHistory). record { judged = x.judged; all_red = false }) (past_green p burst rate es size speed order keeps)
past_green p burst rate (Arrived at octets true ∷ es) size speed order keeps = absurd (let h = keeps.0 in cc)
past_green p burst rate (Arrived at octets false ∷ es) size speed order keeps =
    after_green p (meter_history p es) (green_frames es) at octets false (past_green p burst rate es size speed order.1 keeps.2) (green_by p burst rate at octets es size speed order keeps)

pub next_green : (p : MeterPlan) (burst rate at octets : ℕ) (dei : Bool) (es : List MeterEvent) → burst ≤ p.cbs → rate ≤ p.cir → AreFramesInOrder (Arrived at octets dei ∷ es) → AreConforming burst rate (Arrived at octets dei ∷ es) → frame_colour p (meter_history p es) at octets dei ≡ Green
next_green p burst rate at octets true es size speed order keeps = absurd (let h = keeps.0 in cc)
next_green p burst rate at octets false es size speed order keeps =
    subst (λ (z : MeterHistory). frame_colour p z at octets false ≡ Green) (sym (past_green p burst rate es size speed order.1 keeps.2)) (green_by p burst rate at octets es size speed order keeps)
