use Rattle.std.proofs.Common.{◌≡◌, ℕ, Bool, true, false, ◌+◌, ◌-◌, ◌*◌, ◌≤◌, min, List, [], ◌∷◌, arith, refl, ap, ◌∙◌}
use Rattle.std.specs.Prelude.{map, if◌then◌else◌}
use Rattle.bridge_meter.specs.Bounds.{JudgedFrame, Limits, least_bound, committed_bounds, committed, overflow, coupled_overflow, excess_bounds, excess}
use Rattle.bridge_meter.specs.Covers.{IsGreenCovered, IsYellowCovered}

-- Level `v` after `up` units are added and `down` units are removed. If each bound changes by these units, so does the smallest bound.
abbrev pub moved : ℕ → ℕ → ℕ → ℕ
moved up down v = v + up - down

pub least_moves : (cap up down : ℕ) (vs : List ℕ) → min (moved up down cap) (least_bound cap (map (moved up down) vs)) ≡ min cap (moved up down (least_bound cap vs))
least_moves cap up down [] = grind arith
least_moves cap up down (v ∷ vs) = let h = least_moves cap up down vs in omega arith

pub later : (rate now d at : ℕ) → at ≤ now → rate * (now + d - at) ≡ rate * (now - at) + rate * d
later rate now d at h = ap (λ n. rate * n) (let e : now + d - at ≡ (now - at) + d = omega arith in e) ∙ omega arith

pub bounds_move : (l : Limits) (now d g green : ℕ) (fs : List JudgedFrame) → IsGreenCovered l now green fs → committed_bounds l (now + d) (g + green) fs ≡ map (moved (l.cir * d) g) (committed_bounds l now green fs)
bounds_move l now d g green [] k = refl
bounds_move l now d g green (f ∷ fs) k =
    let e : l.cbs + l.cir * (now + d - f.at) - (g + green + f.green) ≡ moved (l.cir * d) g (l.cbs + l.cir * (now - f.at) - (green + f.green)) = let m = later l.cir now d f.at k.0 in let q = k.1 in omega arith in
    let s : g + green + f.green ≡ g + (green + f.green) = omega arith in
    rw (e, s, bounds_move l now d g (green + f.green) fs k.2) refl

-- Level of the committed bucket `d` ns after a frame, from its level at the frame.
pub committed_step : (l : Limits) (f : JudgedFrame) (fs : List JudgedFrame) (d : ℕ) → IsGreenCovered l f.at 0 fs → committed l (f.at + d) (f ∷ fs) ≡ min l.cbs (moved (l.cir * d) f.green (committed l f.at fs))
unfolding committed
committed_step l f fs d k =
    let now : f.at + d - f.at ≡ d = omega arith in
    let z : f.green ≡ f.green + 0 = omega arith in
    let zz : 0 + f.green ≡ f.green + 0 = omega arith in
    rw (now, zz, bounds_move l f.at d f.green 0 fs k) (rw (← z) (least_moves l.cbs (l.cir * d) f.green (committed_bounds l f.at 0 fs)))

pub coupled_add : (l : Limits) (a b : ℕ) → coupled_overflow l (a + b) ≡ coupled_overflow l a + coupled_overflow l b
coupled_add l a b = let P : Bool → Type 0 = λ c. (if c then (a + b) else 0) ≡ (if c then a else 0) + (if c then b else 0) in elim l.coupling as P [ true ↦ refl | false ↦ refl ]

pub overflow_moves : (then_held flow held green g up held2 : ℕ) → green + held ≤ then_held + flow → g + held2 ≤ held + up → then_held + (flow + up) - (g + green) - held2 ≡ (then_held + flow - green - held) + (held + up - g - held2)
overflow_moves then_held flow held green g up held2 h k = omega arith

excess_value : (ebs e o1 o2 up y yellow : ℕ) → yellow ≤ ebs + e + o1 → ebs + (e + up) + (o1 + o2) - (y + yellow) ≡ moved (up + o2) y (ebs + e + o1 - yellow)
excess_value ebs e o1 o2 up y yellow h = omega arith

pub excess_bounds_move : (l : Limits) (now d g y held held2 green yellow : ℕ) (fs : List JudgedFrame) → IsGreenCovered l now green fs → IsYellowCovered l now held green yellow fs → g + held2 ≤ held + l.cir * d → excess_bounds l (now + d) held2 (g + green) (y + yellow) fs ≡ map (moved (l.eir * d + coupled_overflow l (held + l.cir * d - g - held2)) y) (excess_bounds l now held green yellow fs)
excess_bounds_move l now d g y held held2 green yellow [] a k h = refl
excess_bounds_move l now d g y held held2 green yellow (f ∷ fs) a k h =
    let s : g + green + f.green ≡ g + (green + f.green) = omega arith in
    let t : y + yellow + f.yellow ≡ y + (yellow + f.yellow) = omega arith in
    let u = coupled_add l (overflow l f.at (committed l f.at fs) (green + f.green) now held) (held + l.cir * d - g - held2) in
    let v = overflow_moves (committed l f.at fs) (l.cir * (now - f.at)) held (green + f.green) g (l.cir * d) held2 k.0 h in
    let w = excess_value l.ebs (l.eir * (now - f.at)) (coupled_overflow l (overflow l f.at (committed l f.at fs) (green + f.green) now held)) (coupled_overflow l (held + l.cir * d - g - held2)) (l.eir * d) y (yellow + f.yellow) k.1 in
    rw (s, t, later l.cir now d f.at a.0, later l.eir now d f.at a.0, v, u, w, excess_bounds_move l now d g y held held2 (green + f.green) (yellow + f.yellow) fs a.2 k.2 h) refl

-- Level of the excess bucket `d` ns after a frame, from its level at the frame.
pub excess_step : (l : Limits) (f : JudgedFrame) (fs : List JudgedFrame) (d : ℕ) → IsGreenCovered l f.at 0 fs → IsYellowCovered l f.at (committed l f.at fs) 0 0 fs → f.green + committed l (f.at + d) (f ∷ fs) ≤ committed l f.at fs + l.cir * d → excess l (f.at + d) (f ∷ fs) ≡ min l.ebs (moved (l.eir * d + coupled_overflow l (committed l f.at fs + l.cir * d - f.green - committed l (f.at + d) (f ∷ fs))) f.yellow (excess l f.at fs))
unfolding excess
excess_step l f fs d a k h =
    let held = committed l f.at fs in
    let held2 = committed l (f.at + d) (f ∷ fs) in
    let now : f.at + d - f.at ≡ d = omega arith in
    let g0 : 0 + f.green ≡ f.green + 0 = omega arith in
    let y0 : 0 + f.yellow ≡ f.yellow + 0 = omega arith in
    let g1 : f.green + 0 ≡ f.green = omega arith in
    let y1 : f.yellow + 0 ≡ f.yellow = omega arith in
    let up = l.eir * d + coupled_overflow l (held + l.cir * d - f.green - held2) in
    let first : l.ebs + l.eir * d + coupled_overflow l (held + l.cir * d - f.green - held2) - f.yellow ≡ moved up f.yellow l.ebs = omega arith in
    rw (now, g0, y0, excess_bounds_move l f.at d f.green f.yellow held held2 0 0 fs a k h) (rw (g1, y1, first) (least_moves l.ebs up f.yellow (excess_bounds l f.at held 0 0 fs)))
