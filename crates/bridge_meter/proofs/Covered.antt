use Rattle.std.proofs.Common.{◌≡◌, ℕ, Bool, true, false, ◌+◌, ◌-◌, ◌*◌, ◌≤◌, min, List, [], ◌∷◌, arith, sym, subst}
use Rattle.std.specs.Prelude.{if◌then◌else◌}
use Rattle.bridge_meter.specs.Bounds.{JudgedFrame, Limits, least_bound, committed_bounds, committed, overflow, coupled_overflow, excess_bounds, excess}
use Rattle.bridge_meter.specs.Covers.{IsGreenCovered, IsYellowCovered, IsCovered}
use Rattle.bridge_meter.specs.StandsFor.{newest_time}
use Rattle.bridge_meter.proofs.Moves.{committed_step, excess_step, overflow_moves, later}

least_le : (a : ℕ) (xs : List ℕ) → least_bound a xs ≤ a
least_le a [] = omega arith
least_le a (x ∷ xs) = let h = least_le a xs in omega arith

pub committed_le : (l : Limits) (t : ℕ) (fs : List JudgedFrame) → committed l t fs ≤ l.cbs
unfolding committed
committed_le l t fs = least_le l.cbs (committed_bounds l t 0 fs)

pub covers_later : (l : Limits) (now d g green : ℕ) (fs : List JudgedFrame) → IsGreenCovered l now green fs → g ≤ least_bound l.cbs (committed_bounds l now green fs) → IsGreenCovered l (now + d) (g + green) fs
covers_later l now d g green [] k h = tt
covers_later l now d g green (f ∷ fs) k h =
    let s : g + green + f.green ≡ g + (green + f.green) = omega arith in
    let m = later l.cir now d f.at k.0 in
    let q = k.1 in
    let h1 : g ≤ l.cbs + l.cir * (now - f.at) - (green + f.green) = omega arith in
    let h2 : g ≤ least_bound l.cbs (committed_bounds l now (green + f.green) fs) = omega arith in
    let low : g + green + f.green ≤ l.cbs + l.cir * (now + d - f.at) = omega arith in
    let at : f.at ≤ now + d = let r = k.0 in omega arith in
    let P : ℕ → Type 0 = λ n. IsGreenCovered l (now + d) n fs in
    (at, low, subst P (sym s) (covers_later l now d g (green + f.green) fs k.2 h2))

pub covers_committed : (l : Limits) (now d g : ℕ) (fs : List JudgedFrame) → IsGreenCovered l now 0 fs → g ≤ committed l now fs → IsGreenCovered l (now + d) (g + 0) fs
unfolding committed
covers_committed l now d g fs k h = covers_later l now d g 0 fs k h

coupled_le : (l : Limits) (a b : ℕ) → a ≤ b → coupled_overflow l a ≤ coupled_overflow l b
coupled_le l a b h = let P : Bool → Type 0 = λ c. (if c then a else 0) ≤ (if c then b else 0) in elim l.coupling as P [ true ↦ h | false ↦ omega arith ]

pub covers_excess_later : (l : Limits) (now d g y held held2 green yellow : ℕ) (fs : List JudgedFrame) → IsGreenCovered l now green fs → IsYellowCovered l now held green yellow fs → g + held2 ≤ held + l.cir * d → y ≤ least_bound l.ebs (excess_bounds l now held green yellow fs) → IsYellowCovered l (now + d) held2 (g + green) (y + yellow) fs
covers_excess_later l now d g y held held2 green yellow [] a k h j = tt
covers_excess_later l now d g y held held2 green yellow (f ∷ fs) a k h j =
    let s : g + green + f.green ≡ g + (green + f.green) = omega arith in
    let t : y + yellow + f.yellow ≡ y + (yellow + f.yellow) = omega arith in
    let m = later l.cir now d f.at a.0 in
    let n = later l.eir now d f.at a.0 in
    let k0 = k.0 in
    let k1 = k.1 in
    let v = overflow_moves (committed l f.at fs) (l.cir * (now - f.at)) held (green + f.green) g (l.cir * d) held2 k.0 h in
    let first : g + green + f.green + held2 ≤ committed l f.at fs + l.cir * (now + d - f.at) = omega arith in
    let c1 : overflow l f.at (committed l f.at fs) (green + f.green) now held ≤ overflow l f.at (committed l f.at fs) (g + green + f.green) (now + d) held2 = rw (m, s) (rw v (omega arith)) in
    let c2 = coupled_le l _ _ c1 in
    let j1 : y ≤ l.ebs + l.eir * (now - f.at) + coupled_overflow l (overflow l f.at (committed l f.at fs) (green + f.green) now held) - (yellow + f.yellow) = omega arith in
    let j2 : y ≤ least_bound l.ebs (excess_bounds l now held (green + f.green) (yellow + f.yellow) fs) = omega arith in
    let second : y + yellow + f.yellow ≤ l.ebs + l.eir * (now + d - f.at) + coupled_overflow l (overflow l f.at (committed l f.at fs) (g + green + f.green) (now + d) held2) = omega arith in
    let P : ℕ → Type 0 = λ x. IsYellowCovered l (now + d) held2 x (y + yellow + f.yellow) fs in
    let Q : ℕ → Type 0 = λ x. IsYellowCovered l (now + d) held2 (g + (green + f.green)) x fs in
    (first, second, subst P (sym s) (subst Q (sym t) (covers_excess_later l now d g y held held2 (green + f.green) (yellow + f.yellow) fs a.2 k.2 h j2)))

pub covers_excess : (l : Limits) (now d g y held2 : ℕ) (fs : List JudgedFrame) → IsGreenCovered l now 0 fs → IsYellowCovered l now (committed l now fs) 0 0 fs → g + held2 ≤ committed l now fs + l.cir * d → y ≤ excess l now fs → IsYellowCovered l (now + d) held2 (g + 0) (y + 0) fs
unfolding excess
covers_excess l now d g y held2 fs a k h j = covers_excess_later l now d g y (committed l now fs) held2 0 0 fs a k h j

-- Units that a frame took and units still in the bucket come from the earlier level and the refill since.
pub spent : (l : Limits) (f : JudgedFrame) (fs : List JudgedFrame) (d : ℕ) → IsCovered l (f ∷ fs) → f.green + committed l (f.at + d) (f ∷ fs) ≤ committed l f.at fs + l.cir * d
spent l f fs d s =
    let e = committed_step l f fs d s.0 in
    let g = s.2 in
    omega arith

pub excess_le : (l : Limits) (t : ℕ) (fs : List JudgedFrame) → excess l t fs ≤ l.ebs
unfolding excess
excess_le l t fs = least_le l.ebs (excess_bounds l t (committed l t fs) 0 0 fs)

covered_next : (l : Limits) (f : JudgedFrame) (fs : List JudgedFrame) (d : ℕ) (g y : ℕ) → IsCovered l (f ∷ fs) → IsGreenCovered l (f.at + d) 0 (f ∷ fs) × IsYellowCovered l (f.at + d) (committed l (f.at + d) (f ∷ fs)) 0 0 (f ∷ fs)
covered_next l f fs d g y s =
    let sp = spent l f fs d s in
    let now : f.at + d - f.at ≡ d = omega arith in
    let cl = committed_le l f.at fs in
    let el = excess_le l f.at fs in
    let s2 = s.2 in
    let s3 = s.3 in
    let a : f.at ≤ f.at + d = omega arith in
    let b : 0 + f.green ≤ l.cbs + l.cir * (f.at + d - f.at) = omega arith in
    let g0 : f.green + 0 ≡ 0 + f.green = omega arith in
    let y0 : f.yellow + 0 ≡ 0 + f.yellow = omega arith in
    let P : ℕ → Type 0 = λ n. IsGreenCovered l (f.at + d) n fs in
    let held2 = committed l (f.at + d) (f ∷ fs) in
    let Q : ℕ → Type 0 = λ n. IsYellowCovered l (f.at + d) held2 n (f.yellow + 0) fs in
    let R : ℕ → Type 0 = λ n. IsYellowCovered l (f.at + d) held2 (0 + f.green) n fs in
    let first : 0 + f.green + held2 ≤ committed l f.at fs + l.cir * (f.at + d - f.at) = rw now (omega arith) in
    let second : 0 + f.yellow ≤ l.ebs + l.eir * (f.at + d - f.at) + coupled_overflow l (overflow l f.at (committed l f.at fs) (0 + f.green) (f.at + d) held2) = omega arith in
    ((a, b, subst P g0 (covers_committed l f.at d f.green fs s.0 s.2)), (first, second, subst R y0 (subst Q g0 (covers_excess l f.at d f.green f.yellow held2 fs s.0 s.1 sp s.3))))

pub covered_more : (l : Limits) (js : List JudgedFrame) (j : JudgedFrame) → IsCovered l js → newest_time js ≤ j.at → j.green ≤ committed l j.at js → j.yellow ≤ excess l j.at js → IsCovered l (j ∷ js)
covered_more l [] j s h g y = (tt, tt, g, y)
covered_more l (f ∷ fs) j s h g y =
    let d = j.at - f.at in
    let e : f.at + d ≡ j.at = omega arith in
    let P : ℕ → Type 0 = λ n. IsGreenCovered l n 0 (f ∷ fs) × IsYellowCovered l n (committed l n (f ∷ fs)) 0 0 (f ∷ fs) in
    let n = subst P e (covered_next l f fs d j.green j.yellow s) in
    (n.0, n.1, g, y)

-- Computes the committed bucket's level at a later time from the level that the newest frame left.
pub committed_next : (l : Limits) (f : JudgedFrame) (fs : List JudgedFrame) (d : ℕ) → IsCovered l (f ∷ fs) → committed l (f.at + d) (f ∷ fs) ≡ min l.cbs (committed l f.at fs - f.green + l.cir * d)
committed_next l f fs d s =
    let e = committed_step l f fs d s.0 in
    let g = s.2 in
    omega arith

-- Computes the excess bucket's level at a later time from the levels that the newest frame left.
pub excess_next : (l : Limits) (f : JudgedFrame) (fs : List JudgedFrame) (d : ℕ) → IsCovered l (f ∷ fs) → excess l (f.at + d) (f ∷ fs) ≡ min l.ebs (excess l f.at fs - f.yellow + l.eir * d + coupled_overflow l (committed l f.at fs - f.green + l.cir * d - committed l (f.at + d) (f ∷ fs)))
excess_next l f fs d s =
    let x = excess_step l f fs d s.0 s.1 (spent l f fs d s) in
    let g = s.2 in
    let y = s.3 in
    let o : committed l f.at fs - f.green + l.cir * d ≡ committed l f.at fs + l.cir * d - f.green = omega arith in
    rw o (omega arith)

-- The overflow since a frame grows by an amount independent of that frame.
pub overflow_later : (l : Limits) (at then_held green now held d taken later_held : ℕ) → at ≤ now → green + held ≤ then_held + l.cir * (now - at) → taken + later_held ≤ held + l.cir * d → overflow l at then_held (taken + green) (now + d) later_held ≡ overflow l at then_held green now held + (held + l.cir * d - taken - later_held)
overflow_later l at then_held green now held d taken later_held h k m = rw (later l.cir now d at h) (overflow_moves then_held (l.cir * (now - at)) held green taken (l.cir * d) later_held k m)
