use Rattle.std.proofs.Common.{◌≡◌, ℕ, Bool, ◌+◌, ◌-◌, ◌*◌, ◌/◌, ◌%◌, ◌<◌, ◌≤◌, arith, ap, ◌∙◌, sym, subst, zero, suc}
use Rattle.std.proofs.Math.Nat.{mod-lt}
use Rattle.bridge_cycle.specs.Fits.{Fits, IsPeriodic}

pub turns : (opens : ℕ → Bool) (c n u : ℕ) → IsPeriodic opens c → opens (u + n * c) ≡ opens u
turns opens c zero u r = ap opens (omega arith)
turns opens c (suc n) u r = let e : u + suc n * c ≡ u + n * c + c = omega arith in ap opens e ∙ (r (u + n * c) ∙ turns opens c n u r)

pub fits_up : (opens : ℕ → Bool) (c occ n t : ℕ) → IsPeriodic opens c → Fits opens occ t → Fits opens occ (t + n * c)
fits_up opens c occ n t r f u a b =
    let w = u - n * c in
    let e : w + n * c ≡ u = omega arith in
    ap opens (sym e) ∙ (turns opens c n w r ∙ f w (omega arith) (omega arith))

pub fits_down : (opens : ℕ → Bool) (c occ n t : ℕ) → IsPeriodic opens c → Fits opens occ (t + n * c) → Fits opens occ t
fits_down opens c occ n t r f u a b = sym (turns opens c n u r) ∙ f (u + n * c) (omega arith) (omega arith)

-- A transmission that fits once fits within a cycle of any time.
pub fits_near : (opens : ℕ → Bool) (c occ t from : ℕ) → 0 < c → IsPeriodic opens c → Fits opens occ t → (u : ℕ) × (from ≤ u) × (u < from + c) × Fits opens occ u
fits_near opens c occ t from some r f =
    let far = t + from * c in
    let ahead : from ≤ far = grind arith in
    let p = (far - from) % c in
    let q = (far - from) / c in
    let below : p < c = mod-lt (far - from) some in
    let e : far ≡ from + p + q * c = grind arith in
    (from + p, omega arith, omega arith, fits_down opens c occ q (from + p) r (subst (Fits opens occ) e (fits_up opens c occ from t r f)))
