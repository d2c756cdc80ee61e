-- Successive fits of a transmission.
use Rattle.std.proofs.Common.{◌≡◌, ℕ, zero, suc, Bool, true, false, ◌<◌, ◌≤◌, ◌+◌, ◌-◌, arith, sym, subst, ◌∙◌, inl, inr}
use Rattle.std.proofs.lemmas.Bool.{cases_lt, false≢true}
use Rattle.bridge_cycle.specs.Fits.{Fits, IsFirstFit}
use Rattle.bridge_port.proofs.Alone.{first_one}
use Rattle.bridge_groups.specs.Work.{IsNthFit}
use Rattle.bridge_groups.specs.FitRuns.{IsFitRun}
use Rattle.bridge_groups.specs.declared.fit_runs.FitRun.{FitRun}

-- Holds if each time has a first fit.
abbrev pub HasFits : (ℕ → Bool) → ℕ → Type 0
HasFits opens occ = (u : ℕ) → (v : ℕ) × IsFirstFit opens occ u v

-- The first fit of a shorter frame is no later than a fit of a longer one.
pub first_before : (opens : ℕ → Bool) (own occ from s v : ℕ) → own ≤ occ → from ≤ v → Fits opens occ v → IsFirstFit opens own from s → s ≤ v
first_before opens own occ from s v short after fits a =
    elim (cases_lt v s) [ inl l ↦ absurd (a.least v after l (λ w p q. fits w p (omega (arith, q, short)))) | inr l ↦ l ]

-- Each numbered fit is a fit.
pub nth_fits : (opens : ℕ → Bool) (occ n u v : ℕ) → IsNthFit opens occ n u v → Fits opens occ v
nth_fits opens occ zero u v h = h.fits
nth_fits opens occ (suc n) u v (w, e, first) = first.fits

-- Fit `n` from `u` is at `u + n` or later.
pub nth_after : (opens : ℕ → Bool) (occ n u v : ℕ) → IsNthFit opens occ n u v → u + n ≤ v
nth_after opens occ zero u v h = let after = h.after in omega (arith, after)
nth_after opens occ (suc n) u v (w, e, first) =
    let before = nth_after opens occ n u w e in
    let after = first.after in
    omega (arith, before, after)

-- There is at most one fit `n` from a time.
pub nth_once : (opens : ℕ → Bool) (occ n u v w : ℕ) → IsNthFit opens occ n u v → IsNthFit opens occ n u w → v ≡ w
nth_once opens occ zero u v w a b = first_one opens occ u v w a b
nth_once opens occ (suc n) u v w (x, e, first) (y, f, other) =
    let same = nth_once opens occ n u x y e f in
    first_one opens occ (y + 1) v w (subst (λ (i : ℕ). IsFirstFit opens occ (i + 1) v) same first) other

-- Fit `k + n` exists, at least `k` ns after fit `n`.
pub nth_more : (opens : ℕ → Bool) (occ n k u v : ℕ) → HasFits opens occ → IsNthFit opens occ n u v → (w : ℕ) × IsNthFit opens occ (k + n) u w × (v + k ≤ w)
nth_more opens occ n zero u v some h = (v, subst (λ (i : ℕ). IsNthFit opens occ i u v) (let e : n ≡ zero + n = omega arith in e) h, omega arith)
nth_more opens occ n (suc k) u v some h =
    let (w, e, upto) = nth_more opens occ n k u v some h in
    let (x, first) = some (w + 1) in
    let after = first.after in
    (x, subst (λ (i : ℕ). IsNthFit opens occ i u x) (let same : suc (k + n) ≡ suc k + n = omega arith in same) (w, e, first), omega (arith, upto, after))

-- A fit with a greater number is later by at least the difference.
pub nth_apart : (opens : ℕ → Bool) (occ n m u v w : ℕ) → HasFits opens occ → n ≤ m → IsNthFit opens occ n u v → IsNthFit opens occ m u w → v + (m - n) ≤ w
nth_apart opens occ n m u v w some h a b =
    let (x, e, upto) = nth_more opens occ n (m - n) u v some a in
    let same : (m - n) + n ≡ m = omega (arith, h) in
    let is = nth_once opens occ m u x w (subst (λ (i : ℕ). IsNthFit opens occ i u x) same e) b in
    omega (arith, upto, is)

-- A fit is the first fit from its own time.
pub first_here : (opens : ℕ → Bool) (occ v : ℕ) → Fits opens occ v → IsFirstFit opens occ v v
first_here opens occ v fit = record { after = omega arith; fits = fit; least = λ x p q. absurd (omega (arith, p, q)) }

-- Fit `n` from fit `k` is fit `n + k`.
pub nth_behind : (opens : ℕ → Bool) (occ k n u v w : ℕ) → IsNthFit opens occ k u v → IsNthFit opens occ n v w → IsNthFit opens occ (n + k) u w
nth_behind opens occ k zero u v w a b =
    let same = first_one opens occ v v w (first_here opens occ v (nth_fits opens occ k u v a)) b in
    subst (λ (i : ℕ). IsNthFit opens occ i u w) (let e : k ≡ zero + k = omega arith in e) (subst (λ (i : ℕ). IsNthFit opens occ k u i) same a)
nth_behind opens occ k (suc n) u v w a (x, e, first) =
    subst (λ (i : ℕ). IsNthFit opens occ i u w) (let same : suc (n + k) ≡ suc n + k = omega arith in same) (x, nth_behind opens occ k n u v x a e, first)

-- There is a fit `n` from each time.
pub nth_some : (opens : ℕ → Bool) (occ n u : ℕ) → HasFits opens occ → (z : ℕ) × IsNthFit opens occ n u z
nth_some opens occ zero u some = some u
nth_some opens occ (suc n) u some =
    let (w, e) = nth_some opens occ n u some in
    let (z, first) = some (w + 1) in
    (z, (w, e, first))

-- FIT RUNS

-- If a class is open from a fit up to a closed time, the fits up to `occ` ns before the closed time are a run.
pub run_between : (opens : ℕ → Bool) (occ from first closed : ℕ) (run : FitRun) → 1 ≤ occ → IsFirstFit opens occ from first → first + occ ≤ closed → ((u : ℕ) → first + occ ≤ u → u < closed → opens u ≡ true) → opens closed ≡ false → run.first ≡ first → run.length ≡ closed - occ - first + 1 → IsFitRun opens occ from run
run_between opens occ from first closed run some is after opened shut same many = record {
  first = subst (IsFirstFit opens occ from) (sym same) is;
  some = omega (arith, many);
  fits = λ i less v p q. elim (cases_lt v (first + occ)) [
    | inl l ↦ is.fits v (omega (arith, p, same)) l
    | inr l ↦ opened v l (omega (arith, q, less, many, same, after))
  ];
  ends = λ fit. false≢true (sym shut ∙ fit closed (omega (arith, many, same, after, some)) (omega (arith, many, same, after, some)));
}
