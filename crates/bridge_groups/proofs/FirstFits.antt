-- First fits of a transmission that fits at some time.
use Rattle.std.proofs.Common.{◌≡◌, ℕ, zero, suc, Bool, ◌≤◌, ◌+◌, ◌-◌, ◌⊎◌, arith, sym, subst, ◌∙◌, inl, inr}
use Rattle.std.proofs.lemmas.Bool.{cases_lt, cases_Bool, false≢true}
use Rattle.bridge_cycle.specs.Fits.{Fits, IsFirstFit}
use Rattle.bridge_cycle.specs.Fitting.{all_open}
use Rattle.bridge_cycle.proofs.Fitting.{all_open_gives, all_open_from}

-- A transmission fits at a time, or it doesn't.
pub fits_or : (opens : ℕ → Bool) (occ t : ℕ) → Fits opens occ t ⊎ (¬ Fits opens occ t)
fits_or opens occ t = elim (cases_Bool (all_open opens t occ)) [
  | inl h ↦ inl (all_open_gives opens t occ h)
  | inr h ↦ inr (λ f. false≢true (sym h ∙ all_open_from opens t occ f))
]

-- If it fits `n` ns later, there is a first fit.
first_within : (opens : ℕ → Bool) (occ n from : ℕ) → Fits opens occ (from + n) → (s : ℕ) × IsFirstFit opens occ from s
first_within opens occ zero from f = (from, record { after = omega arith; fits = subst (Fits opens occ) (omega arith) f; least = λ v p q. absurd (omega (arith, p, q)) })
first_within opens occ (suc n) from f = elim (fits_or opens occ from) [
  | inl here ↦ (from, record { after = omega arith; fits = here; least = λ v p q. absurd (omega (arith, p, q)) })
  | inr none ↦
      let next : from + suc n ≡ (from + 1) + n = omega arith in
      let (s, first) = first_within opens occ n (from + 1) (subst (Fits opens occ) next f) in
      let after = first.after in (
        s,
        record {
          after = omega (arith, after);
          fits = first.fits;
          least = λ v p q. elim (cases_lt from v) [
            | inl l ↦ first.least v (omega (arith, l)) q
            | inr l ↦ let same : v ≡ from = omega (arith, l, p) in λ g. none (subst (Fits opens occ) same g)
          ];
        },
      )
]

-- If it fits at a later time, there is a first fit.
pub first_some : (opens : ℕ → Bool) (occ from t : ℕ) → from ≤ t → Fits opens occ t → (s : ℕ) × IsFirstFit opens occ from s
first_some opens occ from t h f = let e : t ≡ from + (t - from) = omega (arith, h) in first_within opens occ (t - from) from (subst (Fits opens occ) e f)
