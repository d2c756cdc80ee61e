use Rattle.std.proofs.Common.{◌≡◌, ℕ, zero, suc, Bool, true, ◌+◌, ◌<◌, ◌≤◌, arith, inl, inr, refl, ap, ◌∙◌}
use Rattle.std.proofs.lemmas.Bool.{cases_lt, and_parts, and_from, or_cases, or_left, or_right}
use Rattle.std.specs.Prelude.{◌↔◌}
use Rattle.bridge_cycle.specs.Fits.{Fits, IsPeriodic}
use Rattle.bridge_cycle.specs.Fitting.{all_open, fits_somewhere}
use Rattle.bridge_cycle.proofs.Repeats.{fits_near}

pub all_open_gives : (opens : ℕ → Bool) (t n : ℕ) → all_open opens t n ≡ true → Fits opens n t
unfolding all_open
all_open_gives opens t zero h u p q = absurd (omega arith)
all_open_gives opens t (suc n) h u p q =
    let b = and_parts (opens (t + n)) (all_open opens t n) h in
    elim (cases_lt u (t + n)) [ inl a ↦ all_open_gives opens t n b.1 u p a | inr a ↦ let e : u ≡ t + n = omega arith in ap opens e ∙ b.0 ]

pub all_open_from : (opens : ℕ → Bool) (t n : ℕ) → Fits opens n t → all_open opens t n ≡ true
unfolding all_open
all_open_from opens t zero f = refl
all_open_from opens t (suc n) f = and_from (opens (t + n)) (all_open opens t n) (f (t + n) (omega arith) (omega arith)) (all_open_from opens t n (λ u p q. f u p (omega arith)))

pub some_fits_gives : (opens : ℕ → Bool) (n occ : ℕ) → fits_somewhere opens n occ ≡ true → (t : ℕ) × Fits opens occ t
unfolding fits_somewhere
some_fits_gives opens zero occ h = absurd (cc)
some_fits_gives opens (suc n) occ h = elim (or_cases (all_open opens n occ) (fits_somewhere opens n occ) h) [
  | inl a ↦ (n, all_open_gives opens n occ a)
  | inr b ↦ some_fits_gives opens n occ b
]

pub some_fits_from : (opens : ℕ → Bool) (n occ t : ℕ) → t < n → Fits opens occ t → fits_somewhere opens n occ ≡ true
unfolding fits_somewhere
some_fits_from opens zero occ t h f = absurd (omega arith)
some_fits_from opens (suc n) occ t h f = elim (cases_lt t n) [
  | inl a ↦ or_right (all_open opens n occ) (fits_somewhere opens n occ) (some_fits_from opens n occ t a f)
  | inr b ↦ let e : t ≡ n = omega arith in or_left (all_open opens n occ) (fits_somewhere opens n occ) (all_open_from opens n occ (rw e at f))
]

-- For periodic open times, a transmission fits at some time exactly if it fits at a time within the first cycle.
pub some_fits_is : (opens : ℕ → Bool) (cycle occ : ℕ) → 0 < cycle → IsPeriodic opens cycle → (fits_somewhere opens cycle occ ≡ true) ↔ ((t : ℕ) × Fits opens occ t)
some_fits_is opens cycle occ some r =
    (some_fits_gives opens cycle occ, λ f. let near : (u : ℕ) × (0 ≤ u) × (u < 0 + cycle) × Fits opens occ u = fits_near opens cycle occ f.0 0 some r f.1 in some_fits_from opens cycle occ near.0 (let k = near.2 in omega arith) near.3)
