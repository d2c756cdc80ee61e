-- A schedule change: the times of the old and the new windows together bound both.
use Rattle.std.proofs.Common.{◌≡◌, ℕ, zero, suc, Bool, ◌<◌, ◌≤◌, ◌+◌, arith, sym, ◌∙◌, inl, inr}
use Rattle.std.proofs.lemmas.Bool.{cases_lt}
use Rattle.bridge_cycle.specs.Fits.{IsFirstFit}
use Rattle.bridge_bounds.specs.Bounds.{FramesEnd, IsLongestTime}
use Rattle.bridge_bounds.proofs.Steps.{ends_after, ends_rises, ends_some}

-- The windows before a time, and from this time on.
pub record IsChange (old new both : ℕ → Bool) (at : ℕ) : Type 0 where
  pub before : (w : ℕ) → w < at → both w ≡ old w
  pub after : (w : ℕ) → at ≤ w → both w ≡ new w

first_after : (old new both : ℕ → Bool) (at occ u s : ℕ) → IsChange old new both at → at ≤ u → IsFirstFit new occ u s → IsFirstFit both occ u s
first_after old new both at occ u s change h first =
    let after = first.after in
    record {
      after = after;
      fits = λ w p q. change.after w (omega (arith, p, after, h)) ∙ first.fits w p q;
      least = λ v p q f. first.least v p q (λ w a b. sym (change.after w (omega (arith, a, p, h))) ∙ f w a b);
    }

-- After the change, frames end by the new windows.
ends_new : (old new both : ℕ → Bool) (at occ k u v : ℕ) → IsChange old new both at → at ≤ u → FramesEnd new occ k u v → FramesEnd both occ k u v
ends_new old new both at occ zero u v change h e = e
ends_new old new both at occ (suc k) u v change h (w, s, e, first, is) =
    let later = ends_after new occ k u w e in
    (w, s, ends_new old new both at occ k u w change h e, first_after old new both at occ w s change (omega (arith, later, h)) first, is)

first_before : (old new both : ℕ → Bool) (at occ u s : ℕ) → IsChange old new both at → s + occ ≤ at → IsFirstFit old occ u s → IsFirstFit both occ u s
first_before old new both at occ u s change h first =
    record {
      after = first.after;
      fits = λ w p q. change.before w (omega (arith, q, h)) ∙ first.fits w p q;
      least = λ v p q f. first.least v p q (λ w a b. sym (change.before w (omega (arith, b, q, h))) ∙ f w a b);
    }

-- Frames that leave before the change end by the old windows.
ends_old : (old new both : ℕ → Bool) (at occ k u v : ℕ) → IsChange old new both at → v ≤ at → FramesEnd old occ k u v → FramesEnd both occ k u v
ends_old old new both at occ zero u v change h e = e
ends_old old new both at occ (suc k) u v change h (w, s, e, first, is) =
    let after = first.after in
    (w, s, ends_old old new both at occ k u w change (omega (arith, after, is, h)) e, first_before old new both at occ w s change (omega (arith, is, h)) first, is)

-- A frame that hasn't left at the change has waited less than the old longest time; the new longest time is enough for the rest.
pub longest_over : (old new both : ℕ → Bool) (at occ k d e : ℕ) → IsChange old new both at → ((w : ℕ) → (s : ℕ) × IsFirstFit both occ w s) → IsLongestTime old occ k d → IsLongestTime new occ k e → IsLongestTime both occ k (d + e)
longest_over old new both at occ k d e change some one other u =
    let (y, before, soon) = one u in
    elim (cases_lt at y) [
      | inr l ↦ (y, ends_old old new both at occ k u y change l before, omega (arith, soon))
      | inl l ↦ elim (cases_lt u at) [
        | inl m ↦
            let (z, after, upto) = other at in
            let (v, ends) = ends_some both occ k u some in
            let low = ends_rises both occ k u at v z (omega (arith, m)) ends (ends_new old new both at occ k at z change (omega arith) after) in
            (v, ends, omega (arith, low, upto, l, soon))
        | inr m ↦
            let (z, after, upto) = other u in
            (z, ends_new old new both at occ k u z change m after, omega (arith, upto))
      ]
    ]
