-- Costs of long frames when a bound counts fits of short frames.
use Rattle.std.proofs.Common.{◌≡◌, ◌<◌, ◌≤◌, ◌+◌, ◌-◌, ℕ, zero, suc, Bool, true, arith, sym, subst, inl, inr}
use Rattle.std.proofs.lemmas.Bool.{cases_lt}
use Rattle.bridge_cycle.specs.Fits.{Fits, IsFirstFit}
use Rattle.bridge_groups.specs.Work.{IsNthFit, IsSufficientCost}
use Rattle.bridge_groups.proofs.NthFits.{HasFits, nth_apart, nth_once}

module _ (opens : ℕ → Bool) (occ on : ℕ) (one : 1 ≤ occ) (some : HasFits opens occ) (wide : (v : ℕ) → (Fits opens occ v → ⊥) → Fits opens occ (v + 1) → Fits opens on (v + 1)) where
  -- From a fit, either enough fits follow without a break for the longer frame, or the longer frame fits where the
  -- next run begins.
  scan : (r i f v z : ℕ) → r + i ≡ on - occ → occ ≤ on → v ≤ f → IsNthFit opens occ i v (f + i) → ((u : ℕ) → f ≤ u → u < f + i + occ → opens u ≡ true) → IsNthFit opens occ (on - occ) v z → (m : ℕ) × (v ≤ m) × (m ≤ z) × Fits opens on m
  scan zero i f v z left short from nth opened far =
      let same : i ≡ on - occ = omega (arith, left) in
      let end = nth_once opens occ (on - occ) v (f + i) z (subst (λ (j : ℕ). IsNthFit opens occ j v (f + i)) same nth) far in
      (f, from, omega (arith, end), λ u p q. opened u p (omega (arith, q, same, short)))
  scan (suc r) i f v z left short from nth opened far =
      let (y, first) = some ((f + i) + 1) in
      let after = first.after in
      let here : IsNthFit opens occ (suc i) v y = (f + i, nth, first) in
      elim (cases_lt ((f + i) + 1) y) [
        | inl l ↦
            let back : (y - 1) + 1 ≡ y = omega (arith, l) in
            let shut : Fits opens occ (y - 1) → ⊥ = first.least (y - 1) (omega (arith, l)) (omega (arith, l)) in
            let fits : Fits opens on y = subst (Fits opens on) back (wide (y - 1) shut (subst (Fits opens occ) (sym back) first.fits)) in
            let apart = nth_apart opens occ (suc i) (on - occ) v y z some (omega (arith, left)) here far in
            (y, omega (arith, from, after), omega (arith, apart), fits)
        | inr l ↦
            let next : y ≡ f + suc i = omega (arith, l, after) in
            scan r (suc i) f v z (omega (arith, left)) short from (subst (λ (j : ℕ). IsNthFit opens occ (suc i) v j) next here)
            (λ u p q. elim (cases_lt u (f + i + occ)) [ inl b ↦ opened u p b | inr b ↦ first.fits u (omega (arith, b, next, one)) (omega (arith, q, next)) ]) far
      ]

  -- If each run of fits of short frames starts with a fit of the longer frame, the longer frame costs its time and
  -- the difference.
  pub paid_long : (least : ℕ) → least ≤ on → occ ≤ on → IsSufficientCost opens occ least on (on + (on - occ))
  paid_long least low short = record {
    least_time = low;
    covers_time = omega arith;
    fits_soon = λ v z nth.
        let same : (on + (on - occ)) - on ≡ on - occ = omega arith in
        let far : IsNthFit opens occ (on - occ) v z = subst (λ (i : ℕ). IsNthFit opens occ i v z) same nth in
        let (f, first) = some v in
        let after = first.after in
        let none : f ≡ f + 0 = omega arith in
        scan (on - occ) 0 f v z (omega arith) short (omega (arith, after)) (subst (λ (j : ℕ). IsFirstFit opens occ v j) none first) (λ u p q. first.fits u p (omega (arith, q))) far;
  }
