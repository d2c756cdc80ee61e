use Rattle.std.proofs.Common.{◌≡◌, ℕ, Bool, true, false, ◌+◌, ◌<◌, ◌≤◌, arith, inl, inr}
use Rattle.std.proofs.lemmas.Bool.{cases_lt, both_ways}
use Rattle.bridge_cycle.specs.Fits.{Fits, IsFirstFit}

-- Holds if no time before `start` fits, and the class is open from `start` to `seen`.
pub record Searched (opens : ℕ → Bool) (occ from start seen : ℕ) : Type 0 where
  pub after : from ≤ start
  pub upto : start ≤ seen
  pub open_so_far : (u : ℕ) → start ≤ u → u < seen → opens u ≡ true
  pub none : (v : ℕ) → from ≤ v → v < start → ¬ Fits opens occ v

pub searched_begin : (opens : ℕ → Bool) (occ from : ℕ) → Searched opens occ from from from
searched_begin opens occ from = record { after = omega arith; upto = omega arith; open_so_far = λ u h k. absurd (omega arith); none = λ v h k. absurd (omega arith) }

pub searched_open : (opens : ℕ → Bool) (occ from start seen end : ℕ) → Searched opens occ from start seen → seen < end → ((u : ℕ) → seen ≤ u → u < end → opens u ≡ true) → Searched opens occ from start end
searched_open opens occ from start seen end s h o =
    record {
      after = s.after;
      upto = let k = s.upto in omega arith;
      open_so_far = λ u p q. elim (cases_lt u seen) [ inl a ↦ s.open_so_far u p a | inr b ↦ o u b q ];
      none = s.none;
    }

pub searched_closed : (opens : ℕ → Bool) (occ from start seen end : ℕ) → Searched opens occ from start seen → seen < end → seen < start + occ → ((u : ℕ) → seen ≤ u → u < end → opens u ≡ false) → Searched opens occ from end end
searched_closed opens occ from start seen end s h room o =
    record {
      after = let k = s.upto in let m = s.after in omega arith;
      upto = omega arith;
      open_so_far = λ u p q. absurd (omega arith);
      none = λ v p q f. elim (cases_lt v start) [
        | inl a ↦ s.none v p a f
        | inr b ↦ elim (cases_lt v seen) [
          | inl a ↦ both_ways (opens seen) (o seen (omega arith) h) (f seen (omega arith) (omega arith))
          | inr d ↦ both_ways (opens v) (o v d q) (f v (omega arith) (omega arith))
        ]
      ];
    }

pub searched_found : (opens : ℕ → Bool) (occ from start seen : ℕ) → Searched opens occ from start seen → start + occ ≤ seen → IsFirstFit opens occ from start
searched_found opens occ from start seen s h =
    record { after = s.after; fits = λ u p q. s.open_so_far u p (omega arith); least = s.none }

-- No fitting time precedes `start`.
pub searched_below : (opens : ℕ → Bool) (occ from start seen u : ℕ) → Searched opens occ from start seen → from ≤ u → Fits opens occ u → start ≤ u
searched_below opens occ from start seen u s h f = elim (cases_lt u start) [ inl a ↦ absurd (s.none u h a f) | inr b ↦ b ]
