-- A delay bound, a queue capacity and a cost, for a class that is always open.
use Rattle.std.proofs.Common.{◌≤◌, ◌+◌, ℕ, Bool, true, arith, refl}
use Rattle.bridge_cycle.specs.Fits.{IsFirstFit}
use Rattle.bridge_groups.specs.ApartGates.{AreListsApart}
use Rattle.bridge_groups.specs.CurveExamples.{both_gates, later_openings, short_openings}
use Rattle.bridge_groups.specs.Work.{IsDelayBound, IsNthFit, IsSufficientCost, IsSufficientRoom}
use Rattle.bridge_groups.proofs.Candidates.{always_in_burst}

abbrev always : ℕ → Bool
always u = true

first_fit : (u : ℕ) → IsFirstFit always 672 u u
first_fit u = record { after = omega arith; fits = λ v p q. refl; least = λ v p q. absurd (omega (arith, p, q)) }

-- Fit number 2 at 10 ns or later is 12 ns.
pub third_fit : IsNthFit always 672 2 10 12
third_fit = (11, (10, first_fit 10, first_fit 11), first_fit 12)

-- Two frames of 672 ns that arrive at once leave within 1,344 ns.
pub bound_of_two_frames : IsDelayBound always 672 672 (λ w. 1344) 1344
bound_of_two_frames = always_in_burst always 672 672 (λ w. 1344) (λ u. refl) (λ w. omega arith) (omega arith)

-- A bound of 1,343 ns is too small: fit 672 comes at 672 ns, so the second frame ends at 1,344 ns.
pub one_ns_is_missing : (v : ℕ) → IsNthFit always 672 0 672 v → v + 672 ≤ 1343 → ⊥
one_ns_is_missing v is early = let after = is.after in omega (arith, after, early)

-- A queue of 2 frames is enough for them.
pub room_for_two_frames : IsSufficientRoom always 672 672 (λ w. 1344) (λ w. 2) 2
room_for_two_frames = record { has_fit = λ u. (u, first_fit u); has_place = omega arith; drains = λ u w enough count. absurd (omega (arith, count)) }

-- If the longest frames are counted, the transmission time is a sufficient cost.
pub cost_of_a_frame : IsSufficientCost always 672 672 672 672
cost_of_a_frame = record { least_time = omega arith; covers_time = omega arith; fits_soon = λ v z is. let after = is.after in (z, after, omega arith, (λ u p q. refl)) }

-- Two stream gates that are both open at 3 ns aren't apart in time.
pub not_apart : AreListsApart both_gates 1 → ⊥
not_apart apart = let late = apart 0 1 3 3 short_openings later_openings refl refl (λ e. absurd (omega (arith, e))) refl refl (omega arith) in omega (arith, late)
