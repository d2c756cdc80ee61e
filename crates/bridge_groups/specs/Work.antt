-- Transmission times of the frames that arrive at a queue, and delay bounds and queue capacities for them.
use Rattle.std.specs.Prelude.{◌≡◌, ℕ, zero, suc, Bool, ◌+◌, ◌-◌, ◌*◌, ◌<◌, ◌≤◌, nat_le, List, [], ◌∷◌, if◌then◌else◌}
use Rattle.bridge_limits.specs.Members.{IsMember}
use Rattle.bridge_cycle.specs.Fits.{Fits, IsFirstFit}
use Rattle.bridge_port.specs.Schedule.{Copy, PortRules}

-- Holds if `v` is fit number `n`, counted from 0, at time `u` or later. A fit is a time at which a transmission of `occ`
-- ns fits the open times `opens`.
abbrev pub IsNthFit : (ℕ → Bool) → ℕ → ℕ → ℕ → ℕ → Type 0
IsNthFit opens occ zero u v = IsFirstFit opens occ u v
IsNthFit opens occ (suc n) u v = (w : ℕ) × IsNthFit opens occ n u w × IsFirstFit opens occ (w + 1) v

-- Holds if all copies are of class `c` and have transmission times of `least` to `occ` ns.
abbrev pub HaveBoundedTimes : {X : Type 0} → PortRules X → ℕ → ℕ → ℕ → List (Copy X) → Type 0
HaveBoundedTimes r c least occ xs = (y : Copy _) → IsMember y xs → (y.class ≡ c) × (least ≤ r.occ y.item) × (r.occ y.item ≤ occ)

-- Holds if a bound that counts fits of `occ` ns may count `cost` ns for a frame of `on` ns. From any time until fit number `cost - on`
-- after it, the frame fits.
pub record IsSufficientCost (opens : ℕ → Bool) (occ least on cost : ℕ) : Type 0 where
  pub least_time : least ≤ on
  pub covers_time : on ≤ cost
  pub fits_soon : (v z : ℕ) → IsNthFit opens occ (cost - on) v z → (m : ℕ) × (v ≤ m) × (m ≤ z) × Fits opens on m

-- Lists of copies are newest first.
module _ {X : Type 0} where
  -- Holds if all copies are of class `c` and `cost` gives each copy a sufficient cost.
  abbrev pub HaveSufficientCosts : PortRules X → (X → ℕ) → ℕ → ℕ → ℕ → List (Copy X) → Type 0
  HaveSufficientCosts r cost c least occ xs = (y : Copy X) → IsMember y xs → (y.class ≡ c) × IsSufficientCost (r.opens c) occ least (r.occ y.item) (cost y.item)

  -- The total cost in ns of the copies that were offered at time `u` or later. `cost` gives the cost of an item.
  abbrev pub recent_cost : (X → ℕ) → ℕ → List (Copy X) → ℕ
  recent_cost cost u [] = 0
  recent_cost cost u (x ∷ xs) = (if nat_le u x.at then cost x.item else 0) + recent_cost cost u xs

  -- Holds if the copies offered in any `w` ns up to an offer cost at most `curve w`. The function `curve` is called an
  -- arrival curve.
  abbrev pub HasCostCurve : (X → ℕ) → (ℕ → ℕ) → List (Copy X) → Type 0
  HasCostCurve cost curve [] = Unit {0}
  HasCostCurve cost curve (x ∷ xs) = ((u w : ℕ) → x.at ≡ u + w → recent_cost cost u (x ∷ xs) ≤ curve w) × HasCostCurve cost curve xs

  -- The total transmission time in ns of the copies that were offered at time `u` or later.
  abbrev pub recent_work : PortRules X → ℕ → List (Copy X) → ℕ
  recent_work r = recent_cost r.occ

  -- Holds if the copies offered in any `w` ns up to an offer have transmission times of at most `curve w` ns together.
  abbrev pub HasWorkCurve : PortRules X → (ℕ → ℕ) → List (Copy X) → Type 0
  HasWorkCurve r = HasCostCurve r.occ

-- Numbers of copies.
module _ {X : Type 0} where
  -- The number of copies that were offered at time `u` or later.
  abbrev pub count_recent_copies : ℕ → List (Copy X) → ℕ
  count_recent_copies u [] = 0
  count_recent_copies u (x ∷ xs) = (if nat_le u x.at then 1 else 0) + count_recent_copies u xs

  -- Holds if at most `many w` copies are offered in any `w` ns up to an offer.
  abbrev pub HasCountCurve : (ℕ → ℕ) → List (Copy X) → Type 0
  HasCountCurve many [] = Unit {0}
  HasCountCurve many (x ∷ xs) = ((u w : ℕ) → x.at ≡ u + w → count_recent_copies u (x ∷ xs) ≤ many w) × HasCountCurve many xs

-- Holds if `b` ns is the delay bound of frames that arrive in the `w` ns from time `u`. With work of `curve w` ns, the newest frame starts
-- by fit `curve w - least`.
abbrev pub IsSpanBound : (ℕ → Bool) → ℕ → ℕ → (ℕ → ℕ) → ℕ → ℕ → ℕ → Type 0
IsSpanBound opens occ least curve b u w = (v : ℕ) × IsNthFit opens occ (curve w - least) u v × (v + least ≤ u + w + b)

-- Holds if `b` ns is a delay bound for frames with arrival curve `curve` and transmission times of `least` to `occ` ns. `b` bounds the
-- delays in every span.
pub record IsDelayBound (opens : ℕ → Bool) (occ least : ℕ) (curve : ℕ → ℕ) (b : ℕ) : Type 0 where
  pub has_fit : (u : ℕ) → (v : ℕ) × IsFirstFit opens occ u v
  pub in_time : (u w : ℕ) → least ≤ curve w → (v : ℕ) × IsNthFit opens occ (curve w - least) u v × (v + least ≤ u + w + b)

-- Sufficient condition that a queue of `room` frames never overflows. In any `w` ns at most `many w` frames arrive, with at most `curve w`
-- ns of transmission time. If `room` + 1 frames can arrive in a span, enough frames start before its end.
pub record IsSufficientRoom (opens : ℕ → Bool) (occ least : ℕ) (curve many : ℕ → ℕ) (room : ℕ) : Type 0 where
  pub has_fit : (u : ℕ) → (v : ℕ) × IsFirstFit opens occ u v
  pub has_place : 1 ≤ room
  pub drains : (u w : ℕ) → (room + 1) * least ≤ curve w → room + 1 ≤ many w → (v : ℕ) × IsNthFit opens occ (curve w - (room + 1) * least) u v × (v < u + w)

-- Holds if each cycle of `cycle` ns has `n` fits of `occ` ns. The fit with number `k` + `n` begins exactly one cycle after the fit with
-- number `k`.
abbrev pub HasFitsPerCycle : (ℕ → Bool) → ℕ → ℕ → ℕ → Type 0
HasFitsPerCycle opens occ cycle n = (k u v : ℕ) → IsNthFit opens occ k u v → IsNthFit opens occ (k + n) u (v + cycle)
