-- Arrival curves of metered filters: a burst and a rate.
use Rattle.std.specs.Prelude.{ℕ, ◌+◌, ◌*◌, ◌/◌, ◌^◌, ◌≤◌, List, [], ◌∷◌}
use Rattle.bridge_groups.specs.declared.linear_curve.LinearCurve.{LinearCurve}

-- The most work in ns that arrives in any `w` ns under curve `c`.
abbrev pub curve_at : LinearCurve → ℕ → ℕ
curve_at c w = (c.burst + c.rate * w) / c.unit

-- Holds if unit, burst and rate of the curve are in the ranges of a computation. The unit is 1 to 2^40, the burst at most 2^100, the rate
-- at most the unit.
pub record IsLinearCurve (c : LinearCurve) : Type 0 where
  pub unit_some : 1 ≤ c.unit
  pub unit_few : c.unit ≤ 2 ^ 40
  pub burst_few : c.burst ≤ 2 ^ 100
  pub rate_few : c.rate ≤ c.unit

-- The most frames that several metered filters pass in any `w` ns: the sum of the filters' curves.
abbrev pub count_at : List LinearCurve → ℕ → ℕ
count_at [] w = 0
count_at (c ∷ cs) w = curve_at c w + count_at cs w

-- Holds if a curve counts frames: it is straight, and at most 2^33 frames arrive at once.
pub record IsCountCurve (c : LinearCurve) : Type 0 where
  pub line : IsLinearCurve c
  pub burst : curve_at c 0 ≤ 2 ^ 33
