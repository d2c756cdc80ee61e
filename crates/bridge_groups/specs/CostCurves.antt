-- Cost curves of the filters that share a queue. Bounds by costs count fits of short frames, so a longer frame costs more.
use Rattle.std.specs.Prelude.{ℕ, Bool, ◌+◌, ◌-◌, ◌*◌, ◌/◌, ◌≤◌, max, List, [], ◌∷◌}
use Rattle.std.specs.Int.{div_ceil}
use Rattle.bridge_cycle.specs.Fits.{Fits}
use Rattle.bridge_frame.specs.declared.Speed.{Speed}
use Rattle.bridge_frame.specs.declared.Speed.TheVariants.{Mbps10, Mbps100, Mbps1000, Mbps2500, Mbps10000}
use Rattle.bridge_frame.specs.Link.{transmission_time}
use Rattle.bridge_meter.specs.Colours.{octet_units}
use Rattle.bridge_filter.specs.declared.FilterPlan.{FilterPlan}
use Rattle.bridge_config.specs.Model.{Plan}
use Rattle.bridge_check.specs.Windows.{longest_frame}
use Rattle.bridge_semantics.specs.Events.{metered_octets, plan_police}
use Rattle.bridge_groups.specs.declared.linear_curve.LinearCurve.{LinearCurve}
use Rattle.bridge_groups.specs.LinearCurves.{IsLinearCurve, curve_at}
use Rattle.bridge_groups.specs.Curves.{optional_burst, optional_rate}
use Rattle.bridge_groups.specs.Sharers.{sdu_or_zero}

-- Holds if each run of fits of `fit` ns starts with a fit of `long` ns. A fit is a time at which a transmission fits the open times
-- `opens`.
abbrev pub HasLongStarts : (ℕ → Bool) → ℕ → ℕ → Type 0
HasLongStarts opens fit long = (v : ℕ) → ¬ Fits opens fit v → Fits opens fit (v + 1) → Fits opens long (v + 1)

-- The margin in ns that covers the rounding of two transmission times. Only at 2.5 and 10 Gbit/s an octet takes no whole
-- number of ns.
abbrev pub rounding_margin : Speed → ℕ
rounding_margin Mbps10 = 0
rounding_margin Mbps100 = 0
rounding_margin Mbps1000 = 0
rounding_margin Mbps2500 = 2
rounding_margin Mbps10000 = 2

-- The greatest cost of a metered octet in 128ths of a ns, in the shortest frame or in the longest one, rounded up. SDUs
-- have at most `sdu` octets. Bounds count fits of `fit` ns.
abbrev pub octet_cost : ℕ → Speed → ℕ → ℕ
octet_cost fit speed sdu = max (2 * transmission_time 60 speed) (div_ceil (128 * ((2 * transmission_time (longest_frame sdu) speed + rounding_margin speed) - fit)) (metered_octets (longest_frame sdu)))

-- The cost curve in ns of filter `f`: a bound of the total cost of the frames that its meter passes in any `w` ns. Bounds count fits of
-- `fit` ns.
abbrev pub filter_cost_curve : {A : Type 0} → Plan A → ℕ → Speed → FilterPlan → ℕ → ℕ
filter_cost_curve p fit speed f w = octet_cost fit speed (sdu_or_zero f.max_sdu) * (optional_burst (plan_police p).meters f.meter * octet_units + optional_rate (plan_police p).meters f.meter * w) / (128 * octet_units)

-- The cost curve of a shared queue: the sum of its filters' cost curves.
abbrev pub sharers_cost_curve : {A : Type 0} → Plan A → ℕ → Speed → List (ℕ × FilterPlan) → ℕ → ℕ
sharers_cost_curve p fit speed [] w = 0
sharers_cost_curve p fit speed (g ∷ gs) w = filter_cost_curve p fit speed g.1 w + sharers_cost_curve p fit speed gs w

-- The cost in 128ths of a ns of the octets that the filters pass. The function `octets` gives the octets of a filter.
abbrev pub cost_sum : (FilterPlan → ℕ) → ℕ → Speed → List (ℕ × FilterPlan) → ℕ
cost_sum octets fit speed [] = 0
cost_sum octets fit speed (g ∷ gs) = octet_cost fit speed (sdu_or_zero g.1.max_sdu) * octets g.1 + cost_sum octets fit speed gs

-- Holds if curve `c` is straight, and at least the sum of the filters' cost curves.
pub record IsCostCurve {A : Type 0} (p : Plan A) (sharers : List (ℕ × FilterPlan)) (fit : ℕ) (speed : Speed) (c : LinearCurve) : Type 0 where
  pub line : IsLinearCurve c
  pub covers : (w : ℕ) → sharers_cost_curve p fit speed sharers w ≤ curve_at c w
