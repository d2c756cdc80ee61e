-- Costs of frames by their metered octets, and the cost curves of several filters.
use Rattle.std.proofs.Common.{◌≡◌, ◌<◌, ◌≤◌, ◌+◌, ◌-◌, ◌*◌, ◌/◌, ℕ, List, [], ◌∷◌, Option, Some, None, arith, ap, refl, sym, subst, inl, inr}
use Rattle.std.specs.Prelude.{nat_eq}
use Rattle.std.specs.Map.{lookup}
use Rattle.std.specs.Int.{div_ceil}
use Rattle.std.proofs.Math.Nat.{div-mul-le_self, le-div_iff_mul-le, mul-le-mul_left}
use Rattle.std.proofs.lemmas.Bool.{cases_lt}
use Rattle.std.proofs.lemmas.Grind.{div_ceil_times}
use Rattle.bridge_limits.specs.Members.{IsMember}
use Rattle.bridge_frame.specs.declared.Speed.{Speed}
use Rattle.bridge_frame.specs.declared.Speed.TheVariants.{Mbps10, Mbps100, Mbps1000, Mbps2500, Mbps10000}
use Rattle.bridge_frame.specs.Link.{transmission_time}
use Rattle.bridge_meter.specs.Colours.{octet_units}
use Rattle.bridge_filter.specs.declared.FilterPlan.{FilterPlan}
use Rattle.bridge_config.specs.declared.ports.PortPlan.{PortPlan}
use Rattle.bridge_config.specs.Model.{Plan}
use Rattle.bridge_config.specs.Rules.{IsPlan}
use Rattle.bridge_check.specs.Windows.{longest_frame}
use Rattle.bridge_semantics.specs.Events.{metered_octets, plan_police}
use Rattle.bridge_groups.specs.Costs.{HasFilterCostCurve, frame_cost}
use Rattle.bridge_groups.specs.CostCurves.{cost_sum, filter_cost_curve, octet_cost, rounding_margin, sharers_cost_curve}
use Rattle.bridge_groups.specs.Curves.{curve_sum, optional_burst, optional_rate}
use Rattle.bridge_groups.specs.Sharers.{sdu_or_zero}
use Rattle.bridge_groups.proofs.Costs.{by_meter_at}
use Rattle.bridge_groups.proofs.Sums.{short_most}

more_times : (a b c : ℕ) → a ≤ b → a * c ≤ b * c
more_times a b c h = let scaled = mul-le-mul_left c h in omega (arith, scaled)

-- COSTS OF AN OCTET

-- A frame of `m` metered octets costs at most as much per octet as one of `m + d`: `a` ns an octet and at most `e` ns by rounding.
core : (a e g n m d t long f : ℕ) → t ≤ a * (m + 20) + e → a * ((m + d) + 20) ≤ long → 2 * e ≤ g → 84 * a ≤ f → e ≤ 20 * a → 128 * ((2 * long + g) - f) ≤ n * (m + d) → 128 * (2 * t - f) ≤ n * m
core a e g n m d t long f upper lower margin some small cost = elim (cases_lt n (256 * a)) [
  | inl l ↦ let few = more_times n (256 * a) d (omega (arith, l)) in omega (arith, upper, lower, margin, cost, few)
  | inr l ↦ let many = more_times (256 * a) n m l in omega (arith, upper, some, small, many)
]

-- A frame that needs more time than a shortest frame has more than 60 octets.
longer : (speed : Speed) (len : ℕ) → transmission_time 60 speed < transmission_time len speed → 60 < len
unfolding transmission_time
longer Mbps10 len h = omega (arith, h)
longer Mbps100 len h = omega (arith, h)
longer Mbps1000 len h = omega (arith, h)
longer Mbps2500 len h = omega (arith, h)
longer Mbps10000 len h = omega (arith, h)

-- If the cost per octet covers the longest frame, it covers each shorter one.
long_most : (speed : Speed) (len d fit num : ℕ) → 60 ≤ len → transmission_time 60 speed ≤ fit → 128 * ((2 * transmission_time (len + d) speed + rounding_margin speed) - fit) ≤ num * ((len + 4) + d) → 128 * (2 * transmission_time len speed - fit) ≤ num * (len + 4)
unfolding transmission_time
long_most Mbps10 len d fit num some low cost = core 800 0 0 num (len + 4) d (transmission_time len Mbps10) (transmission_time (len + d) Mbps10) fit (omega (arith, some)) (omega (arith, some)) (omega arith) (omega (arith, low)) (omega arith) cost
long_most Mbps100 len d fit num some low cost = core 80 0 0 num (len + 4) d (transmission_time len Mbps100) (transmission_time (len + d) Mbps100) fit (omega (arith, some)) (omega (arith, some)) (omega arith) (omega (arith, low)) (omega arith) cost
long_most Mbps1000 len d fit num some low cost = core 8 0 0 num (len + 4) d (transmission_time len Mbps1000) (transmission_time (len + d) Mbps1000) fit (omega (arith, some)) (omega (arith, some)) (omega arith) (omega (arith, low)) (omega arith) cost
long_most Mbps2500 len d fit num some low cost = let five = core 16 4 10 (5 * num) (len + 4) d (5 * transmission_time len Mbps2500) (5 * transmission_time (len + d) Mbps2500) (5 * fit) (omega (arith, some)) (omega (arith, some)) (omega arith) (omega (arith, low)) (omega arith) (omega (arith, cost)) in omega (arith, five)
long_most Mbps10000 len d fit num some low cost = let five = core 4 4 10 (5 * num) (len + 4) d (5 * transmission_time len Mbps10000) (5 * transmission_time (len + d) Mbps10000) (5 * fit) (omega (arith, some)) (omega (arith, some)) (omega arith) (omega (arith, low)) (omega arith) (omega (arith, cost)) in omega (arith, five)

-- The greatest cost of an octet covers each frame of the filter.
pub octet_cost_suffices : (fit : ℕ) (speed : Speed) (sdu len : ℕ) → transmission_time 60 speed ≤ fit → len ≤ longest_frame sdu → 128 * frame_cost fit speed len ≤ octet_cost fit speed sdu * metered_octets len
octet_cost_suffices fit speed sdu len low short = elim (cases_lt fit (transmission_time len speed)) [
  | inl l ↦
      let some = longer speed len (omega (arith, l, low)) in
      let d : ℕ = longest_frame sdu - len in
      let whole : longest_frame sdu ≡ len + d = omega (arith, short) in
      let octets : metered_octets (longest_frame sdu) ≡ (len + 4) + d = omega (arith, short, some) in
      let time : ℕ = 128 * ((2 * transmission_time (longest_frame sdu) speed + rounding_margin speed) - fit) in
      let ceiling = (div_ceil_times time (metered_octets (longest_frame sdu)) (omega arith)).0 in
      let most : div_ceil time (metered_octets (longest_frame sdu)) * metered_octets (longest_frame sdu) ≤ octet_cost fit speed sdu * metered_octets (longest_frame sdu) = more_times (div_ceil time (metered_octets (longest_frame sdu))) (octet_cost fit speed sdu) (metered_octets (longest_frame sdu)) (omega arith) in
      let covers : time ≤ octet_cost fit speed sdu * metered_octets (longest_frame sdu) = omega (arith, ceiling, most) in
      let one : time ≤ octet_cost fit speed sdu * ((len + 4) + d) = subst (λ (n : ℕ). time ≤ octet_cost fit speed sdu * n) octets covers in
      let two : 128 * ((2 * transmission_time (len + d) speed + rounding_margin speed) - fit) ≤ octet_cost fit speed sdu * ((len + 4) + d) = subst (λ (n : ℕ). 128 * ((2 * transmission_time n speed + rounding_margin speed) - fit) ≤ octet_cost fit speed sdu * ((len + 4) + d)) whole one in
      let own = long_most speed len d fit (octet_cost fit speed sdu) (omega (arith, some)) low two in
      let same : len + 4 ≡ metered_octets len = omega (arith, some) in
      let all : 128 * (2 * transmission_time len speed - fit) ≤ octet_cost fit speed sdu * metered_octets len = subst (λ (n : ℕ). 128 * (2 * transmission_time len speed - fit) ≤ octet_cost fit speed sdu * n) same own in
      omega (arith, all, l)
  | inr l ↦
      let one = short_most len speed in
      let most = more_times (2 * transmission_time 60 speed) (octet_cost fit speed sdu) (metered_octets len) (omega arith) in
      omega (arith, l, one, most)
]

-- A shortest frame needs some time.
pub shortest_some : (speed : Speed) → 1 ≤ transmission_time 60 speed
unfolding transmission_time
shortest_some Mbps10 = omega arith
shortest_some Mbps100 = omega arith
shortest_some Mbps1000 = omega arith
shortest_some Mbps2500 = omega arith
shortest_some Mbps10000 = omega arith

-- A shortest frame needs at most 67,200 ns.
shortest_few : (speed : Speed) → (transmission_time 60 speed ≤ 67200) × (rounding_margin speed ≤ 2)
unfolding transmission_time
shortest_few Mbps10 = (omega arith, omega arith)
shortest_few Mbps100 = (omega arith, omega arith)
shortest_few Mbps1000 = (omega arith, omega arith)
shortest_few Mbps2500 = (omega arith, omega arith)
shortest_few Mbps10000 = (omega arith, omega arith)

-- An octet costs at most 300,000 128ths of a ns.
pub octet_cost_few : (fit : ℕ) (speed : Speed) (sdu : ℕ) → octet_cost fit speed sdu ≤ 300000
octet_cost_few fit speed sdu =
    let (few, margin) = shortest_few speed in
    let long : ℕ = longest_frame sdu in
    let octets : ℕ = metered_octets long in
    let time : ℕ = 128 * ((2 * transmission_time long speed + rounding_margin speed) - fit) in
    let most = short_most long speed in
    let times = more_times (transmission_time 60 speed) 67200 octets few in
    let ceiling = (div_ceil_times time octets (omega arith)).1 in
    let quotient : ℕ = div_ceil time octets in
    let below : quotient * octets < 268806 * octets = omega (arith, most, times, ceiling, margin) in
    let small : quotient ≤ 268806 = elim (cases_lt 268806 quotient) [
      | inl l ↦ absurd (let more = more_times 268806 quotient octets (omega (arith, l)) in omega (arith, more, below))
      | inr l ↦ l
    ] in
    omega (arith, few, small)

-- SUMS

-- A product of two limited numbers.
pub product_few : (a b c d : ℕ) → a ≤ c → b ≤ d → a * b ≤ c * d
product_few a b c d h k =
    let one = more_times a c b h in
    let two = mul-le-mul_left c k in
    omega (arith, one, two)

-- The cost curves rounded down together are at most the costs of all octets.
pub costs_cover : {A : Type 0} (p : Plan A) (fit : ℕ) (speed : Speed) (gs : List (ℕ × FilterPlan)) (w : ℕ) → sharers_cost_curve p fit speed gs w * (128 * octet_units) ≤ cost_sum (λ (f : FilterPlan). optional_burst (plan_police p).meters f.meter) fit speed gs * octet_units + cost_sum (λ (f : FilterPlan). optional_rate (plan_police p).meters f.meter) fit speed gs * w
costs_cover p fit speed [] w = omega arith
costs_cover p fit speed (g ∷ gs) w =
    let rest = costs_cover p fit speed gs w in
    let own = div-mul-le_self (octet_cost fit speed (sdu_or_zero g.1.max_sdu) * (optional_burst (plan_police p).meters g.1.meter * octet_units + optional_rate (plan_police p).meters g.1.meter * w)) (128 * octet_units) in
    omega (arith, rest, own)

-- A quotient that covers a product.
pub covered_by : (x most unit : ℕ) → 0 < unit → x * unit ≤ most → x ≤ most / unit
covered_by x most unit some h = (le-div_iff_mul-le some).1 h

-- CURVES BY NUMBER

module _ {A : Type 0} (p : Plan A) (fit : ℕ) (speed : Speed) where
  abbrev by_options : Option ℕ → Option ℕ → ℕ → ℕ
  by_options limit meter w = octet_cost fit speed (sdu_or_zero limit) * (optional_burst (plan_police p).meters meter * octet_units + optional_rate (plan_police p).meters meter * w) / (128 * octet_units)

  abbrev found_curve : Option FilterPlan → ℕ → ℕ
  found_curve None w = 0
  found_curve (Some f) w = filter_cost_curve p fit speed f w

  -- The cost curve of the filter with number `n`.
  abbrev pub number_curve : ℕ → ℕ → ℕ
  number_curve n = found_curve (lookup (nat_eq n) p.filters)

  -- A filter of the plan has its cost curve.
  pub number_curve_is : (n : ℕ) (f : FilterPlan) (w : ℕ) → lookup (nat_eq n) p.filters ≡ Some f → number_curve n w ≡ filter_cost_curve p fit speed f w
  number_curve_is n f w found = ap (λ (o : Option FilterPlan). found_curve o w) found

  -- The sum of the curves by number is the sum of the filters' cost curves.
  pub sum_by_number : (gs : List (ℕ × FilterPlan)) (w : ℕ) → ((n : ℕ) (f : FilterPlan) → IsMember (n, f) gs → lookup (nat_eq n) p.filters ≡ Some f) → sharers_cost_curve p fit speed gs w ≡ curve_sum number_curve gs w
  sum_by_number [] w found = refl
  sum_by_number (g ∷ gs) w found =
      let own = number_curve_is g.0 g.1 w (found g.0 g.1 (inl refl)) in
      let rest = sum_by_number gs w (λ n f i. found n f (inr i)) in
      omega (arith, own, rest)

  -- The copies of a filter with a meter have its cost curve.
  pub filter_costs : (out : PortPlan A) (c n m sdu : ℕ) (f : FilterPlan) → IsPlan p → IsMember (n, f) p.filters → f.meter ≡ Some m → f.max_sdu ≡ Some sdu → lookup (nat_eq n) p.filters ≡ Some f → out.speed ≡ speed → transmission_time 60 speed ≤ fit → HasFilterCostCurve p out c n (frame_cost fit out.speed) (number_curve n)
  filter_costs out c n m sdu f plan listed own size found same low =
      let ratio : (len : ℕ) → len ≤ longest_frame sdu → 128 * frame_cost fit out.speed len ≤ octet_cost fit speed sdu * metered_octets len = λ len short. subst (λ (s : Speed). 128 * frame_cost fit s len ≤ octet_cost fit speed sdu * metered_octets len) (sym same) (octet_cost_suffices fit speed sdu len low short) in
      let one = by_meter_at p out c n m sdu (octet_cost fit speed sdu) 128 f (frame_cost fit out.speed) plan listed own size (omega arith) ratio in
      let two = subst (λ (o : Option ℕ). HasFilterCostCurve p out c n (frame_cost fit out.speed) (by_options (Some sdu) o)) (sym own) one in
      let three = subst (λ (o : Option ℕ). HasFilterCostCurve p out c n (frame_cost fit out.speed) (by_options o f.meter)) (sym size) two in
      subst (λ (o : Option FilterPlan). HasFilterCostCurve p out c n (frame_cost fit out.speed) (found_curve o)) (sym found) three
