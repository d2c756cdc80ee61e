-- Costs of frames for bounds that count fits of short frames.
use Rattle.std.specs.Prelude.{ℕ, ◌+◌, ◌-◌, ◌≤◌, ◌&&◌, nat_le, List, [], ◌∷◌, if◌then◌else◌}
use Rattle.bridge_frame.specs.declared.Speed.{Speed}
use Rattle.bridge_frame.specs.Link.{transmission_time}
use Rattle.bridge_filter.specs.declared.FilterPlan.{FilterPlan}
use Rattle.bridge_config.specs.declared.ports.PortPlan.{PortPlan}
use Rattle.bridge_config.specs.Model.{Plan}
use Rattle.bridge_semantics.specs.Events.{Event}
use Rattle.bridge_semantics.specs.Offers.{Offer, class_offers, port_offers}
use Rattle.bridge_groups.specs.Curves.{AreArrivalsInOrder, has_filter_number, last_arrival_time}

-- The cost in ns of a frame of `len` octets: its transmission time, plus the part of this time above `fit` ns. Bounds
-- count fits of transmissions that take `fit` ns.
abbrev pub frame_cost : ℕ → Speed → ℕ → ℕ
frame_cost fit speed len = transmission_time len speed + (transmission_time len speed - fit)

-- The total cost in ns of the copies that were offered at time `u` or later. `cost` is the cost in ns of a frame with a given number of
-- octets.
abbrev pub recent_offer_cost : (ℕ → ℕ) → ℕ → List Offer → ℕ
recent_offer_cost cost u [] = 0
recent_offer_cost cost u (o ∷ os) = (if nat_le u o.at then cost o.item.len else 0) + recent_offer_cost cost u os

-- The total cost in ns of the copies that filter `n` offered at time `u` or later. `cost` is the cost in ns of a frame with a given number
-- of octets.
abbrev pub recent_filter_cost : (ℕ → ℕ) → ℕ → ℕ → List Offer → ℕ
recent_filter_cost cost n u [] = 0
recent_filter_cost cost n u (o ∷ os) = (if has_filter_number o.item.flow n && nat_le u o.at then cost o.item.len else 0) + recent_filter_cost cost n u os

-- The total cost in ns of the copies that the filters of the list offered at time `u` or later.
abbrev pub recent_sharer_cost : (ℕ → ℕ) → List (ℕ × FilterPlan) → ℕ → List Offer → ℕ
recent_sharer_cost cost [] u os = 0
recent_sharer_cost cost (g ∷ gs) u os = recent_filter_cost cost g.0 u os + recent_sharer_cost cost gs u os

-- Holds if the copies that filter `n` offers to class `c` of port `out` in any `w` ns cost at most `own w` ns. This concerns only events
-- whose frames are in order.
abbrev pub HasFilterCostCurve : {A : Type 0} → Plan A → PortPlan A → ℕ → ℕ → (ℕ → ℕ) → (ℕ → ℕ) → Type 0
HasFilterCostCurve p out c n cost own = (u w : ℕ) (es : List Event) → AreArrivalsInOrder es → last_arrival_time es ≤ u + w → recent_filter_cost cost n u (class_offers c (port_offers p out es)) ≤ own w
