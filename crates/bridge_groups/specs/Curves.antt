-- Arrival curves of the frames that the filters of a group offer to a queue.
use Rattle.std.specs.Prelude.{◌≡◌, ℕ, Bool, true, false, ◌+◌, ◌*◌, ◌/◌, ◌≤◌, ◌&&◌, nat_eq, nat_le, List, [], ◌∷◌, Option, Some, None, if◌then◌else◌}
use Rattle.bridge_limits.specs.Members.{IsMember}
use Rattle.bridge_frame.specs.declared.Speed.{Speed}
use Rattle.bridge_frame.specs.Link.{transmission_time}
use Rattle.bridge_meter.specs.declared.MeterPlan.{MeterPlan}
use Rattle.bridge_meter.specs.Colours.{octet_units}
use Rattle.bridge_filter.specs.declared.FilterPlan.{FilterPlan}
use Rattle.bridge_config.specs.Model.{Plan}
use Rattle.bridge_check.specs.Reach.{reaches_queue}
use Rattle.bridge_semantics.specs.Events.{Arrived, Cleared, Event, metered_octets, plan_police}
use Rattle.bridge_config.specs.declared.ports.PortPlan.{PortPlan}
use Rattle.bridge_semantics.specs.Groups.{IsGroupMember}
use Rattle.bridge_semantics.specs.Offers.{Offer, class_offers, port_offers}
use Rattle.bridge_groups.specs.MeterAllowance.{meter_burst, meter_rate}

-- The burst in octets that an optional flow meter passes; 0 without a meter.
abbrev pub optional_burst : (ℕ → MeterPlan) → Option ℕ → ℕ
optional_burst meters None = 0
optional_burst meters (Some m) = meter_burst (meters m)

-- The rate in bit/s that an optional flow meter passes; 0 without a meter.
abbrev pub optional_rate : (ℕ → MeterPlan) → Option ℕ → ℕ
optional_rate meters None = 0
optional_rate meters (Some m) = meter_rate (meters m)

-- The sum in octets of the bursts of the meters of the filters that share a queue.
abbrev pub burst_sum : (ℕ → MeterPlan) → List (ℕ × FilterPlan) → ℕ
burst_sum meters [] = 0
burst_sum meters (g ∷ gs) = optional_burst meters g.1.meter + burst_sum meters gs

-- The sum in bit/s of the rates of the meters of the filters that share a queue.
abbrev pub rate_sum : (ℕ → MeterPlan) → List (ℕ × FilterPlan) → ℕ
rate_sum meters [] = 0
rate_sum meters (g ∷ gs) = optional_rate meters g.1.meter + rate_sum meters gs

-- The most transmission time in ns of the frames that the filters' meters pass in `w` ns. The shortest frames take
-- most: 84 octets on the link for 64 metered ones.
abbrev pub sharers_curve : {A : Type 0} → Plan A → List (ℕ × FilterPlan) → Speed → ℕ → ℕ
sharers_curve p sharers speed w = transmission_time 60 speed * (burst_sum (plan_police p).meters sharers * octet_units + rate_sum (plan_police p).meters sharers * w) / (64 * octet_units)

-- The most frames that the meters of the filters pass in `w` ns. Each frame has at least 64 metered octets.
abbrev pub frame_limit : (ℕ → MeterPlan) → List (ℕ × FilterPlan) → ℕ → ℕ
frame_limit meters [] w = 0
frame_limit meters (g ∷ gs) w = (optional_burst meters g.1.meter * octet_units + optional_rate meters g.1.meter * w) / (64 * octet_units) + frame_limit meters gs w

-- The most frames that the meters of the filters `sharers` in plan `p` pass in `w` ns.
abbrev pub sharers_frame_limit : {A : Type 0} → Plan A → List (ℕ × FilterPlan) → ℕ → ℕ
sharers_frame_limit p sharers w = frame_limit (plan_police p).meters sharers w

-- Holds if `sharers` has all filters of the group that can reach the queue of class `c` at port `q`, and only members.
-- Each limits its SDUs to at most `sdu` octets.
pub record AreSharers {A : Type 0} (p : Plan A) (group q c sdu : ℕ) (sharers : List (ℕ × FilterPlan)) : Type 0 where
  pub all : (n : ℕ) (f : FilterPlan) → IsGroupMember p group n f → reaches_queue p f q c ≡ true → IsMember (n, f) sharers
  pub members : (n : ℕ) (f : FilterPlan) → IsMember (n, f) sharers → IsGroupMember p group n f
  pub short : (n : ℕ) (f : FilterPlan) → IsMember (n, f) sharers → (m : ℕ) × (f.max_sdu ≡ Some m) × (m ≤ sdu)

-- Holds if each filter that shares the queue has a flow meter.
abbrev pub HaveMeters : List (ℕ × FilterPlan) → Type 0
HaveMeters sharers = (n : ℕ) (f : FilterPlan) → IsMember (n, f) sharers → (m : ℕ) × (f.meter ≡ Some m)

-- The time in ns of the newest frame; 0 if no frame arrived.
abbrev pub last_arrival_time : List Event → ℕ
last_arrival_time [] = 0
last_arrival_time (Arrived a ∷ es) = a.at
last_arrival_time (Cleared clear n ∷ es) = last_arrival_time es

-- Holds if no frame arrived earlier than an older one. Events are newest first. The laws of delay bounds require this.
abbrev pub AreArrivalsInOrder : List Event → Type 0
AreArrivalsInOrder [] = Unit {0}
AreArrivalsInOrder (Arrived a ∷ es) = (last_arrival_time es ≤ a.at) × AreArrivalsInOrder es
AreArrivalsInOrder (Cleared clear n ∷ es) = AreArrivalsInOrder es

-- True if the filter number of a copy is present and equals `n`. Unfiltered copies have no number.
abbrev pub has_filter_number : Option ℕ → ℕ → Bool
has_filter_number None n = false
has_filter_number (Some k) n = nat_eq k n

-- The metered octets of the copies that filter `n` offered at time `u` or later.
abbrev pub recent_filter_octets : ℕ → ℕ → List Offer → ℕ
recent_filter_octets n u [] = 0
recent_filter_octets n u (o ∷ os) = (if has_filter_number o.item.flow n && nat_le u o.at then metered_octets o.item.len else 0) + recent_filter_octets n u os

-- The metered octets of the copies that the filters offered at time `u` or later.
abbrev pub recent_sharer_octets : List (ℕ × FilterPlan) → ℕ → List Offer → ℕ
recent_sharer_octets [] u os = 0
recent_sharer_octets (g ∷ gs) u os = recent_filter_octets g.0 u os + recent_sharer_octets gs u os

-- The total transmission time in ns of the copies that were offered at time `u` or later.
abbrev pub recent_offer_work : Speed → ℕ → List Offer → ℕ
recent_offer_work speed u [] = 0
recent_offer_work speed u (o ∷ os) = (if nat_le u o.at then transmission_time o.item.len speed else 0) + recent_offer_work speed u os

-- The number of copies that filter `n` offered at time `u` or later.
abbrev pub count_filter_offers : ℕ → ℕ → List Offer → ℕ
count_filter_offers n u [] = 0
count_filter_offers n u (o ∷ os) = (if has_filter_number o.item.flow n && nat_le u o.at then 1 else 0) + count_filter_offers n u os

-- The number of copies that the filters offered at time `u` or later.
abbrev pub count_sharer_offers : List (ℕ × FilterPlan) → ℕ → List Offer → ℕ
count_sharer_offers [] u os = 0
count_sharer_offers (g ∷ gs) u os = count_filter_offers g.0 u os + count_sharer_offers gs u os

-- The number of copies that were offered at time `u` or later.
abbrev pub count_recent_offers : ℕ → List Offer → ℕ
count_recent_offers u [] = 0
count_recent_offers u (o ∷ os) = (if nat_le u o.at then 1 else 0) + count_recent_offers u os

-- The total transmission time in ns of the copies that filter `n` offered at time `u` or later.
abbrev pub recent_filter_work : Speed → ℕ → ℕ → List Offer → ℕ
recent_filter_work speed n u [] = 0
recent_filter_work speed n u (o ∷ os) = (if has_filter_number o.item.flow n && nat_le u o.at then transmission_time o.item.len speed else 0) + recent_filter_work speed n u os

-- The total transmission time in ns of the copies that the filters offered at time `u` or later.
abbrev pub recent_sharer_work : Speed → List (ℕ × FilterPlan) → ℕ → List Offer → ℕ
recent_sharer_work speed [] u os = 0
recent_sharer_work speed (g ∷ gs) u os = recent_filter_work speed g.0 u os + recent_sharer_work speed gs u os

-- The sum of the filters' arrival curves. The function `own` gives each filter number its curve.
abbrev pub curve_sum : (ℕ → ℕ → ℕ) → List (ℕ × FilterPlan) → ℕ → ℕ
curve_sum own [] w = 0
curve_sum own (g ∷ gs) w = own g.0 w + curve_sum own gs w

-- Holds if each received frame among the events has at least 60 octets.
abbrev pub HasNoRunts : List Event → Type 0
HasNoRunts [] = Unit {0}
HasNoRunts (Arrived a ∷ es) = (60 ≤ a.len) × HasNoRunts es
HasNoRunts (Cleared clear n ∷ es) = HasNoRunts es

-- Holds if `own` is an arrival curve of the copies that filter `n` offers to class `c` of port `out`. This concerns only events whose
-- frames are in order and have at least 60 octets.
abbrev pub HasFilterCurve : {A : Type 0} → Plan A → PortPlan A → ℕ → ℕ → (ℕ → ℕ) → Type 0
HasFilterCurve p out c n own = (u w : ℕ) (es : List Event) → AreArrivalsInOrder es → HasNoRunts es → last_arrival_time es ≤ u + w → recent_filter_work out.speed n u (class_offers c (port_offers p out es)) ≤ own w

-- The arrival curve in ns of one flow meter: the most transmission time of the frames that it passes in `w` ns.
abbrev pub meter_curve : MeterPlan → Speed → ℕ → ℕ
meter_curve m speed w = transmission_time 60 speed * (meter_burst m * octet_units + meter_rate m * w) / (64 * octet_units)

-- The most transmission time in ns of frames that a stream gate passes in `w` ns, if their SDUs have at most `octets w`
-- octets. The shortest SDU has 44 octets.
abbrev pub gate_curve : (ℕ → ℕ) → Speed → ℕ → ℕ
gate_curve octets speed w = transmission_time 60 speed * octets w / 44
