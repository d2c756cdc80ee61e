-- Sums of octets and transmission times of the offers to a queue.
use Rattle.std.proofs.Common.{◌≡◌, ◌<◌, ◌≤◌, ◌+◌, ◌*◌, ◌/◌, ℕ, true, List, [], ◌∷◌, Some, arith, ap, refl, inl, inr}
use Rattle.std.proofs.Math.Nat.{le-div_iff_mul-le, mul-le-mul_left}
use Rattle.std.proofs.lemmas.Bool.{eq-eqb}
use Rattle.std.specs.Prelude.{nat_le, ◌&&◌, if◌then◌else◌}
use Rattle.bridge_limits.specs.Members.{IsMember}
use Rattle.bridge_limits.proofs.Cases.{by_bool}
use Rattle.bridge_frame.specs.declared.Speed.{Speed}
use Rattle.bridge_frame.specs.declared.Speed.TheVariants.{Mbps10, Mbps100, Mbps1000, Mbps10000, Mbps2500}
use Rattle.bridge_frame.specs.Link.{transmission_time}
use Rattle.bridge_meter.specs.declared.MeterPlan.{MeterPlan}
use Rattle.bridge_meter.specs.Colours.{octet_units}
use Rattle.bridge_filter.specs.declared.FilterPlan.{FilterPlan}
use Rattle.bridge_port.specs.Schedule.{Copy}
use Rattle.bridge_config.specs.declared.ports.PortPlan.{PortPlan}
use Rattle.bridge_semantics.specs.Events.{metered_octets}
use Rattle.bridge_semantics.specs.Offers.{CarriedFrame, Offer, copy_offers, egress_rules}
use Rattle.bridge_groups.specs.Work.{HasCountCurve, HasWorkCurve, count_recent_copies, recent_work}
use Rattle.bridge_groups.specs.Curves.{burst_sum, count_sharer_offers, recent_sharer_octets, rate_sum, optional_burst, count_filter_offers, has_filter_number, frame_limit, recent_filter_octets, count_recent_offers, recent_offer_work, optional_rate}

-- Per metered octet, a frame of 60 octets takes most.
pub short_most : (len : ℕ) (speed : Speed) → 64 * transmission_time len speed ≤ transmission_time 60 speed * metered_octets len
unfolding transmission_time
short_most len Mbps10 = omega arith
short_most len Mbps100 = omega arith
short_most len Mbps1000 = omega arith
short_most len Mbps2500 = omega arith
short_most len Mbps10000 = omega arith

-- A frame of 60 octets has the least transmission time.
pub least_occupied : (len : ℕ) (speed : Speed) → transmission_time 60 speed ≤ transmission_time len speed
unfolding transmission_time
least_occupied len Mbps10 = omega arith
least_occupied len Mbps100 = omega arith
least_occupied len Mbps1000 = omega arith
least_occupied len Mbps2500 = omega arith
least_occupied len Mbps10000 = omega arith

-- A further offer doesn't lower the octets.
octets_more : (n u : ℕ) (o : Offer) (os : List Offer) → recent_filter_octets n u os ≤ recent_filter_octets n u (o ∷ os)
octets_more n u o os = omega arith

all_more : (sharers : List (ℕ × FilterPlan)) (u : ℕ) (o : Offer) (os : List Offer) → recent_sharer_octets sharers u os ≤ recent_sharer_octets sharers u (o ∷ os)
all_more [] u o os = omega arith
all_more (g ∷ gs) u o os =
    let own = octets_more g.0 u o os in
    let rest = all_more gs u o os in
    omega (arith, own, rest)

-- A further offer of a filter in the list adds its octets.
all_counts : (sharers : List (ℕ × FilterPlan)) (n : ℕ) (f : FilterPlan) (u : ℕ) (o : Offer) (os : List Offer) → IsMember (n, f) sharers → o.item.flow ≡ Some n → nat_le u o.at ≡ true → metered_octets o.item.len + recent_sharer_octets sharers u os ≤ recent_sharer_octets sharers u (o ∷ os)
all_counts [] n f u o os i flow late = absurd i
all_counts (g ∷ gs) n f u o os (inl same) flow late =
    let number : n ≡ g.0 = ap (λ (x : ℕ × FilterPlan). x.0) same in
    let own : has_filter_number o.item.flow g.0 ≡ true = rw flow (eq-eqb n g.0 number) in
    let rest = all_more gs u o os in
    rw (own, late) (omega (arith, rest))
all_counts (g ∷ gs) n f u o os (inr i) flow late =
    let own = octets_more g.0 u o os in
    let rest = all_counts gs n f u o os i flow late in
    omega (arith, own, rest)

-- Holds if each offer belongs to a filter in the list.
abbrev pub AreSharerOffers : List (ℕ × FilterPlan) → List Offer → Type 0
AreSharerOffers sharers os = (o : Offer) → IsMember o os → (n : ℕ) × (f : FilterPlan) × IsMember (n, f) sharers × (o.item.flow ≡ Some n)

-- The transmission times of offers, by their metered octets.
work_by_octets : (sharers : List (ℕ × FilterPlan)) (speed : Speed) (u : ℕ) (os : List Offer) → AreSharerOffers sharers os → 64 * recent_offer_work speed u os ≤ transmission_time 60 speed * recent_sharer_octets sharers u os
work_by_octets sharers speed u [] of = omega arith
work_by_octets sharers speed u (o ∷ os) of =
    let rest = work_by_octets sharers speed u os (λ x i. of x (inr i)) in
    by_bool (nat_le u o.at)
    (λ k.
    let (n, f, i, flow) = of o (inl refl) in
    let counts = all_counts sharers n f u o os i flow k in
    let one = short_most o.item.len speed in
    let more = mul-le-mul_left (transmission_time 60 speed) counts in
    rw k (omega (arith, rest, one, more)))
    (λ k.
    let more = mul-le-mul_left (transmission_time 60 speed) (all_more sharers u o os) in
    rw k (omega (arith, rest, more)))

-- The octets of several filters are at most the sum of their meters' allowances.
all_allowed : (meters : ℕ → MeterPlan) (sharers : List (ℕ × FilterPlan)) (u w : ℕ) (os : List Offer)
    → ((n : ℕ) (f : FilterPlan) → IsMember (n, f) sharers → recent_filter_octets n u os * octet_units ≤ optional_burst meters f.meter * octet_units + optional_rate meters f.meter * w)
    → recent_sharer_octets sharers u os * octet_units ≤ burst_sum meters sharers * octet_units + rate_sum meters sharers * w
all_allowed meters [] u w os each = omega arith
all_allowed meters (g ∷ gs) u w os each =
    let own = each g.0 g.1 (inl refl) in
    let rest = all_allowed meters gs u w os (λ n f i. each n f (inr i)) in
    omega (arith, own, rest)

-- The transmission times have the meters' curve.
pub work_allowed : (meters : ℕ → MeterPlan) (sharers : List (ℕ × FilterPlan)) (speed : Speed) (u w : ℕ) (os : List Offer) → AreSharerOffers sharers os
    → ((n : ℕ) (f : FilterPlan) → IsMember (n, f) sharers → recent_filter_octets n u os * octet_units ≤ optional_burst meters f.meter * octet_units + optional_rate meters f.meter * w)
    → recent_offer_work speed u os ≤ transmission_time 60 speed * (burst_sum meters sharers * octet_units + rate_sum meters sharers * w) / (64 * octet_units)
work_allowed meters sharers speed u w os of each =
    let work = work_by_octets sharers speed u os of in
    let allowed = mul-le-mul_left (transmission_time 60 speed) (all_allowed meters sharers u w os each) in
    let some : 0 < 64 * octet_units = omega arith in
    let all : recent_offer_work speed u os * (64 * octet_units) ≤ transmission_time 60 speed * (burst_sum meters sharers * octet_units + rate_sum meters sharers * w) = omega (arith, work, allowed) in
    (le-div_iff_mul-le some).1 all

-- HOW MANY

frames_by_octets : (n u : ℕ) (os : List Offer) → 64 * count_filter_offers n u os ≤ recent_filter_octets n u os
frames_by_octets n u [] = omega arith
frames_by_octets n u (o ∷ os) =
    let rest = frames_by_octets n u os in
    by_bool (has_filter_number o.item.flow n && nat_le u o.at) (λ k. rw k (omega (arith, rest))) (λ k. rw k (omega (arith, rest)))

frames_more : (sharers : List (ℕ × FilterPlan)) (u : ℕ) (o : Offer) (os : List Offer) → count_sharer_offers sharers u os ≤ count_sharer_offers sharers u (o ∷ os)
frames_more [] u o os = omega arith
frames_more (g ∷ gs) u o os = let rest = frames_more gs u o os in omega (arith, rest)

frames_counts : (sharers : List (ℕ × FilterPlan)) (n : ℕ) (f : FilterPlan) (u : ℕ) (o : Offer) (os : List Offer) → IsMember (n, f) sharers → o.item.flow ≡ Some n → nat_le u o.at ≡ true → 1 + count_sharer_offers sharers u os ≤ count_sharer_offers sharers u (o ∷ os)
frames_counts [] n f u o os i flow late = absurd i
frames_counts (g ∷ gs) n f u o os (inl same) flow late =
    let number : n ≡ g.0 = ap (λ (x : ℕ × FilterPlan). x.0) same in
    let own : has_filter_number o.item.flow g.0 ≡ true = rw flow (eq-eqb n g.0 number) in
    let rest = frames_more gs u o os in
    rw (own, late) (omega (arith, rest))
frames_counts (g ∷ gs) n f u o os (inr i) flow late = let rest = frames_counts gs n f u o os i flow late in omega (arith, rest)

-- Each offer counts for a filter in the list.
count_by_filters : (sharers : List (ℕ × FilterPlan)) (u : ℕ) (os : List Offer) → AreSharerOffers sharers os → count_recent_offers u os ≤ count_sharer_offers sharers u os
count_by_filters sharers u [] of = omega arith
count_by_filters sharers u (o ∷ os) of =
    let rest = count_by_filters sharers u os (λ x i. of x (inr i)) in
    by_bool (nat_le u o.at)
    (λ k.
    let (n, f, i, flow) = of o (inl refl) in
    let counts = frames_counts sharers n f u o os i flow k in
    rw k (omega (arith, rest, counts)))
    (λ k. let more = frames_more sharers u o os in rw k (omega (arith, rest, more)))

frames_allowed : (meters : ℕ → MeterPlan) (sharers : List (ℕ × FilterPlan)) (u w : ℕ) (os : List Offer)
    → ((n : ℕ) (f : FilterPlan) → IsMember (n, f) sharers → recent_filter_octets n u os * octet_units ≤ optional_burst meters f.meter * octet_units + optional_rate meters f.meter * w)
    → count_sharer_offers sharers u os ≤ frame_limit meters sharers w
frames_allowed meters [] u w os each = omega arith
frames_allowed meters (g ∷ gs) u w os each =
    let own = each g.0 g.1 (inl refl) in
    let frames = frames_by_octets g.0 u os in
    let some : 0 < 64 * octet_units = omega arith in
    let all : count_filter_offers g.0 u os * (64 * octet_units) ≤ optional_burst meters g.1.meter * octet_units + optional_rate meters g.1.meter * w = omega (arith, own, frames) in
    let one = (le-div_iff_mul-le some).1 all in
    let rest = frames_allowed meters gs u w os (λ n f i. each n f (inr i)) in
    omega (arith, one, rest)

-- The numbers of frames have the meters' count curve.
pub count_allowed : (meters : ℕ → MeterPlan) (sharers : List (ℕ × FilterPlan)) (u w : ℕ) (os : List Offer) → AreSharerOffers sharers os
    → ((n : ℕ) (f : FilterPlan) → IsMember (n, f) sharers → recent_filter_octets n u os * octet_units ≤ optional_burst meters f.meter * octet_units + optional_rate meters f.meter * w)
    → count_recent_offers u os ≤ frame_limit meters sharers w
count_allowed meters sharers u w os of each =
    let all = count_by_filters sharers u os of in
    let most = frames_allowed meters sharers u w os each in
    omega (arith, all, most)

-- OFFERS AND COPIES

-- Holds if the offers of any `w` ns up to an offer have transmission times of at most `curve w` and number at most
-- `many w`.
abbrev pub HaveOfferCurves : Speed → (ℕ → ℕ) → (ℕ → ℕ) → List Offer → Type 0
HaveOfferCurves speed curve many [] = Unit {0}
HaveOfferCurves speed curve many (o ∷ os) = ((u w : ℕ) → o.at ≡ u + w → (recent_offer_work speed u (o ∷ os) ≤ curve w) × (count_recent_offers u (o ∷ os) ≤ many w)) × HaveOfferCurves speed curve many os

pub work_as : {A : Type 0} (out : PortPlan A) (u : ℕ) (xs : List (Copy CarriedFrame)) → recent_work (egress_rules out) u xs ≡ recent_offer_work out.speed u (copy_offers xs)
work_as out u [] = refl
work_as out u (x ∷ xs) = ap (λ (n : ℕ). (if nat_le u x.at then transmission_time x.item.len out.speed else 0) + n) (work_as out u xs)

count_as : (u : ℕ) (xs : List (Copy CarriedFrame)) → count_recent_copies u xs ≡ count_recent_offers u (copy_offers xs)
count_as u [] = refl
count_as u (x ∷ xs) = ap (λ (n : ℕ). (if nat_le u x.at then 1 else 0) + n) (count_as u xs)

pub copies_keep : {A : Type 0} (out : PortPlan A) (curve many : ℕ → ℕ) (xs : List (Copy CarriedFrame)) → HaveOfferCurves out.speed curve many (copy_offers xs) → HasWorkCurve (egress_rules out) curve xs
copies_keep out curve many [] keep = tt
copies_keep out curve many (x ∷ xs) keep = ((λ u w at. rw (work_as out u (x ∷ xs)) ((keep.0 u w at).0)), copies_keep out curve many xs keep.1)

pub copies_count : (speed : Speed) (curve many : ℕ → ℕ) (xs : List (Copy CarriedFrame)) → HaveOfferCurves speed curve many (copy_offers xs) → HasCountCurve many xs
copies_count speed curve many [] keep = tt
copies_count speed curve many (x ∷ xs) keep = ((λ u w at. rw (count_as u (x ∷ xs)) ((keep.0 u w at).1)), copies_count speed curve many xs keep.1)
