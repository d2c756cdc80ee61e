-- Filters with arrival curves by their meters or gates, and queues that they share.
use Rattle.std.proofs.Common.{◌≡◌, ◌<◌, ◌≤◌, ◌+◌, ◌-◌, ◌*◌, ◌/◌, ℕ, Bool, true, false, ◌&&◌, Option, None, Some, List, [], ◌∷◌, ◌++◌, Ok, length, arith, ap, refl, sym, subst, inl, inr}
use Rattle.std.specs.Prelude.{nat_eq, nat_le, if◌then◌else◌}
use Rattle.std.proofs.Math.Nat.{le-div_iff_mul-le, mul-le-mul_left}
use Rattle.std.proofs.lemmas.Bool.{cases_lt, eq-eqb, eqb-true}
use Rattle.bridge_limits.specs.Members.{IsMember}
use Rattle.bridge_limits.proofs.Cases.{by_bool}
use Rattle.bridge_limits.proofs.Orders.{same_eq}
use Rattle.bridge_frame.specs.declared.Head.{Head}
use Rattle.bridge_frame.specs.declared.Speed.{Speed}
use Rattle.bridge_frame.specs.declared.Speed.TheVariants.{Mbps10, Mbps100, Mbps1000, Mbps10000, Mbps2500}
use Rattle.bridge_frame.specs.Frames.{is_tagged, parsed_head, sdu_octets}
use Rattle.bridge_frame.specs.Link.{transmission_time}
use Rattle.bridge_frame.proofs.Times.{occupied_some}
use Rattle.bridge_forward.specs.Ports.{has_port}
use Rattle.bridge_gate.specs.declared.stream_gate.GateAnswer.{GateAnswer}
use Rattle.bridge_gate.specs.declared.stream_gate.GateAnswer.TheVariants as gate
use Rattle.bridge_gate.specs.Gates as gates
use Rattle.bridge_gate.specs.Gates.{Answered, Asked, ClearedOctets, ClearedRx, GateEvent, GateRules, GateStep, answer, last_frame_time}
use Rattle.bridge_meter.specs.Colours.{octet_units}
use Rattle.bridge_filter.specs.declared.FilterInput.{FilterInput}
use Rattle.bridge_filter.specs.declared.Clear.{Clear}
use Rattle.bridge_filter.specs.declared.Clear.TheVariants as clear
use Rattle.bridge_filter.specs.declared.FilterPlan.{FilterPlan}
use Rattle.bridge_filter.specs.declared.Verdict.{Verdict}
use Rattle.bridge_filter.specs.declared.Verdict.TheVariants as verdict
use Rattle.bridge_filter.specs.Verdicts as verdicts
use Rattle.bridge_filter.specs.Verdicts.{Commanded, FilterStep, Judged, PolicePlans, answer_verdict, filter_steps, frame_verdict, gate_answer, gate_share, has_reached_gate, input_step, is_above_max, is_blocked, meter_share}
use Rattle.bridge_filter.proofs.Members.{one_number}
use Rattle.bridge_filter.proofs.Owned.{flow_listed}
use Rattle.bridge_config.specs.declared.ports.PortPlan.{PortPlan}
use Rattle.bridge_config.specs.Model.{Plan}
use Rattle.bridge_config.specs.Rules.{IsPlan}
use Rattle.bridge_check.proofs.Sound.{unrefused}
use Rattle.bridge_semantics.specs.declared.destination.Destination.{Destination}
use Rattle.bridge_semantics.specs.declared.destination.Destination.TheVariants as way
use Rattle.bridge_semantics.specs.Events.{Arrival, Arrived, Cleared, Event, destination_input, filter_inputs, frame_destination, plan_police, police_steps, with_input}
use Rattle.bridge_semantics.specs.Offers.{Offer, class_offers, destination_offer, make_offer, port_offers, step_offer, verdict_offer}
use Rattle.bridge_semantics.proofs.Offering.{going}
use Rattle.bridge_bounds.proofs.Sizes.{head_read}
use Rattle.bridge_groups.proofs.MeterAllowance.{lets_upto}
use Rattle.bridge_bounds.specs.GateFrames.{AreWithinLengths}
use Rattle.bridge_groups.specs.Curves.{AreArrivalsInOrder, HasNoRunts, HasFilterCurve, curve_sum, recent_sharer_work, recent_filter_work, gate_curve, has_filter_number, last_arrival_time, meter_curve, recent_filter_octets, count_recent_offers, recent_offer_work}
use Rattle.bridge_groups.specs.GateBounds.{HaveSdus}
use Rattle.bridge_groups.specs.GateLimits.{AreGateFramesInOrder, HasOctetLimits, octet_budget, recent_passed_octets}
use Rattle.bridge_groups.proofs.Shares as shares
use Rattle.bridge_groups.proofs.Sums.{AreSharerOffers, least_occupied, short_most}
use Rattle.bridge_groups.proofs.Turns.{within_budget}

-- SUMS

-- The transmission times of all offers are at most the sum over the filters.
flow_more : (speed : Speed) (sharers : List (ℕ × FilterPlan)) (u : ℕ) (o : Offer) (os : List Offer) → recent_sharer_work speed sharers u os ≤ recent_sharer_work speed sharers u (o ∷ os)
flow_more speed [] u o os = omega arith
flow_more speed (g ∷ gs) u o os = let rest = flow_more speed gs u o os in omega (arith, rest)

flow_counts : (speed : Speed) (sharers : List (ℕ × FilterPlan)) (n : ℕ) (f : FilterPlan) (u : ℕ) (o : Offer) (os : List Offer) → IsMember (n, f) sharers → o.item.flow ≡ Some n → nat_le u o.at ≡ true → transmission_time o.item.len speed + recent_sharer_work speed sharers u os ≤ recent_sharer_work speed sharers u (o ∷ os)
flow_counts speed [] n f u o os i flow late = absurd i
flow_counts speed (g ∷ gs) n f u o os (inl same) flow late =
    let number : n ≡ g.0 = ap (λ (x : ℕ × FilterPlan). x.0) same in
    let own : has_filter_number o.item.flow g.0 ≡ true = rw flow (eq-eqb n g.0 number) in
    let rest = flow_more speed gs u o os in
    rw (own, late) (omega (arith, rest))
flow_counts speed (g ∷ gs) n f u o os (inr i) flow late = let rest = flow_counts speed gs n f u o os i flow late in omega (arith, rest)

pub work_by_flows : (speed : Speed) (sharers : List (ℕ × FilterPlan)) (u : ℕ) (os : List Offer) → AreSharerOffers sharers os → recent_offer_work speed u os ≤ recent_sharer_work speed sharers u os
work_by_flows speed sharers u [] of = omega arith
work_by_flows speed sharers u (o ∷ os) of =
    let rest = work_by_flows speed sharers u os (λ x i. of x (inr i)) in
    by_bool (nat_le u o.at)
    (λ k.
    let (n, f, i, flow) = of o (inl refl) in
    let counts = flow_counts speed sharers n f u o os i flow k in
    rw k (omega (arith, rest, counts)))
    (λ k. let more = flow_more speed sharers u o os in rw k (omega (arith, rest, more)))

flows_limited : (speed : Speed) (own : ℕ → ℕ → ℕ) (sharers : List (ℕ × FilterPlan)) (u w : ℕ) (os : List Offer) → ((n : ℕ) (f : FilterPlan) → IsMember (n, f) sharers → recent_filter_work speed n u os ≤ own n w) → recent_sharer_work speed sharers u os ≤ curve_sum own sharers w
flows_limited speed own [] u w os each = omega arith
flows_limited speed own (g ∷ gs) u w os each =
    let one = each g.0 g.1 (inl refl) in
    let rest = flows_limited speed own gs u w os (λ n f i. each n f (inr i)) in
    omega (arith, one, rest)

-- The number of offers is at most their work over the shortest transmission time.
count_by_work : (speed : Speed) (u : ℕ) (os : List Offer) → count_recent_offers u os * transmission_time 60 speed ≤ recent_offer_work speed u os
count_by_work speed u [] = omega arith
count_by_work speed u (o ∷ os) =
    let rest = count_by_work speed u os in
    let least = least_occupied o.item.len speed in
    by_bool (nat_le u o.at) (λ k. rw k (omega (arith, rest, least))) (λ k. rw k (omega (arith, rest)))

-- The offers of filters that share a queue have the sum of the filters' curves.
pub limited_keep : {A : Type 0} (p : Plan A) (out : PortPlan A) (c : ℕ) (sharers : List (ℕ × FilterPlan)) (own : ℕ → ℕ → ℕ) → ((n : ℕ) (f : FilterPlan) → IsMember (n, f) sharers → HasFilterCurve p out c n (own n)) → ((es : List Event) → AreSharerOffers sharers (class_offers c (port_offers p out es)))
    → (u w : ℕ) (es : List Event) → AreArrivalsInOrder es → HasNoRunts es → last_arrival_time es ≤ u + w → (recent_offer_work out.speed u (class_offers c (port_offers p out es)) ≤ curve_sum own sharers w) × (count_recent_offers u (class_offers c (port_offers p out es)) ≤ curve_sum own sharers w / transmission_time 60 out.speed)
limited_keep p out c sharers own limits of u w es order long upto =
    let os = class_offers c (port_offers p out es) in
    let flows = work_by_flows out.speed sharers u os (of es) in
    let all = flows_limited out.speed own sharers u w os (λ n f i. limits n f i u w es order long upto) in
    let work : recent_offer_work out.speed u os ≤ curve_sum own sharers w = omega (arith, flows, all) in
    let count = count_by_work out.speed u os in
    (work, (le-div_iff_mul-le (occupied_some 60 out.speed)).1 (omega (arith, count, work)))

-- A METER

octets_of_flow : (speed : Speed) (n u : ℕ) (os : List Offer) → 64 * recent_filter_work speed n u os ≤ transmission_time 60 speed * recent_filter_octets n u os
octets_of_flow speed n u [] = omega arith
octets_of_flow speed n u (o ∷ os) =
    let rest = octets_of_flow speed n u os in
    let one = short_most o.item.len speed in
    by_bool (has_filter_number o.item.flow n && nat_le u o.at) (λ k. rw k (omega (arith, rest, one))) (λ k. rw k (omega (arith, rest)))

pub by_meter : {A : Type 0} (p : Plan A) (out : PortPlan A) (c n m : ℕ) (f : FilterPlan) → IsPlan p → IsMember (n, f) p.filters → f.meter ≡ Some m → HasFilterCurve p out c n (meter_curve ((plan_police p).meters m) out.speed)
by_meter p out c n m f plan listed own u w es order long upto =
    let counted = shares.offers_counted p n m f plan listed own out c u es in
    let (sorted, newest) = shares.share_order p n m f plan listed own es order in
    let lets = lets_upto ((plan_police p).meters m) u w (meter_share m (police_steps p es)) sorted (omega (arith, newest, upto)) in
    let work = octets_of_flow out.speed n u (class_offers c (port_offers p out es)) in
    let allowed = mul-le-mul_left (transmission_time 60 out.speed) (omega (arith, counted, lets)) in
    by_units (recent_filter_work out.speed n u (class_offers c (port_offers p out es))) (recent_filter_octets n u (class_offers c (port_offers p out es))) (transmission_time 60 out.speed) _ work allowed
  where
    by_units : (work octets one most : ℕ) → 64 * work ≤ one * octets → one * (octets * octet_units) ≤ one * most → work ≤ one * most / (64 * octet_units)
    by_units work octets one most h k =
        let some : 0 < 64 * octet_units = omega arith in
        let all : work * (64 * octet_units) ≤ one * most = omega (arith, h, k) in
        (le-div_iff_mul-le some).1 all

-- A GATE

runt_most : (len : ℕ) (speed : Speed) → 60 ≤ len → 44 * transmission_time len speed ≤ transmission_time 60 speed * (len - 16)
unfolding transmission_time
runt_most len Mbps10 h = omega (arith, h)
runt_most len Mbps100 h = omega (arith, h)
runt_most len Mbps1000 h = omega (arith, h)
runt_most len Mbps2500 h = omega (arith, h)
runt_most len Mbps10000 h = omega (arith, h)

-- A frame of less than 60 octets is padded to 60.
padded : (len : ℕ) (speed : Speed) → len ≤ 60 → transmission_time len speed ≡ transmission_time 60 speed
unfolding transmission_time
padded len Mbps10 h = omega (arith, h)
padded len Mbps100 h = omega (arith, h)
padded len Mbps1000 h = omega (arith, h)
padded len Mbps2500 h = omega (arith, h)
padded len Mbps10000 h = omega (arith, h)

sdu_at_least : (b : Bool) (len : ℕ) → len - 16 ≤ (if b then len - 16 else len - 12)
sdu_at_least true len = omega arith
sdu_at_least false len = omega arith

-- Per octet of its service data unit, the shortest frame with at least `k` octets takes most.
sdu_most : (octets : List ℕ) (len : ℕ) (h : Head) (speed : Speed) (k : ℕ) → k ≤ 44 → parsed_head octets len ≡ Ok h → k ≤ h.sdu → k * transmission_time len speed ≤ transmission_time 60 speed * h.sdu
sdu_most octets len h speed k few e low = elim (cases_lt len 60) [
  | inl short ↦
      let all = mul-le-mul_left (transmission_time 60 speed) low in
      let one = padded len speed (omega (arith, short)) in
      let same = ap (λ (i : ℕ). k * i) one in
      omega (arith, all, same)
  | inr long ↦
      let read = head_read octets len h e in
      let least = sdu_at_least (is_tagged octets) len in
      let more = mul-le-mul_left (transmission_time 60 speed) least in
      let one = runt_most len speed long in
      let most = mul-le-mul_left (transmission_time len speed) few in
      let all : k * transmission_time len speed ≤ transmission_time 60 speed * sdu_octets octets len = omega (arith, one, more, most) in
      subst (λ (i : ℕ). k * transmission_time len speed ≤ transmission_time 60 speed * i) read.sdu all
]

answered : (p : PolicePlans) (ss : List FilterStep) (c : FilterInput) (f : FilterPlan) (a : GateAnswer) (ipv : Option ℕ) (eligible : Bool) → answer_verdict p ss c f a ≡ verdict.Pass ipv eligible → (i : Option ℕ) × (a ≡ gate.Through i)
answered p ss c f (gate.Through i) ipv eligible h = (i, refl)
answered p ss c f gate.Closed ipv eligible h = absurd (cc)
answered p ss c f gate.ShutByRx ipv eligible h = absurd (cc)
answered p ss c f gate.ShutByOctets ipv eligible h = absurd (cc)
answered p ss c f gate.OctetsExceeded ipv eligible h = absurd (cc)

told_more : (u t n : ℕ) (a : GateAnswer) (ss : List GateStep) → recent_passed_octets u ss ≤ recent_passed_octets u (Answered t n a ∷ ss)
told_more u t n (gate.Through ipv) ss = omega arith
told_more u t n gate.Closed ss = omega arith
told_more u t n gate.ShutByRx ss = omega arith
told_more u t n gate.ShutByOctets ss = omega arith
told_more u t n gate.OctetsExceeded ss = omega arith

-- Frames of at least 60 octets have SDUs of at least 44 octets.
pub padded_sdus : (es : List Event) → HasNoRunts es → HaveSdus 44 es
padded_sdus [] long = tt
padded_sdus (Arrived a ∷ es) long = (
  (λ h e.
      let read = head_read a.octets a.len h e in
      let least = sdu_at_least (is_tagged a.octets) a.len in
      let low = long.0 in
      let all : 44 ≤ sdu_octets a.octets a.len = omega (arith, least, low) in
      subst (λ (i : ℕ). 44 ≤ i) read.sdu all),
  padded_sdus es long.1,
)
padded_sdus (Cleared d k ∷ es) long = padded_sdus es long

two_at_least : (b : Bool) (octets len : ℕ) → (if b then 18 else 14) ≤ octets → octets ≤ len → 2 ≤ (if b then len - 16 else len - 12)
two_at_least true octets len h k = omega (arith, h, k)
two_at_least false octets len h k = omega (arith, h, k)

-- Frames with at least their captured octets have SDUs of at least the two octets of an EtherType.
pub captured_sdus : (es : List Event) → AreWithinLengths es → HaveSdus 2 es
captured_sdus [] within = tt
captured_sdus (Arrived a ∷ es) within = (
  (λ h e.
      let read = head_read a.octets a.len h e in
      let low = two_at_least (is_tagged a.octets) (length a.octets) a.len read.whole within.0 in
      subst (λ (i : ℕ). 2 ≤ i) read.sdu low),
  captured_sdus es within.1,
)
captured_sdus (Cleared d k ∷ es) within = captured_sdus es within

module _ {A : Type 0} (p : Plan A) (n : ℕ) (f : FilterPlan) (plan : IsPlan p) (listed : IsMember (n, f) p.filters) where
  abbrev rules : GateRules
  rules = (plan_police p).gates f.gate

  -- The octets that the filter's gate passed at time `u` or later.
  abbrev through : ℕ → List FilterStep → ℕ
  through u ss = recent_passed_octets u (gates.gate_steps ((plan_police p).gates f.gate) (gate_share f.gate ss))

  judged_more : (u : ℕ) (ss : List FilterStep) (c : FilterInput) (k : ℕ) (g : FilterPlan) (v : Verdict) → through u ss ≤ through u (Judged c k g v ∷ ss)
  judged_more u ss c k g v =
      let r = (plan_police p).gates f.gate in
      let share = gate_share f.gate ss in
      let P : Bool → Type 0 = λ b. through u ss ≤ recent_passed_octets u (gates.gate_steps r (if b then Asked c.at c.sdu ∷ share else share)) in
      elim (nat_eq g.gate f.gate && has_reached_gate v) as P [
        | true ↦ told_more u c.at c.sdu (answer r (gates.gate_steps r share) c.at c.sdu) (gates.gate_steps r share)
        | false ↦ omega arith
      ]

  frame_more : (u : ℕ) (ss : List FilterStep) (c : FilterInput) (x : Option (ℕ × FilterPlan)) → through u ss ≤ through u (input_step (plan_police p) ss c x ∷ ss)
  frame_more u ss c None = omega arith
  frame_more u ss c (Some x) = judged_more u ss c x.0 x.1 (frame_verdict (plan_police p) ss c x.0 x.1)

  commanded_same : (u : ℕ) (ss : List FilterStep) (c : Clear) (k : ℕ) → through u (Commanded c k ∷ ss) ≡ through u ss
  commanded_same u ss clear.Blocked k = refl
  commanded_same u ss clear.Red k = refl
  commanded_same u ss clear.Rx k =
      let r = (plan_police p).gates f.gate in
      let share = gate_share f.gate ss in
      let P : Bool → Type 0 = λ b. recent_passed_octets u (gates.gate_steps r (if b then ClearedRx ∷ share else share)) ≡ through u ss in
      elim (nat_eq k f.gate) as P [ true ↦ refl | false ↦ refl ]
  commanded_same u ss clear.Octets k =
      let r = (plan_police p).gates f.gate in
      let share = gate_share f.gate ss in
      let P : Bool → Type 0 = λ b. recent_passed_octets u (gates.gate_steps r (if b then ClearedOctets ∷ share else share)) ≡ through u ss in
      elim (nat_eq k f.gate) as P [ true ↦ refl | false ↦ refl ]

  -- The gate passed each frame that passes the filter.
  own_through : (u : ℕ) (ss : List FilterStep) (c : FilterInput) (ipv : Option ℕ) (eligible : Bool) → frame_verdict (plan_police p) ss c n f ≡ verdict.Pass ipv eligible → (if nat_le u c.at then c.sdu else 0) + through u ss ≤ through u (Judged c n f (verdict.Pass ipv eligible) ∷ ss)
  own_through u ss c ipv eligible h =
      let r = (plan_police p).gates f.gate in
      let share = gate_share f.gate ss in
      let v = unrefused (f.block_oversize && is_blocked n ss) (is_above_max f.max_sdu c.sdu) (answer_verdict (plan_police p) ss c f (gate_answer (plan_police p) ss c f.gate)) ipv eligible h in
      let (i, is) = answered (plan_police p) ss c f (gate_answer (plan_police p) ss c f.gate) ipv eligible v in
      let P : Bool → Type 0 = λ b. (if nat_le u c.at then c.sdu else 0) + through u ss ≤ recent_passed_octets u (gates.gate_steps r (if b && true then Asked c.at c.sdu ∷ share else share)) in
      let Q : GateAnswer → Type 0 = λ a. (if nat_le u c.at then c.sdu else 0) + through u ss ≤ recent_passed_octets u (Answered c.at c.sdu a ∷ gates.gate_steps r share) in
      let now : Q (gate.Through i) = omega arith in
      subst P (sym (same_eq f.gate)) (subst Q (sym is) now)

  module _ (out : PortPlan A) (c u share : ℕ) (few : share ≤ 44) where
    abbrev IsCounted : List Offer → List FilterStep → Type 0
    IsCounted os ss = share * recent_filter_work out.speed n u (class_offers c os) ≤ transmission_time 60 out.speed * through u ss

    -- The count of passed octets covers offers if it covers them earlier.
    counted_more : (os : List Offer) (ss ts : List FilterStep) → through u ss ≤ through u ts → IsCounted os ss → IsCounted os ts
    counted_more os ss ts rises before = let more = mul-le-mul_left (transmission_time 60 out.speed) rises in omega (arith, before, more)

    passed_counted : (a : Arrival) (es : List Event) (priority own k : ℕ) (g : FilterPlan) (ipv : Option ℕ) (eligible : Bool) (cl : FilterInput) → cl.at ≡ a.at → share * transmission_time a.len out.speed ≤ transmission_time 60 out.speed * cl.sdu → IsMember (k, g) p.filters
        → frame_verdict (plan_police p) (police_steps p es) cl k g ≡ verdict.Pass ipv eligible
        → IsCounted (port_offers p out es) (police_steps p es)
        → IsCounted (make_offer out a priority (Some k) own ipv eligible ∷ port_offers p out es) (Judged cl k g (verdict.Pass ipv eligible) ∷ police_steps p es)
    passed_counted a es priority own k g ipv eligible cl at short there passes before =
        let o : Offer = make_offer out a priority (Some k) own ipv eligible in
        let ss = police_steps p es in
        let rises = judged_more u ss cl k g (verdict.Pass ipv eligible) in
        let more = counted_more (port_offers p out es) ss (Judged cl k g (verdict.Pass ipv eligible) ∷ ss) rises before in
        by_bool (nat_eq o.class c)
        (λ e. by_bool (nat_eq k n)
        (λ y.
        let number : k ≡ n = eqb-true k n y in
        let same : f ≡ g = one_number p.filters n f g plan.filters.own listed (subst (λ (i : ℕ). IsMember (i, g) p.filters) number there) in
        let is : frame_verdict (plan_police p) ss cl n f ≡ verdict.Pass ipv eligible = subst (λ (h : FilterPlan). frame_verdict (plan_police p) ss cl n h ≡ verdict.Pass ipv eligible) (sym same) (subst (λ (i : ℕ). frame_verdict (plan_police p) ss cl i g ≡ verdict.Pass ipv eligible) number passes) in
        let mine = own_through u ss cl ipv eligible is in
        let moved : (if nat_le u a.at then cl.sdu else 0) + through u ss ≤ through u (Judged cl k g (verdict.Pass ipv eligible) ∷ ss) =
        subst (λ (h : FilterPlan). (if nat_le u a.at then cl.sdu else 0) + through u ss ≤ through u (Judged cl k h (verdict.Pass ipv eligible) ∷ ss)) same
        (subst (λ (i : ℕ). (if nat_le u i then cl.sdu else 0) + through u ss ≤ through u (Judged cl k f (verdict.Pass ipv eligible) ∷ ss)) at mine) in
        by_bool (nat_le u a.at)
        (λ w.
        let z : cl.sdu + through u ss ≤ through u (Judged cl k g (verdict.Pass ipv eligible) ∷ ss) = rw w at moved in
        let all = mul-le-mul_left (transmission_time 60 out.speed) z in
        rw (e, y, w) (omega (arith, all, short, before)))
        (λ w. rw (e, y, w) (omega (arith, more))))
        (λ y. rw (e, y) (omega (arith, more))))
        (λ e. rw e more)

    verdict_counted : (a : Arrival) (es : List Event) (priority own k : ℕ) (g : FilterPlan) (v : Verdict) (cl : FilterInput) → cl.at ≡ a.at → share * transmission_time a.len out.speed ≤ transmission_time 60 out.speed * cl.sdu → IsMember (k, g) p.filters
        → frame_verdict (plan_police p) (police_steps p es) cl k g ≡ v
        → IsCounted (port_offers p out es) (police_steps p es)
        → IsCounted (verdict_offer out a priority k own v ++ port_offers p out es) (Judged cl k g v ∷ police_steps p es)
    verdict_counted a es priority own k g (verdict.Pass ipv e) cl at short there is before = passed_counted a es priority own k g ipv e cl at short there is before
    verdict_counted a es priority own k g verdict.Blocked cl at short there is before = counted_more (port_offers p out es) (police_steps p es) (Judged cl k g verdict.Blocked ∷ police_steps p es) (judged_more u (police_steps p es) cl k g verdict.Blocked) before
    verdict_counted a es priority own k g verdict.Oversize cl at short there is before = counted_more (port_offers p out es) (police_steps p es) (Judged cl k g verdict.Oversize ∷ police_steps p es) (judged_more u (police_steps p es) cl k g verdict.Oversize) before
    verdict_counted a es priority own k g verdict.GateClosed cl at short there is before = counted_more (port_offers p out es) (police_steps p es) (Judged cl k g verdict.GateClosed ∷ police_steps p es) (judged_more u (police_steps p es) cl k g verdict.GateClosed) before
    verdict_counted a es priority own k g verdict.ShutByRx cl at short there is before = counted_more (port_offers p out es) (police_steps p es) (Judged cl k g verdict.ShutByRx ∷ police_steps p es) (judged_more u (police_steps p es) cl k g verdict.ShutByRx) before
    verdict_counted a es priority own k g verdict.ShutByOctets cl at short there is before = counted_more (port_offers p out es) (police_steps p es) (Judged cl k g verdict.ShutByOctets ∷ police_steps p es) (judged_more u (police_steps p es) cl k g verdict.ShutByOctets) before
    verdict_counted a es priority own k g verdict.OctetsExceeded cl at short there is before = counted_more (port_offers p out es) (police_steps p es) (Judged cl k g verdict.OctetsExceeded ∷ police_steps p es) (judged_more u (police_steps p es) cl k g verdict.OctetsExceeded) before
    verdict_counted a es priority own k g verdict.Red cl at short there is before = counted_more (port_offers p out es) (police_steps p es) (Judged cl k g verdict.Red ∷ police_steps p es) (judged_more u (police_steps p es) cl k g verdict.Red) before
    verdict_counted a es priority own k g verdict.YellowDropped cl at short there is before = counted_more (port_offers p out es) (police_steps p es) (Judged cl k g verdict.YellowDropped ∷ police_steps p es) (judged_more u (police_steps p es) cl k g verdict.YellowDropped) before

    step_counted : (a : Arrival) (es : List Event) (priority : ℕ) (cl : FilterInput) (x : Option (ℕ × FilterPlan)) → cl.at ≡ a.at → share * transmission_time a.len out.speed ≤ transmission_time 60 out.speed * cl.sdu → verdicts.frame_filter p.filters cl ≡ x
        → IsCounted (port_offers p out es) (police_steps p es)
        → IsCounted (step_offer p out a es priority (input_step (plan_police p) (police_steps p es) cl x) ++ port_offers p out es) (input_step (plan_police p) (police_steps p es) cl x ∷ police_steps p es)
    step_counted a es priority cl None at short is before =
        let o : Offer = make_offer out a priority None 0 None false in
        by_bool (nat_eq o.class c) (λ e. rw e (omega (arith, before))) (λ e. rw e before)
    step_counted a es priority cl (Some x) at short is before = verdict_counted a es priority _ x.0 x.1 (frame_verdict (plan_police p) (police_steps p es) cl x.0 x.1) cl at short (flow_listed p.filters cl x is) refl before

    way_counted : (a : Arrival) (es : List Event) (w : Destination) → frame_destination p a ≡ w → ((h : Head) → parsed_head a.octets a.len ≡ Ok h → share ≤ h.sdu) → IsCounted (port_offers p out es) (police_steps p es) → IsCounted (destination_offer p out a es w ++ port_offers p out es) (filter_steps (plan_police p) (with_input (destination_input w) (filter_inputs p es)))
    way_counted a es way.Malformed w long before = before
    way_counted a es way.Nowhere w long before = before
    way_counted a es (way.Forwarded set cl) w long before =
        let g = going p a set cl w in
        let at : cl.at ≡ a.at = sym (ap (λ (z : FilterInput). z.at) g.call_is) in
        let short : share * transmission_time a.len out.speed ≤ transmission_time 60 out.speed * cl.sdu = subst (λ (z : FilterInput). share * transmission_time a.len out.speed ≤ transmission_time 60 out.speed * z.sdu) g.call_is (sdu_most a.octets a.len g.parsed out.speed share few g.is (long g.parsed g.is)) in
        by_bool (has_port set out.number)
        (λ k. rw k (step_counted a es cl.priority cl (verdicts.frame_filter p.filters cl) at short refl before))
        (λ k. rw k (counted_more (port_offers p out es) (police_steps p es) (input_step (plan_police p) (police_steps p es) cl (verdicts.frame_filter p.filters cl) ∷ police_steps p es) (frame_more u (police_steps p es) cl (verdicts.frame_filter p.filters cl)) before))

    -- The gate passed all frames that the filter offers to the class at time `u` or later.
    offers_through : (es : List Event) → HaveSdus share es → IsCounted (port_offers p out es) (police_steps p es)
    offers_through [] long = omega arith
    offers_through (Cleared d k ∷ es) long =
        let same = commanded_same u (police_steps p es) d k in
        counted_more (port_offers p out es) (police_steps p es) (Commanded d k ∷ police_steps p es) (omega (arith, same)) (offers_through es long)
    offers_through (Arrived a ∷ es) long = way_counted a es (frame_destination p a) refl long.0 (offers_through es long.1)

  -- Holds if the frames at the filter's gate are in order, up to time `last`.
  abbrev IsAskedInOrder : ℕ → List FilterStep → Type 0
  IsAskedInOrder last ss = AreGateFramesInOrder (gate_share f.gate ss) × (last_frame_time (gate_share f.gate ss) ≤ last)

  judged_order : (last : ℕ) (ss : List FilterStep) (c : FilterInput) (k : ℕ) (g : FilterPlan) (v : Verdict) → last ≤ c.at → IsAskedInOrder last ss → IsAskedInOrder c.at (Judged c k g v ∷ ss)
  judged_order last ss c k g v later before =
      let share = gate_share f.gate ss in
      let upto = before.1 in
      let P : Bool → Type 0 = λ b. AreGateFramesInOrder (if b then Asked c.at c.sdu ∷ share else share) × (last_frame_time (if b then Asked c.at c.sdu ∷ share else share) ≤ c.at) in
      elim (nat_eq g.gate f.gate && has_reached_gate v) as P [
        | true ↦ ((omega (arith, upto, later), before.0), omega arith)
        | false ↦ (before.0, omega (arith, upto, later))
      ]

  frame_order : (last : ℕ) (ss : List FilterStep) (c : FilterInput) (x : Option (ℕ × FilterPlan)) → last ≤ c.at → IsAskedInOrder last ss → IsAskedInOrder c.at (input_step (plan_police p) ss c x ∷ ss)
  frame_order last ss c None later before = let upto = before.1 in (before.0, omega (arith, upto, later))
  frame_order last ss c (Some x) later before = judged_order last ss c x.0 x.1 (frame_verdict (plan_police p) ss c x.0 x.1) later before

  commanded_order : (last : ℕ) (ss : List FilterStep) (c : Clear) (k : ℕ) → IsAskedInOrder last ss → IsAskedInOrder last (Commanded c k ∷ ss)
  commanded_order last ss clear.Blocked k before = before
  commanded_order last ss clear.Red k before = before
  commanded_order last ss clear.Rx k before =
      let share = gate_share f.gate ss in
      let P : Bool → Type 0 = λ b. AreGateFramesInOrder (if b then ClearedRx ∷ share else share) × (last_frame_time (if b then ClearedRx ∷ share else share) ≤ last) in
      elim (nat_eq k f.gate) as P [ true ↦ before | false ↦ before ]
  commanded_order last ss clear.Octets k before =
      let share = gate_share f.gate ss in
      let P : Bool → Type 0 = λ b. AreGateFramesInOrder (if b then ClearedOctets ∷ share else share) × (last_frame_time (if b then ClearedOctets ∷ share else share) ≤ last) in
      elim (nat_eq k f.gate) as P [ true ↦ before | false ↦ before ]

  way_order : (a : Arrival) (es : List Event) (w : Destination) → frame_destination p a ≡ w → last_arrival_time es ≤ a.at → IsAskedInOrder (last_arrival_time es) (police_steps p es) → IsAskedInOrder a.at (filter_steps (plan_police p) (with_input (destination_input w) (filter_inputs p es)))
  way_order a es way.Malformed w later before = let upto = before.1 in (before.0, omega (arith, upto, later))
  way_order a es way.Nowhere w later before = let upto = before.1 in (before.0, omega (arith, upto, later))
  way_order a es (way.Forwarded set cl) w later before =
      let at : cl.at ≡ a.at = sym (ap (λ (z : FilterInput). z.at) (going p a set cl w).call_is) in
      let next = frame_order (last_arrival_time es) (police_steps p es) cl (verdicts.frame_filter p.filters cl) (omega (arith, at, later)) before in
      let upto = next.1 in
      (next.0, omega (arith, upto, at))

  asked_order : (es : List Event) → AreArrivalsInOrder es → IsAskedInOrder (last_arrival_time es) (police_steps p es)
  asked_order [] order = (tt, omega arith)
  asked_order (Cleared d k ∷ es) order = commanded_order (last_arrival_time es) (police_steps p es) d k (asked_order es order)
  asked_order (Arrived a ∷ es) order = way_order a es (frame_destination p a) refl order.0 (asked_order es order.1)

  -- The work that a filter offers keeps the budget of its stream gate.
  pub work_within_budget : (out : PortPlan A) (c u share w : ℕ) (es : List Event) → share ≤ 44 → HasOctetLimits ((plan_police p).gates f.gate).turn_at → AreArrivalsInOrder es → HaveSdus share es → last_arrival_time es ≤ u + w → share * recent_filter_work out.speed n u (class_offers c (port_offers p out es)) ≤ transmission_time 60 out.speed * octet_budget ((plan_police p).gates f.gate).turn_at u w
  work_within_budget out c u share w es few limits order long upto =
      let counted = offers_through out c u share few es long in
      let (sorted, newest) = asked_order es order in
      let lets = within_budget ((plan_police p).gates f.gate) limits u w (gate_share f.gate (police_steps p es)) sorted (omega (arith, newest, upto)) in
      let all = mul-le-mul_left (transmission_time 60 out.speed) lets in
      omega (arith, counted, all)

  -- The offers of a filter have the curve of its gate.
  pub by_gate : (out : PortPlan A) (c : ℕ) (octets : ℕ → ℕ) → HasOctetLimits ((plan_police p).gates f.gate).turn_at → ((u w : ℕ) → octet_budget ((plan_police p).gates f.gate).turn_at u w ≤ octets w) → HasFilterCurve p out c n (gate_curve octets out.speed)
  by_gate out c octets limits most u w es order long upto =
      let within = work_within_budget out c u 44 w es (omega arith) limits order (padded_sdus es long) upto in
      let all = mul-le-mul_left (transmission_time 60 out.speed) (most u w) in
      let some : 0 < 44 = omega arith in
      (le-div_iff_mul-le some).1 (omega (arith, within, all))
