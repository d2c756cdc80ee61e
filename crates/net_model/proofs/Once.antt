-- A stream alone on an idle network has one result: its inputs up to a time follow from its earlier inputs.
use Rattle.std.proofs.Common.{◌≡◌, ◌<◌, ◌≤◌, ◌+◌, ℕ, zero, suc, false, List, [], ◌∷◌, ◌++◌, arith, refl, ap, sym, ◌∙◌, subst, ◌⊎◌, inl, inr, Option, Some, None}
use Rattle.std.specs.Prelude.{nat_eq, nat_lt, if◌then◌else◌}
use Rattle.std.proofs.lemmas.Bool.{ltb-true, lt-ltb, ltb-false}
use Rattle.bridge_limits.specs.Members.{IsMember, IsOrdered}
use Rattle.bridge_limits.proofs.Members.{in_either}
use Rattle.bridge_limits.proofs.Cases.{by_bool}
use Rattle.bridge_capture.specs.Grammar.{CapturedFrame}
use Rattle.bridge_frame.specs.Link.{transmission_time}
use Rattle.bridge_frame.proofs.Times.{occupied_some}
use Rattle.bridge_filter.specs.declared.Verdict.{Verdict}
use Rattle.bridge_filter.specs.declared.Verdict.TheVariants as verdict
use Rattle.bridge_filter.specs.Verdicts as verdicts
use Rattle.bridge_forward.specs.Ports.{has_port}
use Rattle.bridge_port.specs.Schedule.{Copy, PortRules}
use Rattle.bridge_port.specs.Solo.{IsSolo}
use Rattle.bridge_port.proofs.Alone.{one_outcome}
use Rattle.bridge_config.specs.declared.ports.PortPlan.{PortPlan}
use Rattle.bridge_config.specs.Model.{Plan}
use Rattle.bridge_config.specs.Rules.{find_port}
use Rattle.bridge_semantics.specs.declared.destination.Destination.{Destination}
use Rattle.bridge_semantics.specs.declared.destination.Destination.TheVariants as way
use Rattle.bridge_semantics.specs.declared.outcome.View.{View}
use Rattle.bridge_semantics.specs.Events.{Arrival, Event, Arrived, Cleared, frame_destination}
use Rattle.bridge_semantics.specs.Offers.{CarriedFrame, Offer, egress_rules, verdict_offer, step_offer, frame_step, destination_offer, arrival_offer, port_offers, copy_offers, class_offers}
use Rattle.bridge_semantics.specs.Merge.{Input, FollowsInput, inputs_by_rank, input_events, newest_time, IsTimed, AreTimed, IsLater}
use Rattle.bridge_semantics.specs.Runs.{AreSolo, IsSoloView, AreSameViews}
use Rattle.bridge_semantics.proofs.Headline.{in_class_in}
use Rattle.bridge_semantics.proofs.Offering.{in_class_join}
use Rattle.bridge_semantics.proofs.Views.{after_all, rising_one, same_offers, solo_after, told_once}
use Rattle.bridge_semantics.proofs.Merging.{in_at, one_list}
use Rattle.net_model.specs.Networks.{Network, Sender, sender, Hop, hop, IsHop}
use Rattle.net_model.specs.Alone.{ArrivesOverLink, IsAlone, HaveSameExternalInputs}

-- INPUTS BEFORE A TIME

abbrev below : ℕ → List Input → List Input
below t [] = []
below t (x ∷ xs) = if nat_lt x.at t then x ∷ xs else below t xs

below_zero : (xs : List Input) → below zero xs ≡ []
below_zero [] = refl
below_zero (x ∷ xs) = by_bool (nat_lt x.at zero) (λ k. absurd (let l = ltb-true x.at zero k in omega (arith, l))) (λ k. rw k (below_zero xs))

below_all : (t : ℕ) (xs : List Input) → ((y : Input) → IsMember y xs → y.at < t) → below t xs ≡ xs
below_all t [] h = refl
below_all t (x ∷ xs) h = rw (lt-ltb x.at t (h x (inl refl))) refl

-- Holds if `R` relates an input only to inputs that arrive no later.
abbrev Falls : (Input → Input → Type 0) → Type 0
Falls R = (a b : Input) → R a b → b.at ≤ a.at

falls_order : (a b : Input) → FollowsInput a b → b.at ≤ a.at
falls_order a b (inl l) = omega (arith, l)
falls_order a b (inr l) = let e = l.0 in omega (arith, e)

falls_later : (a b : Input) → IsLater a b → b.at ≤ a.at
falls_later a b l = let m : b.at < a.at = l in omega (arith, m)

all_under : (R : Input → Input → Type 0) → Falls R → (t : ℕ) (x : Input) (xs : List Input) → IsOrdered R (x ∷ xs) → x.at < t → (y : Input) → IsMember y (x ∷ xs) → y.at < t
all_under R falls t x xs r l y (inl e) = subst (λ (z : Input). z.at < t) (sym e) l
all_under R falls t x xs r l y (inr i) = let m = falls x y (after_all R x y xs r.0 i) in omega (arith, l, m)

rising_below : (R : Input → Input → Type 0) (t : ℕ) (xs : List Input) → IsOrdered R xs → IsOrdered R (below t xs)
rising_below R t [] r = tt
rising_below R t (x ∷ xs) r = by_bool (nat_lt x.at t) (λ k. rw k r) (λ k. rw k (rising_below R t xs r.1))

below_in : (t : ℕ) (x : Input) (xs : List Input) → IsMember x (below t xs) → IsMember x xs
below_in t x [] i = absurd i
below_in t x (y ∷ ys) i = by_bool (nat_lt y.at t)
    (λ k. let j : IsMember x (y ∷ ys) = rw k at i in j)
    (λ k. let j : IsMember x (below t ys) = rw k at i in inr (below_in t x ys j))

in_below : (t : ℕ) (x : Input) (xs : List Input) → IsMember x xs → x.at < t → IsMember x (below t xs)
in_below t x [] i l = absurd i
in_below t x (y ∷ ys) i l = by_bool (nat_lt y.at t)
    (λ k. rw k i)
    (λ k. rw k (elim i [
      | inl e ↦ absurd (let m = ltb-false y.at t k in let z : x.at ≡ y.at = ap (λ (w : Input). w.at) e in omega (arith, l, m, z))
      | inr j ↦ in_below t x ys j l
    ]))

below_lt : (R : Input → Input → Type 0) → Falls R → (t : ℕ) (x : Input) (xs : List Input) → IsOrdered R xs → IsMember x (below t xs) → x.at < t
below_lt R falls t x [] r i = absurd i
below_lt R falls t x (y ∷ ys) r i = by_bool (nat_lt y.at t)
    (λ k. let j : IsMember x (y ∷ ys) = rw k at i in all_under R falls t y ys r (ltb-true y.at t k) x j)
    (λ k. let j : IsMember x (below t ys) = rw k at i in below_lt R falls t x ys r.1 j)

rank_below : (q t : ℕ) (xs : List Input) → IsOrdered FollowsInput xs → inputs_by_rank q (below t xs) ≡ below t (inputs_by_rank q xs)
rank_below q t [] r = refl
rank_below q t (x ∷ xs) r = by_bool (nat_lt x.at t)
    (λ k.
    let same : below t (inputs_by_rank q (x ∷ xs)) ≡ inputs_by_rank q (x ∷ xs) = below_all t (inputs_by_rank q (x ∷ xs)) (λ y i. all_under FollowsInput falls_order t x xs r (ltb-true x.at t k) y (in_at q y (x ∷ xs) i)) in
    let kept : inputs_by_rank q (below t (x ∷ xs)) ≡ inputs_by_rank q (x ∷ xs) = rw k refl in
    kept ∙ sym same)
    (λ k.
    let left : inputs_by_rank q (below t (x ∷ xs)) ≡ inputs_by_rank q (below t xs) = rw k refl in
    let right : below t (inputs_by_rank q xs) ≡ below t (inputs_by_rank q (x ∷ xs)) = by_bool (nat_eq x.rank q) (λ j. rw (j, k) refl) (λ j. rw j refl) in
    left ∙ (rank_below q t xs r.1 ∙ right))

newest_most : (xs : List Input) → IsOrdered FollowsInput xs → (y : Input) → IsMember y xs → y.at ≤ newest_time xs
newest_most [] r y i = absurd i
newest_most (x ∷ xs) r y (inl e) = let z : y.at ≡ x.at = ap (λ (w : Input). w.at) e in omega (arith, z)
newest_most (x ∷ xs) r y (inr i) = falls_order x y (after_all FollowsInput x y xs r.0 i)

-- OFFERS BEFORE A TIME

abbrev before : ℕ → List Offer → List Offer
before t [] = []
before t (o ∷ os) = if nat_lt o.at t then o ∷ os else before t os

before_all : (t : ℕ) (os : List Offer) → ((o : Offer) → IsMember o os → o.at < t) → before t os ≡ os
before_all t [] h = refl
before_all t (o ∷ os) h = rw (lt-ltb o.at t (h o (inl refl))) refl

before_skip : (t : ℕ) (os ps : List Offer) → ((o : Offer) → IsMember o os → t ≤ o.at) → before t (os ++ ps) ≡ before t ps
before_skip t [] ps h = refl
before_skip t (o ∷ os) ps h =
    let k : nat_lt o.at t ≡ false = by_bool (nat_lt o.at t) (λ y. absurd (let a = ltb-true o.at t y in let b = h o (inl refl) in omega (arith, a, b))) (λ y. y) in
    rw k (before_skip t os ps (λ p i. h p (inr i)))

moment_by : {A : Type 0} (out : PortPlan A) (a : Arrival) (priority n number : ℕ) (v : Verdict) (o : Offer) → IsMember o (verdict_offer out a priority n number v) → o.at ≡ a.at
moment_by out a priority n number (verdict.Pass ipv e) o (inl same) = ap (λ (z : Offer). z.at) same
moment_by out a priority n number (verdict.Pass ipv e) o (inr i) = absurd i
moment_by out a priority n number verdict.Blocked o i = absurd i
moment_by out a priority n number verdict.Oversize o i = absurd i
moment_by out a priority n number verdict.GateClosed o i = absurd i
moment_by out a priority n number verdict.ShutByRx o i = absurd i
moment_by out a priority n number verdict.ShutByOctets o i = absurd i
moment_by out a priority n number verdict.OctetsExceeded o i = absurd i
moment_by out a priority n number verdict.Red o i = absurd i
moment_by out a priority n number verdict.YellowDropped o i = absurd i

moment_step : {A : Type 0} (p : Plan A) (out : PortPlan A) (a : Arrival) (es : List Event) (priority : ℕ) (s : verdicts.FilterStep) (o : Offer) → IsMember o (step_offer p out a es priority s) → o.at ≡ a.at
moment_step p out a es priority (verdicts.Unfiltered c) o (inl same) = ap (λ (z : Offer). z.at) same
moment_step p out a es priority (verdicts.Unfiltered c) o (inr i) = absurd i
moment_step p out a es priority (verdicts.Judged c n f v) o i = moment_by out a priority n _ v o i
moment_step p out a es priority (verdicts.Commanded v m) o i = absurd i

pub moment_on : {A : Type 0} (p : Plan A) (out : PortPlan A) (a : Arrival) (es : List Event) (w : Destination) (o : Offer) → IsMember o (destination_offer p out a es w) → o.at ≡ a.at
moment_on p out a es way.Malformed o i = absurd i
moment_on p out a es way.Nowhere o i = absurd i
moment_on p out a es (way.Forwarded set c) o i = by_bool (has_port set out.number)
    (λ k. let j : IsMember o (step_offer p out a es c.priority (frame_step p es c)) = rw k at i in moment_step p out a es c.priority (frame_step p es c) o j)
    (λ k. let j : ⊥ = rw k at i in absurd j)

moment_of : {A : Type 0} (p : Plan A) (out : PortPlan A) (a : Arrival) (es : List Event) (o : Offer) → IsMember o (arrival_offer p out a es) → o.at ≡ a.at
moment_of p out a es o i = moment_on p out a es (frame_destination p a) o i

at_event : {A : Type 0} (p : Plan A) (out : PortPlan A) (e : Event) (es : List Event) (t : ℕ) (o : Offer) → IsTimed t e → IsMember o (port_offers p out (e ∷ es)) → (o.at ≡ t) ⊎ IsMember o (port_offers p out es)
at_event p out (Arrived a) es t o h i = elim (in_either o (arrival_offer p out a es) (port_offers p out es) i) [ inl x ↦ inl (moment_of p out a es o x ∙ h) | inr y ↦ inr y ]
at_event p out (Cleared c m) es t o h i = inr i

-- Each offer has the time of an input.
offered_at : {A : Type 0} (p : Plan A) (out : PortPlan A) (xs : List Input) → AreTimed xs → (o : Offer) → IsMember o (port_offers p out (input_events xs)) → (y : Input) × IsMember y xs × (o.at ≡ y.at)
offered_at p out [] times o i = absurd i
offered_at p out (x ∷ xs) times o i = elim (at_event p out x.event (input_events xs) x.at o (times x (inl refl)) i) [
  | inl e ↦ (x, inl refl, e)
  | inr j ↦ let r = offered_at p out xs (λ y k. times y (inr k)) o j in (r.0, inr r.1, r.2)
]

skip_event : {A : Type 0} (p : Plan A) (out : PortPlan A) (c t m : ℕ) (e : Event) (es : List Event) → IsTimed m e → t ≤ m → before t (class_offers c (port_offers p out (e ∷ es))) ≡ before t (class_offers c (port_offers p out es))
skip_event p out c t m (Arrived a) es h l =
    ap (before t) (in_class_join c (arrival_offer p out a es) (port_offers p out es)) ∙ before_skip t (class_offers c (arrival_offer p out a es)) (class_offers c (port_offers p out es))
    (λ o i. let e = moment_of p out a es o (in_class_in c o (arrival_offer p out a es) i).0 in let g : a.at ≡ m = h in omega (arith, e, g, l))
skip_event p out c t m (Cleared v k) es h l = refl

-- The offers before a time are the offers of the inputs before this time.
offers_below : {A : Type 0} (p : Plan A) (out : PortPlan A) (c t : ℕ) (xs : List Input) → AreTimed xs → IsOrdered FollowsInput xs → before t (class_offers c (port_offers p out (input_events xs))) ≡ class_offers c (port_offers p out (input_events (below t xs)))
offers_below p out c t [] times r = refl
offers_below p out c t (x ∷ xs) times r = by_bool (nat_lt x.at t)
    (λ k.
    let kept : below t (x ∷ xs) ≡ x ∷ xs = rw k refl in
    let all : before t (class_offers c (port_offers p out (input_events (x ∷ xs)))) ≡ class_offers c (port_offers p out (input_events (x ∷ xs))) = before_all t (class_offers c (port_offers p out (input_events (x ∷ xs))))
    (λ o i.
    let f = offered_at p out (x ∷ xs) times o (in_class_in c o (port_offers p out (input_events (x ∷ xs))) i).0 in
    let l = all_under FollowsInput falls_order t x xs r (ltb-true x.at t k) f.0 f.1 in
    let e = f.2 in
    omega (arith, l, e)) in
    all ∙ sym (ap (λ (ys : List Input). class_offers c (port_offers p out (input_events ys))) kept))
    (λ k.
    let gone : below t (x ∷ xs) ≡ below t xs = rw k refl in
    skip_event p out c t x.at x.event (input_events xs) (times x (inl refl)) (ltb-false x.at t k)
    ∙ (offers_below p out c t xs (λ y i. times y (inr i)) r.1 ∙ sym (ap (λ (ys : List Input). class_offers c (port_offers p out (input_events ys))) gone)))

-- COPIES BEFORE A TIME

abbrev older : ℕ → List (Copy CarriedFrame) → List (Copy CarriedFrame)
older t [] = []
older t (x ∷ xs) = if nat_lt x.at t then x ∷ xs else older t xs

older_offered : (t : ℕ) (xs : List (Copy CarriedFrame)) → copy_offers (older t xs) ≡ before t (copy_offers xs)
older_offered t [] = refl
older_offered t (x ∷ xs) = by_bool (nat_lt x.at t) (λ k. rw k refl) (λ k. rw k (older_offered t xs))

older_solo : (r : PortRules CarriedFrame) (t : ℕ) (xs : List (Copy CarriedFrame)) → IsSolo r xs → IsSolo r (older t xs)
older_solo r t [] h = tt
older_solo r t (x ∷ xs) h = by_bool (nat_lt x.at t) (λ k. rw k h) (λ k. rw k (older_solo r t xs h.1))

older_in : (t : ℕ) (x : Copy CarriedFrame) (xs : List (Copy CarriedFrame)) → IsMember x (older t xs) → IsMember x xs
older_in t x [] i = absurd i
older_in t x (y ∷ ys) i = by_bool (nat_lt y.at t)
    (λ k. let j : IsMember x (y ∷ ys) = rw k at i in j)
    (λ k. let j : IsMember x (older t ys) = rw k at i in inr (older_in t x ys j))

in_older : (t : ℕ) (x : Copy CarriedFrame) (xs : List (Copy CarriedFrame)) → IsMember x xs → x.at < t → IsMember x (older t xs)
in_older t x [] i l = absurd i
in_older t x (y ∷ ys) i l = by_bool (nat_lt y.at t)
    (λ k. rw k i)
    (λ k. rw k (elim i [
      | inl e ↦ absurd (let m = ltb-false y.at t k in let z : x.at ≡ y.at = ap (λ (w : Copy CarriedFrame). w.at) e in omega (arith, l, m, z))
      | inr j ↦ in_older t x ys j l
    ]))

-- TWO RUNS OF A STREAM

-- If two queues had equal inputs before a time, their copies up to this time have equal fates.
older_at : {A : Type 0} (p : Plan A) (xs ys : List Input) (us vs : ℕ → ℕ → List (Copy CarriedFrame)) (t q c : ℕ) → AreTimed xs → AreTimed ys → IsOrdered FollowsInput xs → IsOrdered FollowsInput ys → AreSolo p (input_events xs) us → AreSolo p (input_events ys) vs → below t xs ≡ below t ys → (m : Option (PortPlan A)) → find_port p.ports q ≡ m → older t (us q c) ≡ older t (vs q c)
older_at p xs ys us vs t q c tx ty rx ry a b same None at = ap (older t) (a.others q c at ∙ sym (b.others q c at))
older_at p xs ys us vs t q c tx ty rx ry a b same (Some out) at =
    let one : copy_offers (older t (us q c)) ≡ class_offers c (port_offers p out (input_events (below t xs))) = older_offered t (us q c) ∙ (ap (before t) (a.offers q c out at) ∙ offers_below p out c t xs tx rx) in
    let two : copy_offers (older t (vs q c)) ≡ class_offers c (port_offers p out (input_events (below t ys))) = older_offered t (vs q c) ∙ (ap (before t) (b.offers q c out at) ∙ offers_below p out c t ys ty ry) in
    let both : copy_offers (older t (us q c)) ≡ copy_offers (older t (vs q c)) = one ∙ (ap (λ (zs : List Input). class_offers c (port_offers p out (input_events zs))) same ∙ sym two) in
    one_outcome (egress_rules out) (older t (us q c)) (older t (vs q c)) (same_offers (older t (us q c)) (older t (vs q c)) both) (older_solo (egress_rules out) t (us q c) (a.solo q c out at)) (older_solo (egress_rules out) t (vs q c) (b.solo q c out at))

later_once : (a b : Input) → IsLater a b → IsLater b a → ⊥
later_once a b l m = let x : b.at < a.at = l in let y : a.at < b.at = m in omega (arith, x, y)

module _ {A : Type 0} (n : Network A) (stream : List (ℕ × ℕ)) where
  -- Holds if each hop has equal inputs before time `t` in two runs.
  abbrev Agree : (Hop A → List Input) → (Hop A → List Input) → ℕ → Type 0
  Agree xs ys t = (h : Hop A) → IsHop n stream h → below t (xs h) ≡ below t (ys h)

  module _ (commands : ℕ → List Input) (captures : ℕ → ℕ → List CapturedFrame) (others : ℕ → List Input) (frames : ℕ → ℕ → List CapturedFrame) (tells says : Hop A → Option (View A)) (a : IsAlone n commands captures stream tells) (b : IsAlone n others frames stream says) where
    -- Arrivals over a link up to a time were sent before this time.
    same_reaches : (t : ℕ) → Agree a.own b.own t → (h : Hop A) (q : ℕ) (s : Sender) (z : Input) → z.at ≤ t → ArrivesOverLink n stream a.lists h q s z → ArrivesOverLink n stream b.lists h q s z
    same_reaches t agree h q s z le r =
        let g : Hop A = hop s.from.bridge r.plan r.number r.filter in
        let sent = a.solo g r.is in
        let after : r.copy.at ≤ r.start = solo_after (egress_rules r.out) r.start r.copy (a.lists g s.from.port r.class) (sent.solo s.from.port r.class r.out r.at) r.listed r.started in
        let some : 0 < transmission_time r.copy.item.len r.out.speed = occupied_some r.copy.item.len r.out.speed in
        let at : z.at ≡ r.start + transmission_time r.copy.item.len r.out.speed + s.delay = ap (λ (w : Input). w.at) r.input in
        let early : r.copy.at < t = omega (arith, after, some, at, le) in
        let same : older t (a.lists g s.from.port r.class) ≡ older t (b.lists g s.from.port r.class) = older_at r.plan (a.own g) (b.own g) (a.lists g) (b.lists g) t s.from.port r.class (a.timed g r.is) (b.timed g r.is) (a.order g r.is) (b.order g r.is) sent (b.solo g r.is) (agree g r.is) (find_port r.plan.ports s.from.port) refl in
        record {
          plan = r.plan;
          number = r.number;
          filter = r.filter;
          is = r.is;
          out = r.out;
          at = r.at;
          class = r.class;
          copy = r.copy;
          start = r.start;
          listed = older_in t r.copy (b.lists g s.from.port r.class) (subst (IsMember r.copy) same (in_older t r.copy (a.lists g s.from.port r.class) r.listed early));
          started = r.started;
          input = r.input;
          own = r.own;
        }

  module _ (commands : ℕ → List Input) (captures : ℕ → ℕ → List CapturedFrame) (others : ℕ → List Input) (frames : ℕ → ℕ → List CapturedFrame) (tells says : Hop A → Option (View A)) (a : IsAlone n commands captures stream tells) (b : IsAlone n others frames stream says) (first : HaveSameExternalInputs n stream commands captures others frames) where
    agrees_back : (t : ℕ) → Agree a.own b.own t → Agree b.own a.own t
    agrees_back t agree h is = sym (agree h is)

    rank_same : (t : ℕ) → Agree a.own b.own t → (h : Hop A) → IsHop n stream h → (q : ℕ) (m : Option Sender) → sender n.links h.bridge q ≡ m → below (suc t) (inputs_by_rank q (a.own h)) ≡ below (suc t) (inputs_by_rank q (b.own h))
    rank_same t agree h is q None e = ap (below (suc t)) (a.first h q is e ∙ (first h q is e ∙ sym (b.first h q is e)))
    rank_same t agree h is q (Some s) e =
        let xs = inputs_by_rank q (a.own h) in
        let ys = inputs_by_rank q (b.own h) in
        let rx = a.apart h q s is e in
        let ry = b.apart h q s is e in
        rising_one IsLater later_once (below (suc t) xs) (below (suc t) ys) (rising_below IsLater (suc t) xs rx) (rising_below IsLater (suc t) ys ry)
        (λ z i.
        let l : z.at < suc t = below_lt IsLater falls_later (suc t) z xs rx i in
        let r = (a.next h q s is e z).0 (below_in (suc t) z xs i) in
        in_below (suc t) z ys ((b.next h q s is e z).1 (same_reaches commands captures others frames tells says a b t agree h q s z (omega (arith, l)) r)) l)
        (λ z i.
        let l : z.at < suc t = below_lt IsLater falls_later (suc t) z ys ry i in
        let r = (b.next h q s is e z).0 (below_in (suc t) z ys i) in
        in_below (suc t) z xs ((a.next h q s is e z).1 (same_reaches others frames commands captures says tells b a t (agrees_back t agree) h q s z (omega (arith, l)) r)) l)

    agrees : (t : ℕ) → (h : Hop A) → IsHop n stream h → below t (a.own h) ≡ below t (b.own h)
    agrees zero h is = below_zero (a.own h) ∙ sym (below_zero (b.own h))
    agrees (suc t) h is =
        let xs = a.own h in
        let ys = b.own h in
        one_list (below (suc t) xs) (below (suc t) ys) (rising_below FollowsInput (suc t) xs (a.order h is)) (rising_below FollowsInput (suc t) ys (b.order h is))
        (λ q. rank_below q (suc t) xs (a.order h is) ∙ (rank_same t (agrees t) h is q (sender n.links h.bridge q) refl ∙ sym (rank_below q (suc t) ys (b.order h is))))

    -- Each hop has equal inputs in both runs.
    own_same : (h : Hop A) → IsHop n stream h → a.own h ≡ b.own h
    own_same h is =
        let xs = a.own h in
        let ys = b.own h in
        let t = suc (newest_time xs + newest_time ys) in
        let one : below t xs ≡ xs = below_all t xs (λ y i. let m = newest_most xs (a.order h is) y i in omega (arith, m)) in
        let two : below t ys ≡ ys = below_all t ys (λ y i. let m = newest_most ys (b.order h is) y i in omega (arith, m)) in
        sym one ∙ (agrees t h is ∙ two)

    -- Each hop has equal records in both runs.
    pub one_course : (h : Hop A) (u v : View A) → IsHop n stream h → tells h ≡ Some u → says h ≡ Some v → AreSameViews u v
    one_course h u v is x y =
        let p : IsSoloView h.plan h.number h.filter (input_events (a.own h)) u = record { lists = a.lists h; solo = a.solo h is; view = a.view h u is x } in
        let q : IsSoloView h.plan h.number h.filter (input_events (b.own h)) v = record { lists = b.lists h; solo = b.solo h is; view = b.view h v is y } in
        told_once h.plan h.number h.filter (input_events (b.own h)) u v (subst (λ (zs : List Input). IsSoloView h.plan h.number h.filter (input_events zs) u) (own_same h is) p) q
