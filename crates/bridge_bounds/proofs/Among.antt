-- A filter's copies start in its queues no more often than its stream gate passes frames.
use Rattle.std.proofs.Common.{◌≡◌, ◌<◌, ◌≤◌, ◌-◌, ℕ, Bool, true, false, ◌&&◌, ◌⊎◌, Option, None, Some, List, [], ◌∷◌, ◌++◌, Ok, length, arith, ap, refl, sym, subst, ◌∙◌, inl, inr}
use Rattle.std.specs.Prelude.{map, nat_eq, if◌then◌else◌}
use Rattle.std.proofs.lemmas.Bool.{eqb-true}
use Rattle.std.proofs.lemmas.Option.{same_Some}
use Rattle.bridge_limits.specs.Members.{IsMember}
use Rattle.bridge_limits.proofs.Members.{in_left, in_right}
use Rattle.bridge_limits.proofs.Cases.{by_bool}
use Rattle.bridge_limits.proofs.Orders.{same_eq}
use Rattle.bridge_frame.specs.declared.Head.{Head}
use Rattle.bridge_frame.specs.Frames.{parsed_head, is_tagged}
use Rattle.bridge_forward.specs.Ports.{has_port}
use Rattle.bridge_gate.specs.declared.stream_gate.GateAnswer.{GateAnswer}
use Rattle.bridge_gate.specs.declared.stream_gate.GateAnswer.TheVariants as gate
use Rattle.bridge_gate.specs.Gates as gates
use Rattle.bridge_gate.specs.Gates.{GateStep, Answered, answer}
use Rattle.bridge_filter.specs.declared.FilterInput.{FilterInput}
use Rattle.bridge_filter.specs.declared.Clear.{Clear}
use Rattle.bridge_filter.specs.declared.Clear.TheVariants as clear
use Rattle.bridge_filter.specs.declared.FilterPlan.{FilterPlan}
use Rattle.bridge_filter.specs.declared.Verdict.{Verdict}
use Rattle.bridge_filter.specs.declared.Verdict.TheVariants as verdict
use Rattle.bridge_filter.specs.Verdicts as verdicts
use Rattle.bridge_filter.specs.Verdicts.{Commanded, Judged, PolicePlans, FilterStep, answer_verdict, gate_answer, gate_share, is_above_max, is_blocked, input_step, has_reached_gate, filter_steps, frame_verdict}
use Rattle.bridge_filter.proofs.Members.{one_number}
use Rattle.bridge_filter.proofs.Owned.{flow_listed}
use Rattle.bridge_port.specs.Schedule.{Copy, is_started}
use Rattle.bridge_port.specs.Solo.{class_copies}
use Rattle.bridge_config.specs.declared.ports.PortPlan.{PortPlan}
use Rattle.bridge_config.specs.Model.{Plan}
use Rattle.bridge_config.specs.Rules.{IsPlan, find_port}
use Rattle.bridge_check.specs.Acceptable.{IsAcceptable}
use Rattle.bridge_check.specs.Reach.{reaches_queue}
use Rattle.bridge_check.proofs.Sound.{unrefused}
use Rattle.bridge_semantics.specs.declared.destination.Destination.{Destination}
use Rattle.bridge_semantics.specs.declared.destination.Destination.TheVariants as way
use Rattle.bridge_semantics.specs.Events.{Arrival, Arrived, Cleared, Event, with_input, destination_input, arrival_input, filter_inputs, plan_police, police_steps, frame_destination}
use Rattle.bridge_semantics.specs.Offers.{CarriedFrame, Offer, class_offers, make_offer, verdict_offer, step_offer, destination_offer, copy_offers, port_offers}
use Rattle.bridge_semantics.specs.Runs.{IsRun}
use Rattle.bridge_semantics.proofs.Facts.{own_queues}
use Rattle.bridge_semantics.proofs.Headline.{as_offer}
use Rattle.bridge_semantics.proofs.Offering.{going}
use Rattle.bridge_bounds.specs.GateFrames.{AreSeldom, AreWithinLengths, HaveEtherTypes, LetsFew, count_recent, offer_times, pass_times}
use Rattle.bridge_bounds.proofs.Let.{seldom}
use Rattle.bridge_bounds.proofs.Sizes.{head_read}

-- TIMES AMONG OTHERS

-- Times that occur in a list of times, in order.
abbrev IsAmong : List ℕ → List ℕ → Type 0
IsAmong [] us = Unit {0}
IsAmong (t ∷ ts) [] = ⊥
IsAmong (t ∷ ts) (u ∷ us) = ((t ≡ u) × IsAmong ts us) ⊎ IsAmong (t ∷ ts) us

skips : (u : ℕ) (ts us : List ℕ) → IsAmong ts us → IsAmong ts (u ∷ us)
skips u [] us a = tt
skips u (t ∷ ts) us a = inr a

-- Fewer of these times are recent.
recent_among : (w t : ℕ) (ts us : List ℕ) → IsAmong ts us → count_recent w t ts ≤ count_recent w t us
recent_among w t [] us a = omega arith
recent_among w t (v ∷ ts) [] a = absurd a
recent_among w t (v ∷ ts) (u ∷ us) (inl (same, a)) =
    let rest = recent_among w t ts us a in
    subst (λ (x : ℕ). count_recent w t (v ∷ ts) ≤ count_recent w t (x ∷ us)) same (omega (arith, rest))
recent_among w t (v ∷ ts) (u ∷ us) (inr a) = let rest = recent_among w t (v ∷ ts) us a in omega (arith, rest)

-- These times are as seldom.
seldom_among : (w n : ℕ) (ts us : List ℕ) → IsAmong ts us → AreSeldom w n us → AreSeldom w n ts
seldom_among w n [] us a h = tt
seldom_among w n (t ∷ ts) [] a h = absurd a
seldom_among w n (t ∷ ts) (u ∷ us) (inl (same, a)) h =
    let fewer = recent_among w t ts us a in
    let few : count_recent w t us < n = subst (λ (x : ℕ). count_recent w x us < n) (sym same) h.0 in
    (omega (arith, fewer, few), seldom_among w n ts us a h.1)
seldom_among w n (t ∷ ts) (u ∷ us) (inr a) h = seldom_among w n (t ∷ ts) us a h.1

among_all : (ts us vs : List ℕ) → IsAmong ts us → IsAmong us vs → IsAmong ts vs
among_all [] us vs a b = tt
among_all (t ∷ ts) [] vs a b = absurd a
among_all (t ∷ ts) (u ∷ us) [] a b = absurd b
among_all (t ∷ ts) (u ∷ us) (v ∷ vs) (inl (same, a)) (inl (is, b)) = inl (same ∙ is, among_all ts us vs a b)
among_all (t ∷ ts) (u ∷ us) (v ∷ vs) (inr a) (inl (is, b)) = inr (among_all (t ∷ ts) us vs a b)
among_all (t ∷ ts) (u ∷ us) (v ∷ vs) a (inr b) = inr (among_all (t ∷ ts) (u ∷ us) vs a b)

-- The offer times of a class.
abbrev offered_at : ℕ → List Offer → List ℕ
offered_at c os = map (λ o. o.at) (class_offers c os)

-- The started copies of a class have offer times of the class.
started_among : (c : ℕ) (xs : List (Copy CarriedFrame)) → IsAmong (offer_times (class_copies c xs)) (offered_at c (copy_offers xs))
started_among c [] = tt
started_among c (x ∷ xs) = by_bool (nat_eq x.class c)
    (λ k. by_bool (is_started x.fate)
    (λ m. rw (k, m) (inl (refl, started_among c xs)))
    (λ m. rw (k, m) (skips x.at (offer_times (class_copies c xs)) (offered_at c (copy_offers xs)) (started_among c xs))))
    (λ k. rw k (started_among c xs))

-- An offer of copies is the offer of one copy.
offered_in : (o : Offer) (xs : List (Copy CarriedFrame)) → IsMember o (copy_offers xs) → (x : Copy CarriedFrame) × IsMember x xs × (as_offer x ≡ o)
offered_in o [] i = absurd i
offered_in o (x ∷ xs) (inl same) = (x, inl refl, sym same)
offered_in o (x ∷ xs) (inr later) = let (y, i, same) = offered_in o xs later in (y, inr i, same)

-- ONE FRAME

sdu_by : (b : Bool) (n len : ℕ) → (if b then 18 else 14) ≤ n → n ≤ len → 2 ≤ (if b then len - 16 else len - 12)
sdu_by true n len h k = omega (arith, h, k)
sdu_by false n len h k = omega (arith, h, k)

-- If a frame has at least its captured octets, its service data unit has at least two octets.
head_some : (octets : List ℕ) (len : ℕ) (h : Head) → length octets ≤ len → parsed_head octets len ≡ Ok h → 2 ≤ h.sdu
head_some octets len h within e =
    let read = head_read octets len h e in
    let some = sdu_by (is_tagged octets) (length octets) len read.whole within in
    subst (λ (i : ℕ). 2 ≤ i) read.sdu some

answered : (p : PolicePlans) (ss : List FilterStep) (c : FilterInput) (f : FilterPlan) (a : GateAnswer) (ipv : Option ℕ) (eligible : Bool) → answer_verdict p ss c f a ≡ verdict.Pass ipv eligible → (i : Option ℕ) × (a ≡ gate.Through i)
answered p ss c f (gate.Through i) ipv eligible h = (i, refl)
answered p ss c f gate.Closed ipv eligible h = absurd (cc)
answered p ss c f gate.ShutByRx ipv eligible h = absurd (cc)
answered p ss c f gate.ShutByOctets ipv eligible h = absurd (cc)
answered p ss c f gate.OctetsExceeded ipv eligible h = absurd (cc)

-- The stream gate has passed each frame that passes the filter.
passed_through : (p : PolicePlans) (ss : List FilterStep) (c : FilterInput) (n : ℕ) (f : FilterPlan) (ipv : Option ℕ) (eligible : Bool) → frame_verdict p ss c n f ≡ verdict.Pass ipv eligible → (i : Option ℕ) × (gate_answer p ss c f.gate ≡ gate.Through i)
passed_through p ss c n f ipv eligible h =
    let v = unrefused (f.block_oversize && is_blocked n ss) (is_above_max f.max_sdu c.sdu) (answer_verdict p ss c f (gate_answer p ss c f.gate)) ipv eligible h in
    answered p ss c f (gate_answer p ss c f.gate) ipv eligible v

-- THE FRAMES OF A FILTER

some_number : (m n : ℕ) → ◌≡◌ {A = Option ℕ} (Some m) (Some n) → m ≡ n
some_number m n h = same_Some m n h

no_number : (n : ℕ) → ◌≡◌ {A = Option ℕ} None (Some n) → ⊥
no_number n h = cc

told_skips : (ts : List ℕ) (t n : ℕ) (a : GateAnswer) (ss : List GateStep) → IsAmong ts (pass_times ss) → IsAmong ts (pass_times (Answered t n a ∷ ss))
told_skips ts t n (gate.Through ipv) ss a = skips t ts (pass_times ss) a
told_skips ts t n gate.Closed ss a = a
told_skips ts t n gate.ShutByRx ss a = a
told_skips ts t n gate.ShutByOctets ss a = a
told_skips ts t n gate.OctetsExceeded ss a = a

module _ {A : Type 0} (p : Plan A) (n : ℕ) (f : FilterPlan) (plan : IsPlan p) (listed : IsMember (n, f) p.filters) where
  -- The arrival times of frames that the filter's stream gate passed.
  abbrev let_at : List FilterStep → List ℕ
  let_at ss = pass_times (gates.gate_steps ((plan_police p).gates f.gate) (gate_share f.gate ss))

  -- One frame more keeps the earlier times.
  judged_skips : (ts : List ℕ) (ss : List FilterStep) (c : FilterInput) (m : ℕ) (g : FilterPlan) (v : Verdict) → IsAmong ts (let_at ss) → IsAmong ts (let_at (Judged c m g v ∷ ss))
  judged_skips ts ss c m g v a =
      let r = (plan_police p).gates f.gate in
      let share = gate_share f.gate ss in
      by_bool (nat_eq g.gate f.gate && has_reached_gate v)
      (λ k. rw k (told_skips ts c.at c.sdu (answer r (gates.gate_steps r share) c.at c.sdu) (gates.gate_steps r share) a))
      (λ k. rw k a)

  frame_skips : (ts : List ℕ) (ss : List FilterStep) (c : FilterInput) (x : Option (ℕ × FilterPlan)) → IsAmong ts (let_at ss) → IsAmong ts (let_at (input_step (plan_police p) ss c x ∷ ss))
  frame_skips ts ss c None a = a
  frame_skips ts ss c (Some x) a = judged_skips ts ss c x.0 x.1 (frame_verdict (plan_police p) ss c x.0 x.1) a

  -- A command keeps the times.
  commanded_same : (ts : List ℕ) (ss : List FilterStep) (c : Clear) (m : ℕ) → IsAmong ts (let_at ss) → IsAmong ts (let_at (Commanded c m ∷ ss))
  commanded_same ts ss clear.Blocked m a = a
  commanded_same ts ss clear.Red m a = a
  commanded_same ts ss clear.Rx m a = by_bool (nat_eq m f.gate) (λ k. rw k a) (λ k. rw k a)
  commanded_same ts ss clear.Octets m a = by_bool (nat_eq m f.gate) (λ k. rw k a) (λ k. rw k a)

  module _ (out : PortPlan A) (c : ℕ) where
    -- The stream gate has passed a frame of the filter that passes.
    passed_among : (a : Arrival) (es : List Event) (priority own m : ℕ) (g : FilterPlan) (ipv : Option ℕ) (eligible : Bool) (cl : FilterInput) → cl.at ≡ a.at → IsMember (m, g) p.filters
        → frame_verdict (plan_police p) (police_steps p es) cl m g ≡ verdict.Pass ipv eligible
        → ((make_offer out a priority (Some m) own ipv eligible).class ≡ c → ◌≡◌ {A = Option ℕ} (Some m) (Some n))
        → IsAmong (offered_at c (port_offers p out es)) (let_at (police_steps p es))
        → IsAmong (offered_at c (make_offer out a priority (Some m) own ipv eligible ∷ port_offers p out es)) (let_at (Judged cl m g (verdict.Pass ipv eligible) ∷ police_steps p es))
    passed_among a es priority own m g ipv eligible cl at there passes flows before =
        let o : Offer = make_offer out a priority (Some m) own ipv eligible in
        let ss = police_steps p es in
        by_bool (nat_eq o.class c)
        (λ k.
        let number : m ≡ n = some_number m n (flows (eqb-true o.class c k)) in
        let same : g ≡ f = one_number p.filters n g f plan.filters.own (subst (λ (i : ℕ). IsMember (i, g) p.filters) number there) listed in
        let r = (plan_police p).gates f.gate in
        let (i, passed) = passed_through (plan_police p) ss cl m g ipv eligible passes in
        let through : answer r (gates.gate_steps r (gate_share f.gate ss)) cl.at cl.sdu ≡ gate.Through i = subst (λ (h : FilterPlan). gate_answer (plan_police p) ss cl h.gate ≡ gate.Through i) same passed in
        let own_gate : nat_eq g.gate f.gate ≡ true = subst (λ (h : FilterPlan). nat_eq h.gate f.gate ≡ true) (sym same) (same_eq f.gate) in
        rw (k, own_gate, through) (inl (sym at, before)))
        (λ k. rw k (judged_skips (offered_at c (port_offers p out es)) ss cl m g (verdict.Pass ipv eligible) before))

    -- The offers of the class belong to the filter.
    abbrev AreOwn : List Offer → Type 0
    AreOwn os = (o : Offer) → IsMember o os → o.class ≡ c → o.item.flow ≡ Some n

    verdict_among : (a : Arrival) (es : List Event) (priority own m : ℕ) (g : FilterPlan) (v : Verdict) (cl : FilterInput) → cl.at ≡ a.at → IsMember (m, g) p.filters
        → frame_verdict (plan_police p) (police_steps p es) cl m g ≡ v
        → AreOwn (verdict_offer out a priority m own v)
        → IsAmong (offered_at c (port_offers p out es)) (let_at (police_steps p es))
        → IsAmong (offered_at c (verdict_offer out a priority m own v ++ port_offers p out es)) (let_at (Judged cl m g v ∷ police_steps p es))
    verdict_among a es priority own m g (verdict.Pass ipv e) cl at there is flows before = passed_among a es priority own m g ipv e cl at there is (λ k. flows (make_offer out a priority (Some m) own ipv e) (inl refl) k) before
    verdict_among a es priority own m g verdict.Blocked cl at there is flows before = judged_skips (offered_at c (port_offers p out es)) (police_steps p es) cl m g verdict.Blocked before
    verdict_among a es priority own m g verdict.Oversize cl at there is flows before = judged_skips (offered_at c (port_offers p out es)) (police_steps p es) cl m g verdict.Oversize before
    verdict_among a es priority own m g verdict.GateClosed cl at there is flows before = judged_skips (offered_at c (port_offers p out es)) (police_steps p es) cl m g verdict.GateClosed before
    verdict_among a es priority own m g verdict.ShutByRx cl at there is flows before = judged_skips (offered_at c (port_offers p out es)) (police_steps p es) cl m g verdict.ShutByRx before
    verdict_among a es priority own m g verdict.ShutByOctets cl at there is flows before = judged_skips (offered_at c (port_offers p out es)) (police_steps p es) cl m g verdict.ShutByOctets before
    verdict_among a es priority own m g verdict.OctetsExceeded cl at there is flows before = judged_skips (offered_at c (port_offers p out es)) (police_steps p es) cl m g verdict.OctetsExceeded before
    verdict_among a es priority own m g verdict.Red cl at there is flows before = judged_skips (offered_at c (port_offers p out es)) (police_steps p es) cl m g verdict.Red before
    verdict_among a es priority own m g verdict.YellowDropped cl at there is flows before = judged_skips (offered_at c (port_offers p out es)) (police_steps p es) cl m g verdict.YellowDropped before

    -- The stream gate has passed each frame that is offered in the class.
    step_among : (a : Arrival) (es : List Event) (priority : ℕ) (cl : FilterInput) (x : Option (ℕ × FilterPlan)) → cl.at ≡ a.at → verdicts.frame_filter p.filters cl ≡ x
        → AreOwn (step_offer p out a es priority (input_step (plan_police p) (police_steps p es) cl x))
        → IsAmong (offered_at c (port_offers p out es)) (let_at (police_steps p es))
        → IsAmong (offered_at c (step_offer p out a es priority (input_step (plan_police p) (police_steps p es) cl x) ++ port_offers p out es)) (let_at (input_step (plan_police p) (police_steps p es) cl x ∷ police_steps p es))
    step_among a es priority cl None at is flows before =
        let o : Offer = make_offer out a priority None 0 None false in
        by_bool (nat_eq o.class c)
        (λ k. absurd (no_number n (flows o (inl refl) (eqb-true o.class c k))))
        (λ k. rw k before)
    step_among a es priority cl (Some x) at is flows before = verdict_among a es priority _ x.0 x.1 (frame_verdict (plan_police p) (police_steps p es) cl x.0 x.1) cl at (flow_listed p.filters cl x is) refl flows before

    way_among : (a : Arrival) (es : List Event) (w : Destination) → frame_destination p a ≡ w → AreOwn (destination_offer p out a es w) → IsAmong (offered_at c (port_offers p out es)) (let_at (police_steps p es))
        → IsAmong (offered_at c (destination_offer p out a es w ++ port_offers p out es)) (let_at (filter_steps (plan_police p) (with_input (destination_input w) (filter_inputs p es))))
    way_among a es way.Malformed w flows before = before
    way_among a es way.Nowhere w flows before = before
    way_among a es (way.Forwarded set cl) w flows before = by_bool (has_port set out.number)
        (λ k.
        let own : AreOwn (step_offer p out a es cl.priority (input_step (plan_police p) (police_steps p es) cl (verdicts.frame_filter p.filters cl))) = rw k at flows in
        let at : cl.at ≡ a.at = sym (ap (λ (z : FilterInput). z.at) (going p a set cl w).call_is) in
        rw k (step_among a es cl.priority cl (verdicts.frame_filter p.filters cl) at refl own before))
        (λ k. rw k (frame_skips (offered_at c (port_offers p out es)) (police_steps p es) cl (verdicts.frame_filter p.filters cl) before))

    -- The offer times of the class are times at which the stream gate passed a frame.
    offers_among : (es : List Event) → AreOwn (port_offers p out es) → IsAmong (offered_at c (port_offers p out es)) (let_at (police_steps p es))
    offers_among [] flows = tt
    offers_among (Cleared d m ∷ es) flows = commanded_same (offered_at c (port_offers p out es)) (police_steps p es) d m (offers_among es flows)
    offers_among (Arrived a ∷ es) flows =
        way_among a es (frame_destination p a) refl
        (λ o i. flows o (in_left o (destination_offer p out a es (frame_destination p a)) (port_offers p out es) i))
        (offers_among es (λ o i. flows o (in_right o (destination_offer p out a es (frame_destination p a)) (port_offers p out es) i)))

  -- Each frame at a stream gate has the two octets of an EtherType.
  call_types : (a : Arrival) (cl : FilterInput) (w : Destination) → length a.octets ≤ a.len → frame_destination p a ≡ w → destination_input w ≡ Some cl → 2 ≤ cl.sdu
  call_types a cl way.Malformed within w h = absurd (cc)
  call_types a cl way.Nowhere within w h = absurd (cc)
  call_types a cl (way.Forwarded set made) within w h =
      let g = going p a set made w in
      subst (λ (z : FilterInput). 2 ≤ z.sdu) (g.call_is ∙ same_Some made cl h) (head_some a.octets a.len g.parsed within g.is)

  judged_types : (ss : List FilterStep) (cl : FilterInput) (x : Option (ℕ × FilterPlan)) → 2 ≤ cl.sdu → HaveEtherTypes (gate_share f.gate ss) → HaveEtherTypes (gate_share f.gate (input_step (plan_police p) ss cl x ∷ ss))
  judged_types ss cl None some before = before
  judged_types ss cl (Some x) some before = by_bool (nat_eq x.1.gate f.gate && has_reached_gate (frame_verdict (plan_police p) ss cl x.0 x.1)) (λ k. rw k (some, before)) (λ k. rw k before)

  commanded_types : (ss : List FilterStep) (c : Clear) (m : ℕ) → HaveEtherTypes (gate_share f.gate ss) → HaveEtherTypes (gate_share f.gate (Commanded c m ∷ ss))
  commanded_types ss clear.Blocked m before = before
  commanded_types ss clear.Red m before = before
  commanded_types ss clear.Rx m before = by_bool (nat_eq m f.gate) (λ k. rw k before) (λ k. rw k before)
  commanded_types ss clear.Octets m before = by_bool (nat_eq m f.gate) (λ k. rw k before) (λ k. rw k before)

  called_types : (a : Arrival) (es : List Event) (o : Option FilterInput) → length a.octets ≤ a.len → arrival_input p a ≡ o → HaveEtherTypes (gate_share f.gate (police_steps p es)) → HaveEtherTypes (gate_share f.gate (filter_steps (plan_police p) (with_input o (filter_inputs p es))))
  called_types a es None within is before = before
  called_types a es (Some cl) within is before = judged_types (police_steps p es) cl (verdicts.frame_filter p.filters cl) (call_types a cl (frame_destination p a) within refl is) before

  share_types : (es : List Event) → AreWithinLengths es → HaveEtherTypes (gate_share f.gate (police_steps p es))
  share_types [] within = tt
  share_types (Cleared c m ∷ es) within = commanded_types (police_steps p es) c m (share_types es within)
  share_types (Arrived a ∷ es) within = called_types a es (arrival_input p a) within.0 refl (share_types es within.1)

  -- In any `w` ns, at most `k` copies of the filter's queue are offered that start.
  pub started_seldom : (q c k w : ℕ) (out : PortPlan A) (es : List Event) (moments : ℕ → ℕ) (lists : ℕ → List (Copy CarriedFrame)) → IsAcceptable p → f.protected ≡ true → IsRun p es moments lists → AreWithinLengths es → find_port p.ports q ≡ Some out → reaches_queue p f q c ≡ true
      → LetsFew ((plan_police p).gates f.gate).turn_at k w → AreSeldom w k (offer_times (class_copies c (lists q)))
  started_seldom q c k w out es moments lists good is run within at reach few =
      let same : copy_offers (lists q) ≡ port_offers p out es = run.offers q out at in
      let own : (o : Offer) → IsMember o (port_offers p out es) → o.class ≡ c → o.item.flow ≡ Some n = λ o i class.
      let (x, there, same_offer) = offered_in o (lists q) (subst (IsMember o) (sym same) i) in
      let here : reaches_queue p f q x.class ≡ true = subst (λ (d : ℕ). reaches_queue p f q d ≡ true) (sym (ap (λ (z : Offer). z.class) same_offer ∙ class)) reach in
      sym (ap (λ (z : Offer). z.item.flow) same_offer) ∙ (own_queues p n f es moments lists q out x plan good listed is run at there).1 here in
      let among : IsAmong (offer_times (class_copies c (lists q))) (offered_at c (port_offers p out es)) = subst (λ (os : List Offer). IsAmong (offer_times (class_copies c (lists q))) (offered_at c os)) same (started_among c (lists q)) in
      let moments_let = let_at (police_steps p es) in
      seldom_among w k (offer_times (class_copies c (lists q))) moments_let
      (among_all (offer_times (class_copies c (lists q))) (offered_at c (port_offers p out es)) moments_let among (offers_among out c es own))
      (seldom ((plan_police p).gates f.gate) k w few (gate_share f.gate (police_steps p es)) (share_types es within))
