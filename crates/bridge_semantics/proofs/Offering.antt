-- Copies that a filter's own events offer.
use Rattle.std.proofs.Common.{◌≡◌, ◌+◌, ◌≤◌, ℕ, Bool, true, List, [], ◌∷◌, ◌++◌, refl, ap, ◌∙◌, sym, subst, inl, inr, Option, Some, None, Result, Ok, Err}
use Rattle.std.specs.Prelude.{if◌then◌else◌, nat_eq}
use Rattle.std.proofs.lemmas.Option.{same_Some}
use Rattle.std.proofs.lemmas.Bool.{eqb-true, eqb-false}
use Rattle.bridge_limits.specs.Members.{IsMember}
use Rattle.bridge_limits.proofs.Members.{in_either}
use Rattle.bridge_limits.proofs.Cases.{by_bool}
use Rattle.bridge_frame.specs.declared.Head.{Head}
use Rattle.bridge_frame.specs.declared.FrameFault.{FrameFault}
use Rattle.bridge_frame.specs.Frames.{parsed_head}
use Rattle.bridge_forward.specs.Ports.{has_port}
use Rattle.bridge_forward.specs.Forward.{forward}
use Rattle.bridge_filter.specs.declared.FilterInput.{FilterInput}
use Rattle.bridge_filter.specs.declared.FilterPlan.{FilterPlan}
use Rattle.bridge_filter.specs.declared.Verdict.{Verdict}
use Rattle.bridge_filter.specs.declared.Verdict.TheVariants as verdict
use Rattle.bridge_filter.specs.Verdicts as verdicts
use Rattle.bridge_filter.specs.OwnEvents.{is_own_command, own_steps}
use Rattle.bridge_filter.proofs.Owned.{differs, flow_listed, told_listed, verdict_own}
use Rattle.bridge_config.specs.declared.ports.PortPlan.{PortPlan}
use Rattle.bridge_config.specs.Model.{Plan}
use Rattle.bridge_config.specs.Rules.{IsPlan, find_port}
use Rattle.bridge_check.specs.Reach.{reaches_queue}
use Rattle.bridge_check.specs.FrameInput as sending
use Rattle.bridge_check.specs.FrameInput.{frame_vid, frame_priority, frame_class}
use Rattle.bridge_check.proofs.Sound.{sound, filtered}
use Rattle.bridge_semantics.specs.declared.destination.Destination.{Destination}
use Rattle.bridge_semantics.specs.declared.destination.Destination.TheVariants.{Malformed, Nowhere, Forwarded}
use Rattle.bridge_semantics.specs.Events.{Arrival, Event, Arrived, Cleared, frame_destination, port_destination, optional_port_destination, metered_octets, destination_input, arrival_input, filter_inputs, plan_police, police_steps, own_events, count_filter_frames}
use Rattle.bridge_semantics.specs.Offers.{Offer, verdict_offer, step_offer, frame_step, destination_offer, arrival_offer, port_offers, class_offers}
use Rattle.bridge_frame.proofs.Heads.{head_few}
use Rattle.bridge_filter.proofs.Members.{one_number}
use Rattle.bridge_config.proofs.PlanPorts.{port_is}
use Rattle.bridge_check.proofs.Heads.{priority_few}
use Rattle.bridge_semantics.proofs.Safe.{IsSafe, alone, apart}
use Rattle.bridge_semantics.proofs.Steps.{steps_own, count_own}

-- THE DESTINATION OF A FRAME

-- Holds if a forwarded frame has an ingress port and a header that give these egress ports and this filter data.
pub record IsGoing {A : Type 0} (p : Plan A) (a : Arrival) (set : ℕ) (c : FilterInput) : Type 0 where
  pub on : PortPlan A
  pub parsed : Head
  pub at_port : find_port p.ports a.port ≡ Some on
  pub is : parsed_head a.octets a.len ≡ Ok parsed
  pub set_is : forward p.database on.number (frame_vid on parsed.tag) parsed.da ≡ set
  pub call_is : sending.frame_input p on a.at parsed (metered_octets a.len) ≡ c

same_way : (s t : ℕ) (b c : FilterInput) → Forwarded s b ≡ Forwarded t c → (s ≡ t) × (b ≡ c)
same_way s t b c h = (cc, cc)

going_on : {A : Type 0} (p : Plan A) (a : Arrival) (set : ℕ) (c : FilterInput) (on : PortPlan A) (r : Result Head FrameFault) → find_port p.ports a.port ≡ Some on → parsed_head a.octets a.len ≡ r → port_destination p on a r ≡ Forwarded set c → IsGoing p a set c
going_on p a set c on (Err e) there is w = absurd (cc)
going_on p a set c on (Ok h) there is w = by_bool (nat_eq (forward p.database on.number (frame_vid on h.tag) h.da) 0)
    (λ k. let z : Nowhere ≡ Forwarded set c = rw k at w in absurd (cc))
    (λ k.
    let z : Forwarded (forward p.database on.number (frame_vid on h.tag) h.da) (sending.frame_input p on a.at h (metered_octets a.len)) ≡ Forwarded set c = rw k at w in
    let (goes, called) = same_way _ _ _ _ z in
    record { on = on; parsed = h; at_port = there; is = is; set_is = goes; call_is = called })

going_if : {A : Type 0} (p : Plan A) (a : Arrival) (set : ℕ) (c : FilterInput) (o : Option (PortPlan A)) → find_port p.ports a.port ≡ o → optional_port_destination p o a (parsed_head a.octets a.len) ≡ Forwarded set c → IsGoing p a set c
going_if p a set c None there w = absurd (cc)
going_if p a set c (Some on) there w = going_on p a set c on (parsed_head a.octets a.len) there refl w

pub going : {A : Type 0} (p : Plan A) (a : Arrival) (set : ℕ) (c : FilterInput) → frame_destination p a ≡ Forwarded set c → IsGoing p a set c
going p a set c w = going_if p a set c (find_port p.ports a.port) refl w

-- THE OFFERS OF A FRAME

-- Holds if offer `o` comes from a frame of filter `x`, with the filter's next frame number.
pub record SentBy {A : Type 0} (p : Plan A) (out : PortPlan A) (es : List Event) (x : ℕ × FilterPlan) (o : Offer) : Type 0 where
  pub flow : o.item.flow ≡ Some x.0
  pub own : o.item.own ≡ count_filter_frames p x.0 es + 1
  pub reaches : reaches_queue p x.1 out.number o.class ≡ true

-- Holds if offer `o` comes from a frame that its filter passed.
record IsPassed {A : Type 0} (out : PortPlan A) (priority n number : ℕ) (v : Verdict) (o : Offer) : Type 0 where
  ipv : Option ℕ
  eligible : Bool
  verdict : v ≡ verdict.Pass ipv eligible
  flow : o.item.flow ≡ Some n
  own : o.item.own ≡ number
  class : o.class ≡ frame_class out ipv priority

by_verdict : {A : Type 0} (out : PortPlan A) (a : Arrival) (priority n number : ℕ) (v : Verdict) (o : Offer) → IsMember o (verdict_offer out a priority n number v) → IsPassed out priority n number v o
by_verdict out a priority n number (verdict.Pass ipv e) o (inl same) = record { ipv = ipv; eligible = e; verdict = refl; flow = ap (λ z. z.item.flow) same; own = ap (λ z. z.item.own) same; class = ap (λ z. z.class) same }
by_verdict out a priority n number (verdict.Pass ipv e) o (inr i) = absurd i
by_verdict out a priority n number verdict.Blocked o i = absurd i
by_verdict out a priority n number verdict.Oversize o i = absurd i
by_verdict out a priority n number verdict.GateClosed o i = absurd i
by_verdict out a priority n number verdict.ShutByRx o i = absurd i
by_verdict out a priority n number verdict.ShutByOctets o i = absurd i
by_verdict out a priority n number verdict.OctetsExceeded o i = absurd i
by_verdict out a priority n number verdict.Red o i = absurd i
by_verdict out a priority n number verdict.YellowDropped o i = absurd i

-- A passed frame enters a reachable queue of its filter.
reached : {A : Type 0} (p : Plan A) (out on : PortPlan A) (h : Head) (at octets n : ℕ) (f : FilterPlan) (ss : List verdicts.FilterStep) (ipv : Option ℕ) (eligible : Bool) (c : FilterInput) (set : ℕ)
    → IsPlan p
    → find_port p.ports out.number ≡ Some out
    → frame_priority on h.tag ≤ 7
    → forward p.database on.number (frame_vid on h.tag) h.da ≡ set
    → has_port set out.number ≡ true
    → sending.frame_input p on at h octets ≡ c
    → verdicts.frame_filter p.filters c ≡ Some (n, f)
    → verdicts.frame_verdict (plan_police p) ss c n f ≡ verdict.Pass ipv eligible
    → reaches_queue p f out.number (frame_class out ipv c.priority) ≡ true
reached p out on h at octets n f ss ipv eligible c set plan there few goes sent same =
    let going : has_port (forward p.database on.number (frame_vid on h.tag) h.da) out.number ≡ true = subst (λ (z : ℕ). has_port z out.number ≡ true) (sym goes) sent in
    subst (λ (z : FilterInput). verdicts.frame_filter p.filters z ≡ Some (n, f) → verdicts.frame_verdict (plan_police p) ss z n f ≡ verdict.Pass ipv eligible → reaches_queue p f out.number (frame_class out ipv z.priority) ≡ true) same
    (λ flows passes. sound p on out h at octets n f ss ipv eligible plan there few going flows passes)

by_way : {A : Type 0} (p : Plan A) (out : PortPlan A) (a : Arrival) (es : List Event) (w : Destination) (c : FilterInput) (x : ℕ × FilterPlan) (o : Offer) → IsPlan p → find_port p.ports out.number ≡ Some out → frame_destination p a ≡ w → destination_input w ≡ Some c → verdicts.frame_filter p.filters c ≡ Some x → IsMember o (destination_offer p out a es w) → SentBy p out es x o
by_way p out a es Malformed c x o plan there w q fl i = absurd i
by_way p out a es Nowhere c x o plan there w q fl i = absurd i
by_way {A} p out a es (Forwarded set made) c x o plan there w q fl i = by_bool (has_port set out.number)
    (λ k.
    let flow_is : verdicts.frame_filter p.filters made ≡ Some x = subst (λ (z : FilterInput). verdicts.frame_filter p.filters z ≡ Some x) (sym (same_Some made c q)) fl in
    let j : IsMember o (step_offer p out a es made.priority (verdicts.input_step (plan_police p) (police_steps p es) made (verdicts.frame_filter p.filters made))) = rw k at i in
    let j2 : IsMember o (verdict_offer out a made.priority x.0 (count_filter_frames p x.0 es + 1) (verdicts.frame_verdict (plan_police p) (police_steps p es) made x.0 x.1)) = subst (λ (z : Option (ℕ × FilterPlan)). IsMember o (step_offer p out a es made.priority (verdicts.input_step (plan_police p) (police_steps p es) made z))) flow_is j in
    let r = by_verdict out a made.priority x.0 (count_filter_frames p x.0 es + 1) (verdicts.frame_verdict (plan_police p) (police_steps p es) made x.0 x.1) o j2 in
    let g = going p a set made w in
    let few : frame_priority g.on g.parsed.tag ≤ 7 = priority_few g.on g.parsed.tag (port_is p.ports a.port g.on plan.ports g.at_port).0 (head_few a.octets a.len g.parsed g.is) in
    let reach = reached p out g.on g.parsed a.at (metered_octets a.len) x.0 x.1 (police_steps p es) r.ipv r.eligible made set plan there few g.set_is k g.call_is flow_is r.verdict in
    record { flow = r.flow; own = r.own; reaches = subst (λ (z : ℕ). reaches_queue p x.1 out.number z ≡ true) (sym r.class) reach })
    (λ k. let j : ⊥ = rw k at i in absurd j)

pub offered_by : {A : Type 0} (p : Plan A) (out : PortPlan A) (a : Arrival) (es : List Event) (c : FilterInput) (x : ℕ × FilterPlan) (o : Offer) → IsPlan p → find_port p.ports out.number ≡ Some out → arrival_input p a ≡ Some c → verdicts.frame_filter p.filters c ≡ Some x → IsMember o (arrival_offer p out a es) → SentBy p out es x o
offered_by p out a es c x o plan there q fl i = by_way p out a es (frame_destination p a) c x o plan there refl q fl i

none_on : {A : Type 0} (p : Plan A) (out : PortPlan A) (a : Arrival) (es : List Event) (w : Destination) → destination_input w ≡ None → destination_offer p out a es w ≡ []
none_on p out a es Malformed q = refl
none_on p out a es Nowhere q = refl
none_on p out a es (Forwarded set c) q = absurd (cc)

pub none_offered : {A : Type 0} (p : Plan A) (out : PortPlan A) (a : Arrival) (es : List Event) → arrival_input p a ≡ None → arrival_offer p out a es ≡ []
none_offered p out a es q = none_on p out a es (frame_destination p a) q

-- THE OFFERS OF ALL EVENTS

-- Holds if offer `o` has a filter of the plan, and its queue is reachable for this filter.
pub record IsSent {A : Type 0} (p : Plan A) (out : PortPlan A) (o : Offer) : Type 0 where
  pub number : ℕ
  pub filter : FilterPlan
  pub flow : o.item.flow ≡ Some number
  pub listed : IsMember (number, filter) p.filters
  pub reaches : reaches_queue p filter out.number o.class ≡ true

arrived_sent : {A : Type 0} (p : Plan A) (s : ℕ) (f : FilterPlan) (out : PortPlan A) → IsSafe p s f → find_port p.ports out.number ≡ Some out → (a : Arrival) (es : List Event) (o : Offer) (m : Option FilterInput) → arrival_input p a ≡ m → IsMember o (arrival_offer p out a es) → IsSent p out o
arrived_sent p s f out safe there a es o None e i = let z : ⊥ = subst (IsMember o) (none_offered p out a es e) i in absurd z
arrived_sent p s f out safe there a es o (Some c) e i =
    let (x, fl) = filtered p s f c safe.plan safe.listed safe.passes in
    let t = offered_by p out a es c x o safe.plan there e fl i in
    record { number = x.0; filter = x.1; flow = t.flow; listed = flow_listed p.filters c x fl; reaches = t.reaches }

-- Every offer has a filter, and its queue is reachable for this filter.
pub sent : {A : Type 0} (p : Plan A) (s : ℕ) (f : FilterPlan) (out : PortPlan A) → IsSafe p s f → find_port p.ports out.number ≡ Some out → (es : List Event) → (o : Offer) → IsMember o (port_offers p out es) → IsSent p out o
sent p s f out safe there [] o i = absurd i
sent p s f out safe there (Cleared clear n ∷ es) o i = sent p s f out safe there es o i
sent p s f out safe there (Arrived a ∷ es) o i = elim (in_either o (arrival_offer p out a es) (port_offers p out es) i) [
  | inl now ↦ arrived_sent p s f out safe there a es o (arrival_input p a) refl now
  | inr later ↦ sent p s f out safe there es o later
]

-- REACHABLE CLASSES

pub in_class_join : (c : ℕ) (xs ys : List Offer) → class_offers c (xs ++ ys) ≡ class_offers c xs ++ class_offers c ys
in_class_join c [] ys = refl
in_class_join c (x ∷ xs) ys = by_bool (nat_eq x.class c) (λ k. rw (k, in_class_join c xs ys) refl) (λ k. rw k (in_class_join c xs ys))

none_in_class : (c : ℕ) (xs : List Offer) → ((o : Offer) → IsMember o xs → o.class ≡ c → ⊥) → class_offers c xs ≡ []
none_in_class c [] h = refl
none_in_class c (x ∷ xs) h = rw (differs x.class c (h x (inl refl))) (none_in_class c xs (λ o i e. h o (inr i) e))

by_count : {A : Type 0} (p : Plan A) (out : PortPlan A) (a : Arrival) (priority n k m : ℕ) (v u : Verdict) → k ≡ m → v ≡ u → verdict_offer out a priority n k v ≡ verdict_offer out a priority n m u
by_count p out a priority n k m v u e d = ap (λ (z : ℕ). verdict_offer out a priority n z v) e ∙ ap (λ (z : Verdict). verdict_offer out a priority n m z) d

-- A frame of the filter gets an equal verdict and an equal frame number if only its own events precede it.
step_same : {A : Type 0} (p : Plan A) (s : ℕ) (f : FilterPlan) (out : PortPlan A) → IsSafe p s f → (a : Arrival) (es : List Event) (priority : ℕ) (c : FilterInput) (x : ℕ × FilterPlan) → verdicts.frame_filter p.filters c ≡ Some x → x.0 ≡ s → step_offer p out a (own_events p s f es) priority (frame_step p (own_events p s f es) c) ≡ step_offer p out a es priority (frame_step p es c)
step_same {A} p s f out safe a es priority c x fl same =
    let there : IsMember x p.filters = flow_listed p.filters c x fl in
    let g : f ≡ x.1 = one_number p.filters s f x.1 safe.plan.filters.own safe.listed (subst (λ (n : ℕ). IsMember (n, x.1) p.filters) same there) in
    let v : verdicts.frame_verdict (plan_police p) (own_steps s f (police_steps p es)) c s f ≡ verdicts.frame_verdict (plan_police p) (police_steps p es) c s f = verdict_own (plan_police p) s f (apart p s f safe) (police_steps p es) (told_listed (plan_police p) (filter_inputs p es)) c in
    let own_v : verdicts.frame_verdict (plan_police p) (police_steps p (own_events p s f es)) c s f ≡ verdicts.frame_verdict (plan_police p) (police_steps p es) c s f = ap (λ (ss : List verdicts.FilterStep). verdicts.frame_verdict (plan_police p) ss c s f) (steps_own p s f (apart p s f safe) es) ∙ v in
    let both : (n : ℕ) (h : FilterPlan) → s ≡ n → f ≡ h → verdicts.frame_verdict (plan_police p) (police_steps p (own_events p s f es)) c n h ≡ verdicts.frame_verdict (plan_police p) (police_steps p es) c n h = λ n h q r. subst (λ (m : ℕ). verdicts.frame_verdict (plan_police p) (police_steps p (own_events p s f es)) c m h ≡ verdicts.frame_verdict (plan_police p) (police_steps p es) c m h) q (subst (λ (k : FilterPlan). verdicts.frame_verdict (plan_police p) (police_steps p (own_events p s f es)) c s k ≡ verdicts.frame_verdict (plan_police p) (police_steps p es) c s k) r own_v) in
    let numbers : count_filter_frames p x.0 (own_events p s f es) + 1 ≡ count_filter_frames p x.0 es + 1 = subst (λ (n : ℕ). count_filter_frames p n (own_events p s f es) + 1 ≡ count_filter_frames p n es + 1) (sym same) (ap (λ (n : ℕ). n + 1) (count_own p s f es)) in
    let one : step_offer p out a (own_events p s f es) priority (frame_step p (own_events p s f es) c) ≡ verdict_offer out a priority x.0 (count_filter_frames p x.0 (own_events p s f es) + 1) (verdicts.frame_verdict (plan_police p) (police_steps p (own_events p s f es)) c x.0 x.1) = ap (λ (z : Option (ℕ × FilterPlan)). step_offer p out a (own_events p s f es) priority (verdicts.input_step (plan_police p) (police_steps p (own_events p s f es)) c z)) fl in
    let two : step_offer p out a es priority (frame_step p es c) ≡ verdict_offer out a priority x.0 (count_filter_frames p x.0 es + 1) (verdicts.frame_verdict (plan_police p) (police_steps p es) c x.0 x.1) = ap (λ (z : Option (ℕ × FilterPlan)). step_offer p out a es priority (verdicts.input_step (plan_police p) (police_steps p es) c z)) fl in
    one ∙ (by_count p out a priority x.0 _ _ _ _ numbers (both x.0 x.1 (sym same) g) ∙ sym two)

same_on : {A : Type 0} (p : Plan A) (s : ℕ) (f : FilterPlan) (out : PortPlan A) → IsSafe p s f → (a : Arrival) (es : List Event) (w : Destination) (c : FilterInput) (x : ℕ × FilterPlan) → destination_input w ≡ Some c → verdicts.frame_filter p.filters c ≡ Some x → x.0 ≡ s → destination_offer p out a (own_events p s f es) w ≡ destination_offer p out a es w
same_on p s f out safe a es Malformed c x q fl same = refl
same_on p s f out safe a es Nowhere c x q fl same = refl
same_on p s f out safe a es (Forwarded set made) c x q fl same =
    let flow_is : verdicts.frame_filter p.filters made ≡ Some x = subst (λ (z : FilterInput). verdicts.frame_filter p.filters z ≡ Some x) (sym (same_Some made c q)) fl in
    ap (λ (os : List Offer). if has_port set out.number then os else []) (step_same p s f out safe a es made.priority made x flow_is same)

arrived_own : {A : Type 0} (p : Plan A) (s : ℕ) (f : FilterPlan) (out : PortPlan A) → IsSafe p s f → find_port p.ports out.number ≡ Some out → (k : ℕ) → reaches_queue p f out.number k ≡ true → (a : Arrival) (es : List Event) → class_offers k (port_offers p out (own_events p s f es)) ≡ class_offers k (port_offers p out es) → (m : Option FilterInput) → arrival_input p a ≡ m → class_offers k (port_offers p out (own_events p s f (Arrived a ∷ es))) ≡ class_offers k (port_offers p out (Arrived a ∷ es))
arrived_own p s f out safe there k r a es ih None e =
    let left : own_events p s f (Arrived a ∷ es) ≡ own_events p s f es = rw e refl in
    ap (λ (ds : List Event). class_offers k (port_offers p out ds)) left ∙ (ih ∙ sym (ap (λ (os : List Offer). class_offers k (os ++ port_offers p out es)) (none_offered p out a es e)))
arrived_own {A} p s f out safe there k r a es ih (Some c) e =
    let (x, fl) = filtered p s f c safe.plan safe.listed safe.passes in
    by_bool (nat_eq x.0 s)
    (λ y.
    let same : arrival_offer p out a (own_events p s f es) ≡ arrival_offer p out a es = same_on p s f out safe a es (frame_destination p a) c x e fl (eqb-true x.0 s y) in
    let keep : own_events p s f (Arrived a ∷ es) ≡ Arrived a ∷ own_events p s f es = rw (e, fl, y) refl in
    ap (λ (ds : List Event). class_offers k (port_offers p out ds)) keep ∙ (in_class_join k (arrival_offer p out a (own_events p s f es)) (port_offers p out (own_events p s f es)) ∙ (ap (λ (os : List Offer). class_offers k os ++ class_offers k (port_offers p out (own_events p s f es))) same ∙ (ap (λ (os : List Offer). class_offers k (arrival_offer p out a es) ++ os) ih ∙ sym (in_class_join k (arrival_offer p out a es) (port_offers p out es))))))
    (λ y.
    let foreign : class_offers k (arrival_offer p out a es) ≡ [] = none_in_class k (arrival_offer p out a es) (λ o i d.
    let t = offered_by p out a es c x o safe.plan there e fl i in
    eqb-false x.0 s y ((alone p s f safe).queue x.0 out.number k x.1 (flow_listed p.filters c x fl) r (subst (λ (z : ℕ). reaches_queue p x.1 out.number z ≡ true) d t.reaches))) in
    let left : own_events p s f (Arrived a ∷ es) ≡ own_events p s f es = rw (e, fl, y) refl in
    ap (λ (ds : List Event). class_offers k (port_offers p out ds)) left ∙ (ih ∙ sym (in_class_join k (arrival_offer p out a es) (port_offers p out es) ∙ ap (λ (os : List Offer). os ++ class_offers k (port_offers p out es)) foreign)))

-- The offers in a reachable class are those of the filter's own events.
pub offers_own : {A : Type 0} (p : Plan A) (s : ℕ) (f : FilterPlan) (out : PortPlan A) → IsSafe p s f → find_port p.ports out.number ≡ Some out → (k : ℕ) → reaches_queue p f out.number k ≡ true → (es : List Event) → class_offers k (port_offers p out (own_events p s f es)) ≡ class_offers k (port_offers p out es)
offers_own p s f out safe there k r [] = refl
offers_own p s f out safe there k r (Arrived a ∷ es) = arrived_own p s f out safe there k r a es (offers_own p s f out safe there k r es) (arrival_input p a) refl
offers_own p s f out safe there k r (Cleared clear n ∷ es) = by_bool (is_own_command s f clear n) (λ y. rw y (offers_own p s f out safe there k r es)) (λ y. rw y (offers_own p s f out safe there k r es))
