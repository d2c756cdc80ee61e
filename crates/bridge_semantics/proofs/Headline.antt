-- A protected filter's own events determine its record in a run.
use Rattle.std.proofs.Common.{◌≡◌, ℕ, true, List, [], ◌∷◌, ◌++◌, refl, ap, append-nil, ◌∙◌, sym, subst, ◌⊎◌, inl, inr, Option, Some, None}
use Rattle.std.specs.Prelude.{nat_eq}
use Rattle.std.specs.Map.{lookup}
use Rattle.std.proofs.lemmas.Option.{same_Some}
use Rattle.std.proofs.lemmas.Bool.{eqb-true, eqb-false}
use Rattle.bridge_limits.specs.Members.{IsMember}
use Rattle.bridge_limits.proofs.Members.{in_either}
use Rattle.bridge_limits.proofs.Cases.{by_bool}
use Rattle.bridge_frame.proofs.Times.{occupied_some}
use Rattle.bridge_filter.specs.declared.FilterInput.{FilterInput}
use Rattle.bridge_filter.specs.declared.FilterPlan.{FilterPlan}
use Rattle.bridge_filter.specs.Verdicts as verdicts
use Rattle.bridge_filter.specs.Verdicts.{FilterStep}
use Rattle.bridge_filter.specs.Counts.{filter_verdicts, verdict_counters, filter_flags, filter_buckets}
use Rattle.bridge_filter.specs.OwnEvents.{HasOwnInstances, own_steps, is_own_command, is_filter_number}
use Rattle.bridge_filter.proofs.Owned.{AreListed, told_listed}
use Rattle.bridge_port.specs.Schedule.{Copy}
use Rattle.bridge_port.specs.Solo.{class_copies, IsSolo}
use Rattle.bridge_port.proofs.Isolation.{solo}
use Rattle.bridge_config.specs.declared.ports.PortPlan.{PortPlan}
use Rattle.bridge_config.specs.Model.{Plan}
use Rattle.bridge_config.specs.Rules.{IsPlan, find_port}
use Rattle.bridge_check.specs.Acceptable.{IsAcceptable}
use Rattle.bridge_check.specs.Reach.{reaches_queue}
use Rattle.bridge_semantics.specs.declared.outcome.View.{View}
use Rattle.bridge_semantics.specs.declared.outcome.Outcome.{Outcome}
use Rattle.bridge_semantics.specs.Events.{Arrival, Event, Arrived, Cleared, plan_police, arrival_input, filter_inputs, police_steps, arrival_filter, filter_origins, own_events}
use Rattle.bridge_semantics.specs.Offers.{CarriedFrame, Offer, egress_rules, arrival_offer, port_offers, copy_offers, class_offers}
use Rattle.bridge_semantics.specs.Runs.{IsFilterDelay, IsFilterView, IsRun, AreFinished, IsPortCopy, IsOutcome, AreSolo, AreOwnQueues, IsSoloView, AreSameViews}
use Rattle.bridge_semantics.proofs.Views.{departs_as, drops_as, delayed_as, greatest_as, told_once}
use Rattle.bridge_filter.proofs.Members.{member_found, one_number}
use Rattle.bridge_filter.proofs.OwnShown.{verdicts_own, buckets_own, flags_own}
use Rattle.bridge_config.proofs.PlanPorts.{at_port, at_own}
use Rattle.bridge_semantics.proofs.Safe.{IsSafe, alone, apart}
use Rattle.bridge_semantics.proofs.Steps.{steps_own}
use Rattle.bridge_semantics.proofs.Offering.{none_offered, offered_by, sent, offers_own}

-- MEMBERS OF LISTS

pub in_only : {X : Type 0} (c : ℕ) (x : Copy X) (xs : List (Copy X)) → IsMember x xs → x.class ≡ c → IsMember x (class_copies c xs)
in_only c x [] i e = absurd i
in_only c x (y ∷ xs) i e = by_bool (nat_eq y.class c)
    (λ k. rw k (elim i [ inl same ↦ inl same | inr later ↦ inr (in_only c x xs later e) ]))
    (λ k. rw k (elim i [ inl same ↦ absurd (eqb-false y.class c k (ap (λ (v : Copy _). v.class) (sym same) ∙ e)) | inr later ↦ in_only c x xs later e ]))

pub only_in : {X : Type 0} (c : ℕ) (x : Copy X) (xs : List (Copy X)) → IsMember x (class_copies c xs) → IsMember x xs
only_in c x [] i = absurd i
only_in c x (y ∷ xs) i = by_bool (nat_eq y.class c)
    (λ k. let j : (x ≡ y) ⊎ IsMember x (class_copies c xs) = rw k at i in elim j [ inl same ↦ inl same | inr later ↦ inr (only_in c x xs later) ])
    (λ k. let j : IsMember x (class_copies c xs) = rw k at i in inr (only_in c x xs j))

abbrev pub as_offer : Copy CarriedFrame → Offer
as_offer x = record { at = x.at; class = x.class; item = x.item }

pub in_offered : (x : Copy CarriedFrame) (xs : List (Copy CarriedFrame)) → IsMember x xs → IsMember (as_offer x) (copy_offers xs)
in_offered x [] i = absurd i
in_offered x (y ∷ xs) (inl same) = inl (ap as_offer same)
in_offered x (y ∷ xs) (inr later) = inr (in_offered x xs later)

pub in_in_class : (c : ℕ) (o : Offer) (os : List Offer) → IsMember o os → o.class ≡ c → IsMember o (class_offers c os)
in_in_class c o [] i e = absurd i
in_in_class c o (y ∷ os) i e = by_bool (nat_eq y.class c)
    (λ k. rw k (elim i [ inl same ↦ inl same | inr later ↦ inr (in_in_class c o os later e) ]))
    (λ k. rw k (elim i [ inl same ↦ absurd (eqb-false y.class c k (ap (λ (v : Offer). v.class) (sym same) ∙ e)) | inr later ↦ in_in_class c o os later e ]))

pub in_class_in : (c : ℕ) (o : Offer) (os : List Offer) → IsMember o (class_offers c os) → IsMember o os × (o.class ≡ c)
in_class_in c o [] i = absurd i
in_class_in c o (y ∷ os) i = by_bool (nat_eq y.class c)
    (λ k. let j : (o ≡ y) ⊎ IsMember o (class_offers c os) = rw k at i in elim j [ inl same ↦ (inl same, ap (λ (v : Offer). v.class) same ∙ eqb-true y.class c k) | inr later ↦ let r = in_class_in c o os later in (inr r.0, r.1) ])
    (λ k. let j : IsMember o (class_offers c os) = rw k at i in let r = in_class_in c o os j in (inr r.0, r.1))

offered_only : (c : ℕ) (xs : List (Copy CarriedFrame)) → copy_offers (class_copies c xs) ≡ class_offers c (copy_offers xs)
offered_only c [] = refl
offered_only c (x ∷ xs) = by_bool (nat_eq x.class c) (λ k. rw (k, offered_only c xs) refl) (λ k. rw k (offered_only c xs))

-- THE FILTER'S QUEUES

-- The copies, or the empty list if no copy is offered.
abbrev pub picked : List Offer → List (Copy CarriedFrame) → List (Copy CarriedFrame)
picked [] xs = []
picked (o ∷ os) xs = xs

pub in_picked : (x : Copy CarriedFrame) (o : Offer) (os : List Offer) (xs : List (Copy CarriedFrame)) → IsMember o os → IsMember x xs → IsMember x (picked os xs)
in_picked x o [] xs i j = absurd i
in_picked x o (y ∷ os) xs i j = j

pub picked_in : (x : Copy CarriedFrame) (os : List Offer) (xs : List (Copy CarriedFrame)) → IsMember x (picked os xs) → IsMember x xs
picked_in x [] xs i = absurd i
picked_in x (o ∷ os) xs i = i

picked_empty : (os : List Offer) → picked os [] ≡ []
picked_empty [] = refl
picked_empty (o ∷ os) = refl

-- The copies that events offer to an optional port; none if the port is missing.
abbrev pub offers_if : {A : Type 0} → Plan A → Option (PortPlan A) → List Event → List Offer
offers_if p None es = []
offers_if p (Some out) es = port_offers p out es

-- The queues that a filter's own events fill.
abbrev pub queues : {A : Type 0} → Plan A → ℕ → FilterPlan → List Event → (ℕ → List (Copy CarriedFrame)) → ℕ → ℕ → List (Copy CarriedFrame)
queues p s f es lists q c = picked (class_offers c (offers_if p (find_port p.ports q) (own_events p s f es))) (class_copies c (lists q))

-- An offer with the filter's number is in one of the filter's reachable queues.
pub flow_reaches : {A : Type 0} (p : Plan A) (s : ℕ) (f : FilterPlan) (out : PortPlan A) → IsSafe p s f → find_port p.ports out.number ≡ Some out → (es : List Event) → (o : Offer) → IsMember o (port_offers p out es) → o.item.flow ≡ Some s → reaches_queue p f out.number o.class ≡ true
flow_reaches p s f out safe there es o i e =
    let t = sent p s f out safe there es o i in
    let n : t.number ≡ s = same_Some t.number s (sym t.flow ∙ e) in
    let g : f ≡ t.filter = one_number p.filters s f t.filter safe.plan.filters.own safe.listed (subst (λ (k : ℕ). IsMember (k, t.filter) p.filters) n t.listed) in
    subst (λ (h : FilterPlan). reaches_queue p h out.number o.class ≡ true) (sym g) t.reaches

numbered_flow : {A : Type 0} (p : Plan A) (s : ℕ) (out : PortPlan A) → IsPlan p → find_port p.ports out.number ≡ Some out → (a : Arrival) (es : List Event) (o : Offer) (c : FilterInput) (m : Option (ℕ × FilterPlan)) → arrival_input p a ≡ Some c → verdicts.frame_filter p.filters c ≡ m → is_filter_number s m ≡ true → IsMember o (arrival_offer p out a es) → o.item.flow ≡ Some s
numbered_flow p s out plan there a es o c None e fl k i = absurd (cc)
numbered_flow p s out plan there a es o c (Some x) e fl k i = let t = offered_by p out a es c x o plan there e fl i in t.flow ∙ ap Some (eqb-true x.0 s k)

arrived_flow : {A : Type 0} (p : Plan A) (s : ℕ) (out : PortPlan A) → IsPlan p → find_port p.ports out.number ≡ Some out → (a : Arrival) (es : List Event) (o : Offer) (m : Option FilterInput) → arrival_input p a ≡ m → is_filter_number s (arrival_filter p a) ≡ true → IsMember o (arrival_offer p out a es) → o.item.flow ≡ Some s
arrived_flow p s out plan there a es o None e k i = let z : ⊥ = subst (IsMember o) (none_offered p out a es e) i in absurd z
arrived_flow p s out plan there a es o (Some c) e k i = let z : is_filter_number s (verdicts.frame_filter p.filters c) ≡ true = rw e at k in numbered_flow p s out plan there a es o c (verdicts.frame_filter p.filters c) e refl z i

-- Every offer of the own events has the filter's number.
pub own_flow : {A : Type 0} (p : Plan A) (s : ℕ) (f : FilterPlan) (out : PortPlan A) → IsPlan p → find_port p.ports out.number ≡ Some out → (es : List Event) → (o : Offer) → IsMember o (port_offers p out (own_events p s f es)) → o.item.flow ≡ Some s
own_flow p s f out plan there [] o i = absurd i
own_flow p s f out plan there (Cleared clear n ∷ es) o i = by_bool (is_own_command s f clear n)
    (λ k. let j : IsMember o (port_offers p out (own_events p s f es)) = rw k at i in own_flow p s f out plan there es o j)
    (λ k. let j : IsMember o (port_offers p out (own_events p s f es)) = rw k at i in own_flow p s f out plan there es o j)
own_flow p s f out plan there (Arrived a ∷ es) o i = by_bool (is_filter_number s (arrival_filter p a))
    (λ k.
    let j : IsMember o (arrival_offer p out a (own_events p s f es) ++ port_offers p out (own_events p s f es)) = rw k at i in
    elim (in_either o (arrival_offer p out a (own_events p s f es)) (port_offers p out (own_events p s f es)) j) [
      | inl here ↦ arrived_flow p s out plan there a (own_events p s f es) o (arrival_input p a) refl k here
      | inr later ↦ own_flow p s f out plan there es o later
    ])
    (λ k. let j : IsMember o (port_offers p out (own_events p s f es)) = rw k at i in own_flow p s f out plan there es o j)

-- Holds if `xs` is the own queue of class `c` at a port: the offers of the own events, with the port to itself.
pub record IsQueue {A : Type 0} (p : Plan A) (s : ℕ) (f : FilterPlan) (out : PortPlan A) (c : ℕ) (es : List Event) (xs : List (Copy CarriedFrame)) : Type 0 where
  pub offers : copy_offers xs ≡ class_offers c (port_offers p out (own_events p s f es))
  pub solo : IsSolo (egress_rules out) xs

queue_is : {A : Type 0} (p : Plan A) (s : ℕ) (f : FilterPlan) → IsSafe p s f → (es : List Event) → (moments : ℕ → ℕ) (lists : ℕ → List (Copy CarriedFrame)) → IsRun p es moments lists → AreFinished lists → (q c : ℕ) (out : PortPlan A) → find_port p.ports q ≡ Some out → (os : List Offer) → class_offers c (port_offers p out (own_events p s f es)) ≡ os → IsQueue p s f out c es (picked os (class_copies c (lists q)))
queue_is p s f safe es moments lists run whole q c out at [] e = record { offers = sym e; solo = tt }
queue_is {A} p s f safe es moments lists run whole q c out at (o ∷ os) e =
    let there = at_own p.ports q out at in
    let number = (at_port p.ports q out at).number in
    let here : IsMember o (class_offers c (port_offers p out (own_events p s f es))) = subst (IsMember o) (sym e) (inl refl) in
    let (among, class) = in_class_in c o (port_offers p out (own_events p s f es)) here in
    let flow = own_flow p s f out safe.plan there es o among in
    let reach : reaches_queue p f out.number c ≡ true = subst (λ (k : ℕ). reaches_queue p f out.number k ≡ true) class (flow_reaches p s f out safe there (own_events p s f es) o among flow) in
    record {
      offers = offered_only c (lists q) ∙ (ap (class_offers c) (run.offers q out at) ∙ sym (offers_own p s f out safe there c reach es));
      solo = solo (egress_rules out) c (moments q) (lists q) (λ x. occupied_some x.len out.speed) ((alone p s f safe).window out.number c out there reach) (run.lawful q out at) (whole q);
    }

-- The filter's copies at a port are in its own queues.
pub lies_by : {A : Type 0} (p : Plan A) (s : ℕ) (f : FilterPlan) → IsSafe p s f → (es : List Event) → (moments : ℕ → ℕ) (lists : ℕ → List (Copy CarriedFrame)) → IsRun p es moments lists → (q : ℕ) (x : Copy CarriedFrame) (m : Option (PortPlan A)) → find_port p.ports q ≡ m → x.item.flow ≡ Some s → IsMember x (lists q) → IsMember x (picked (class_offers x.class (offers_if p m (own_events p s f es))) (class_copies x.class (lists q)))
lies_by p s f safe es moments lists run q x None at e i = let z : ⊥ = subst (IsMember x) (run.others q at) i in absurd z
lies_by p s f safe es moments lists run q x (Some out) at e i =
    let there = at_own p.ports q out at in
    let among : IsMember (as_offer x) (port_offers p out es) = subst (IsMember (as_offer x)) (run.offers q out at) (in_offered x (lists q) i) in
    let reach : reaches_queue p f out.number x.class ≡ true = flow_reaches p s f out safe there es (as_offer x) among e in
    let own_one : IsMember (as_offer x) (class_offers x.class (port_offers p out (own_events p s f es))) = subst (IsMember (as_offer x)) (sym (offers_own p s f out safe there x.class reach es)) (in_in_class x.class (as_offer x) (port_offers p out es) among refl) in
    in_picked x (as_offer x) (class_offers x.class (port_offers p out (own_events p s f es))) (class_copies x.class (lists q)) own_one (in_only x.class x (lists q) i refl)

-- RECORDS

-- The own events determine the arrivals of a filter's frames.
pub origins_own : {A : Type 0} (p : Plan A) (s : ℕ) (f : FilterPlan) (es : List Event) → filter_origins p s (own_events p s f es) ≡ filter_origins p s es
origins_own p s f [] = refl
origins_own p s f (Cleared clear n ∷ es) = by_bool (is_own_command s f clear n) (λ k. rw k (origins_own p s f es)) (λ k. rw k (origins_own p s f es))
origins_own p s f (Arrived a ∷ es) = by_bool (is_filter_number s (arrival_filter p a))
    (λ k. rw (k, k, origins_own p s f es) refl)
    (λ k. rw k (origins_own p s f es ∙ sym (append-nil (filter_origins p s es))))

-- A filter's record depends neither on steps nor on copies of other filters.
pub view_as : {A : Type 0} (p : Plan A) (s : ℕ) (f : FilterPlan) → HasOwnInstances (plan_police p) s f → (es fs : List Event) → AreListed (plan_police p) (police_steps p es) → police_steps p fs ≡ own_steps s f (police_steps p es) → filter_origins p s fs ≡ filter_origins p s es → (P Q : ℕ → Copy CarriedFrame → Type 0) → ((q : ℕ) (x : Copy CarriedFrame) → x.item.flow ≡ Some s → P q x → Q q x) → ((q : ℕ) (x : Copy CarriedFrame) → x.item.flow ≡ Some s → Q q x → P q x) → (v : View A) → IsFilterView p s f es P v → IsFilterView p s f fs Q v
view_as {A} p s f a es fs l e came P Q to from v h =
    let ss : List FilterStep = police_steps p es in
    let ts : List FilterStep = police_steps p fs in
    let vs : filter_verdicts s ts ≡ filter_verdicts s ss = ap (filter_verdicts s) e ∙ verdicts_own s f ss in
    let t = h.told in
    record {
      protected = h.protected;
      verdicts = h.verdicts ∙ sym vs;
      origins = h.origins ∙ sym came;
      counters = h.counters ∙ ap verdict_counters (sym vs);
      flags = h.flags ∙ sym (ap (filter_flags (plan_police p) s f) e ∙ flags_own (plan_police p) s f a ss l);
      buckets = h.buckets ∙ sym (ap (filter_buckets (plan_police p) f.meter) e ∙ buckets_own (plan_police p) s f a ss l f.meter refl);
      told = record {
        departures_rise = t.departures_rise;
        departures_are = λ d. ((λ i. departs_as p s P Q to d ((t.departures_are d).0 i)), (λ r. (t.departures_are d).1 (departs_as p s Q P from d r)));
        drops_rise = t.drops_rise;
        drops_are = λ d. ((λ i. drops_as p s P Q to d ((t.drops_are d).0 i)), (λ r. (t.drops_are d).1 (drops_as p s Q P from d r)));
        longest = greatest_as (IsFilterDelay p s P) (IsFilterDelay p s Q) (delayed_as p s P Q to) (delayed_as p s Q P from) v.delay t.longest;
      };
    }

-- The queues of a missing port are empty.
pub none_there : {A : Type 0} (p : Plan A) (s : ℕ) (f : FilterPlan) (es : List Event) (lists : ℕ → List (Copy CarriedFrame)) (q c : ℕ) → lists q ≡ [] → queues p s f es lists q c ≡ []
none_there p s f es lists q c e =
    ap (λ (xs : List (Copy CarriedFrame)). picked (class_offers c (offers_if p (find_port p.ports q) (own_events p s f es))) (class_copies c xs)) e ∙ picked_empty (class_offers c (offers_if p (find_port p.ports q) (own_events p s f es)))

pub queue_at : {A : Type 0} (p : Plan A) (s : ℕ) (f : FilterPlan) → IsSafe p s f → (es : List Event) → (moments : ℕ → ℕ) (lists : ℕ → List (Copy CarriedFrame)) → IsRun p es moments lists → AreFinished lists → (q c : ℕ) (out : PortPlan A) → find_port p.ports q ≡ Some out → IsQueue p s f out c es (queues p s f es lists q c)
queue_at {A} p s f safe es moments lists run whole q c out at =
    let r = queue_is p s f safe es moments lists run whole q c out at (class_offers c (port_offers p out (own_events p s f es))) refl in
    subst (λ (m : Option (PortPlan A)). IsQueue p s f out c es (picked (class_offers c (offers_if p m (own_events p s f es))) (class_copies c (lists q)))) (sym at) r

-- The queues of a filter that fails no test are those that its own events fill, each with its port to itself.
pub solo_queues : {A : Type 0} (p : Plan A) (s : ℕ) (f : FilterPlan) → IsSafe p s f → (es : List Event) → (moments : ℕ → ℕ) (lists : ℕ → List (Copy CarriedFrame)) → IsRun p es moments lists → AreFinished lists → AreSolo p (own_events p s f es) (queues p s f es lists)
solo_queues p s f safe es moments lists run whole = record {
  offers = λ q c port at. (queue_at p s f safe es moments lists run whole q c port at).offers;
  solo = λ q c port at. (queue_at p s f safe es moments lists run whole q c port at).solo;
  others = λ q c at. none_there p s f es lists q c (run.others q at);
}

-- A copy in an own queue is a copy of the port.
pub queued_at : {A : Type 0} (p : Plan A) (s : ℕ) (f : FilterPlan) (es : List Event) (lists : ℕ → List (Copy CarriedFrame)) (q c : ℕ) (x : Copy CarriedFrame) → IsMember x (queues p s f es lists q c) → IsMember x (lists q)
queued_at p s f es lists q c x i = only_in c x (lists q) (picked_in x (class_offers c (offers_if p (find_port p.ports q) (own_events p s f es))) (class_copies c (lists q)) i)

flow_queued : {A : Type 0} (p : Plan A) (s : ℕ) (f : FilterPlan) → IsSafe p s f → (es : List Event) → (moments : ℕ → ℕ) (lists : ℕ → List (Copy CarriedFrame)) → IsRun p es moments lists → AreFinished lists → (q c : ℕ) (x : Copy CarriedFrame) (m : Option (PortPlan A)) → find_port p.ports q ≡ m → IsMember x (queues p s f es lists q c) → x.item.flow ≡ Some s
flow_queued p s f safe es moments lists run whole q c x None at i = let z : ⊥ = subst (IsMember x) (none_there p s f es lists q c (run.others q at)) i in absurd z
flow_queued p s f safe es moments lists run whole q c x (Some out) at i =
    let there = at_own p.ports q out at in
    let queue = queue_at p s f safe es moments lists run whole q c out at in
    let among : IsMember (as_offer x) (class_offers c (port_offers p out (own_events p s f es))) = subst (IsMember (as_offer x)) queue.offers (in_offered x (queues p s f es lists q c) i) in
    own_flow p s f out safe.plan there es (as_offer x) (in_class_in c (as_offer x) (port_offers p out (own_events p s f es)) among).0

-- In a complete run, the filter's copies are those of its own queues.
pub own_alone : {A : Type 0} (p : Plan A) (n : ℕ) (f : FilterPlan) (es : List Event) (moments : ℕ → ℕ) (lists : ℕ → List (Copy CarriedFrame)) → IsPlan p → IsAcceptable p → IsMember (n, f) p.filters → f.protected ≡ true → IsRun p es moments lists → AreFinished lists → AreOwnQueues p n f es lists
own_alone {A} p n f es moments lists plan good listed is run whole =
    let safe : IsSafe p n f = record { plan = plan; listed = listed; passes = good n f listed is } in
    record {
      own = queues p n f es lists;
      solo = solo_queues p n f safe es moments lists run whole;
      same = λ q x. (
        (λ h. (x.class, lies_by p n f safe es moments lists run q x (find_port p.ports q) refl h.1 h.0)),
        (λ h. (queued_at p n f es lists q h.0 x h.1, flow_queued p n f safe es moments lists run whole q h.0 x (find_port p.ports q) refl h.1)),
      );
    }

-- The record of a filter that fails no test is its record with only its own events.
pub run_alone : {A : Type 0} (p : Plan A) (s : ℕ) (f : FilterPlan) → IsSafe p s f → (es : List Event) → (lists : ℕ → List (Copy CarriedFrame)) (o : Outcome A) → IsOutcome p es lists o → (v : View A) → lookup (nat_eq s) o.filters.items ≡ Some v → IsSoloView p s f (own_events p s f es) v
run_alone {A} p s f safe es lists o out v found =
    let own_lists = queues p s f es lists in
    let listed : lookup (nat_eq s) p.filters ≡ Some f = member_found p.filters s f safe.plan.filters.own safe.listed in
    let P : ℕ → Copy CarriedFrame → Type 0 = IsPortCopy lists in
    let Q : ℕ → Copy CarriedFrame → Type 0 = λ q x. (c : ℕ) × IsMember x (own_lists q c) in
    let to : (q : ℕ) (x : Copy CarriedFrame) → x.item.flow ≡ Some s → P q x → Q q x = λ q x e i. (x.class, lies_by p s f safe es out.moments lists out.run q x (find_port p.ports q) refl e i) in
    let from : (q : ℕ) (x : Copy CarriedFrame) → x.item.flow ≡ Some s → Q q x → P q x = λ q x e i. queued_at p s f es lists q i.0 x i.1 in
    record {
      lists = own_lists;
      solo = solo_queues p s f safe es out.moments lists out.run out.whole;
      view = view_as p s f (apart p s f safe) es (own_events p s f es) (told_listed (plan_police p) (filter_inputs p es)) (steps_own p s f (apart p s f safe) es) (origins_own p s f es) P Q to from v (out.views s f v listed found);
    }

pub protected_alone : {A : Type 0} (p : Plan A) (n : ℕ) (f : FilterPlan) (es : List Event) (lists : ℕ → List (Copy CarriedFrame)) (o : Outcome A) (v : View A) → IsPlan p → IsAcceptable p → IsMember (n, f) p.filters → f.protected ≡ true → IsOutcome p es lists o → lookup (nat_eq n) o.filters.items ≡ Some v → IsSoloView p n f (own_events p n f es) v
protected_alone p n f es lists o v plan good listed is out found = run_alone p n f (record { plan = plan; listed = listed; passes = good n f listed is }) es lists o out v found

pub two_runs : {A : Type 0} (p : Plan A) (n : ℕ) (f : FilterPlan) (es others : List Event) (lists more : ℕ → List (Copy CarriedFrame)) (o q : Outcome A) (u v : View A) → IsPlan p → IsAcceptable p → IsMember (n, f) p.filters → f.protected ≡ true → own_events p n f es ≡ own_events p n f others → IsOutcome p es lists o → IsOutcome p others more q → lookup (nat_eq n) o.filters.items ≡ Some u → lookup (nat_eq n) q.filters.items ≡ Some v → AreSameViews u v
two_runs p n f es others lists more o q u v plan good listed is same a b found there =
    let x = protected_alone p n f es lists o u plan good listed is a found in
    let y = protected_alone p n f others more q v plan good listed is b there in
    told_once p n f (own_events p n f others) u v (subst (λ (ds : List Event). IsSoloView p n f ds u) same x) y
