-- A group's own events determine the records of its filters in a run.
use Rattle.std.proofs.Common.{◌≡◌, ◌+◌, ℕ, Bool, true, false, ◌&&◌, List, [], ◌∷◌, ◌++◌, refl, ap, append-nil, ◌∙◌, sym, subst, inl, inr, Option, Some, None}
use Rattle.std.specs.Prelude.{nat_eq, nat_lt, if◌then◌else◌}
use Rattle.std.specs.Map.{lookup}
use Rattle.std.proofs.lemmas.Option.{same_Some}
use Rattle.std.specs.List.{list_any}
use Rattle.std.proofs.lemmas.Bool.{and_parts, eqb-true, or_cases, both_ways, false≢true}
use Rattle.bridge_limits.specs.Members.{IsMember}
use Rattle.bridge_limits.proofs.Members.{in_either}
use Rattle.bridge_limits.proofs.Cases.{by_bool}
use Rattle.bridge_limits.proofs.Orders.{same_eq}
use Rattle.bridge_frame.proofs.Times.{occupied_some}
use Rattle.bridge_forward.specs.Ports.{has_port}
use Rattle.bridge_filter.specs.declared.FilterInput.{FilterInput}
use Rattle.bridge_filter.specs.declared.FilterPlan.{FilterPlan}
use Rattle.bridge_filter.specs.declared.Verdict.{Verdict}
use Rattle.bridge_filter.specs.Verdicts as verdicts
use Rattle.bridge_filter.specs.Verdicts.{FilterStep, frame_filter, is_match, lesser_filter}
use Rattle.bridge_filter.specs.Counts.{filter_buckets, filter_flags, filter_verdicts, verdict_counters}
use Rattle.bridge_filter.specs.OwnEvents.{HasOwnInstances, is_filter_number, is_own_command, own_steps}
use Rattle.bridge_filter.proofs.Owned.{differs, flow_listed, told_listed, verdict_own}
use Rattle.bridge_filter.proofs.OwnShown.{buckets_own, flags_own, verdicts_own}
use Rattle.bridge_filter.proofs.Members.{member_found, one_number}
use Rattle.bridge_port.specs.Schedule.{Copy}
use Rattle.bridge_port.specs.Solo.{IsSolo, class_copies}
use Rattle.bridge_port.proofs.Isolation.{solo}
use Rattle.bridge_config.specs.declared.ports.PortPlan.{PortPlan}
use Rattle.bridge_config.specs.Model.{Plan}
use Rattle.bridge_config.specs.Rules.{IsPlan, find_port}
use Rattle.bridge_config.proofs.PlanPorts.{at_own, at_port}
use Rattle.bridge_check.specs.Reach.{reaches_queue}
use Rattle.bridge_check.specs.Faults.{is_in_group}
use Rattle.bridge_check.specs.Acceptable.{HasAcceptableGroups, IsIsolatedMember}
use Rattle.bridge_check.proofs.Grouped.{isolated_member}
use Rattle.bridge_semantics.specs.declared.destination.Destination.{Destination}
use Rattle.bridge_semantics.specs.declared.destination.Destination.TheVariants.{Forwarded, Malformed, Nowhere}
use Rattle.bridge_semantics.specs.declared.outcome.View.{View}
use Rattle.bridge_semantics.specs.declared.outcome.Outcome.{Outcome}
use Rattle.bridge_semantics.specs.Events.{Arrival, Arrived, Cleared, Event, arrival_filter, arrival_input, count_filter_frames, destination_input, filter_inputs, filter_origins, frame_destination, is_own_event, own_events, plan_police, police_steps}
use Rattle.bridge_semantics.specs.Offers.{CarriedFrame, Offer, arrival_offer, class_offers, copy_offers, destination_offer, egress_rules, frame_step, port_offers, step_offer, verdict_offer}
use Rattle.bridge_semantics.specs.Runs.{AreFinished, AreSameViews, AreSolo, IsFilterDelay, IsFilterView, IsOutcome, IsPortCopy, IsRun, IsSoloView}
use Rattle.bridge_semantics.proofs.Steps.{count_own, steps_own}
use Rattle.bridge_semantics.proofs.Offering.{in_class_join, none_offered, offered_by}
use Rattle.bridge_semantics.proofs.Views.{delayed_as, departs_as, drops_as, greatest_as, told_once}
use Rattle.bridge_semantics.proofs.Headline.{as_offer, in_class_in, in_in_class, in_offered, in_only, in_picked, offers_if, only_in, picked, picked_in}
use Rattle.bridge_semantics.proofs.GroupMembers.{grouped_as, has_flow, none_in_class, offered_only, owned, owner, picked_empty}
use Rattle.bridge_semantics.specs.Groups.{IsGroupMember, IsGroupQueue, IsGroupCopy, IsPoliceRecord, HaveSamePoliceRecords, is_group_event, group_events}

module _ {A : Type 0} (p : Plan A) (group : ℕ) (plan : IsPlan p) (good : HasAcceptableGroups p) where
  -- A filter of the group is isolated up to its group.
  pub keeps : (n : ℕ) (f : FilterPlan) → IsGroupMember p group n f → IsIsolatedMember p group n f
  keeps n f i = isolated_member p group n f plan i.listed (good group n f i.listed i.grouped)

  pub apart : (n : ℕ) (f : FilterPlan) → IsGroupMember p group n f → HasOwnInstances (plan_police p) n f
  apart n f i = let k = keeps n f i in record { one = λ g j. one_number p.filters n f g plan.filters.own i.listed j; gate = k.gate; meter = k.meter }

  -- Two filters of the group with one number are equal.
  one_of : (n : ℕ) (f g : FilterPlan) → IsGroupMember p group n f → IsMember (n, g) p.filters → f ≡ g
  one_of n f g i j = one_number p.filters n f g plan.filters.own i.listed j

  -- OWN EVENTS

  own_own : (n : ℕ) (f : FilterPlan) → IsGroupMember p group n f → (es : List Event) → own_events p n f (group_events p group es) ≡ own_events p n f es
  own_own n f i [] = refl
  own_own n f i (Arrived a ∷ es) = by_bool (is_filter_number n (arrival_filter p a))
      (λ k. let all : is_group_event p group (Arrived a) ≡ true = owned p group n f (Arrived a) i k in rw (k, all, k, own_own n f i es) refl)
      (λ k. by_bool (is_group_event p group (Arrived a)) (λ m. rw (k, m, k, own_own n f i es) refl) (λ m. rw (k, m, own_own n f i es) refl))
  own_own n f i (Cleared clear m ∷ es) = by_bool (is_own_command n f clear m)
      (λ k. let all : is_group_event p group (Cleared clear m) ≡ true = owned p group n f (Cleared clear m) i k in rw (k, all, k, own_own n f i es) refl)
      (λ k. by_bool (is_group_event p group (Cleared clear m)) (λ o. rw (k, o, k, own_own n f i es) refl) (λ o. rw (k, o, own_own n f i es) refl))

  -- The own events of the group give a filter the steps that all events give it.
  steps_same : (n : ℕ) (f : FilterPlan) → IsGroupMember p group n f → (es : List Event) → own_steps n f (police_steps p (group_events p group es)) ≡ own_steps n f (police_steps p es)
  steps_same n f i es = sym (steps_own p n f (apart n f i) (group_events p group es)) ∙ (ap (police_steps p) (own_own n f i es) ∙ steps_own p n f (apart n f i) es)

  count_same : (n : ℕ) (f : FilterPlan) → IsGroupMember p group n f → (es : List Event) → count_filter_frames p n (group_events p group es) ≡ count_filter_frames p n es
  count_same n f i es = sym (count_own p n f (group_events p group es)) ∙ (ap (count_filter_frames p n) (own_own n f i es) ∙ count_own p n f es)

  verdict_same : (n : ℕ) (f : FilterPlan) → IsGroupMember p group n f → (es : List Event) (c : FilterInput) → verdicts.frame_verdict (plan_police p) (police_steps p (group_events p group es)) c n f ≡ verdicts.frame_verdict (plan_police p) (police_steps p es) c n f
  verdict_same n f i es c =
      let a = apart n f i in
      let ds = group_events p group es in
      sym (verdict_own (plan_police p) n f a (police_steps p ds) (told_listed (plan_police p) (filter_inputs p ds)) c)
      ∙ (ap (λ (ss : List FilterStep). verdicts.frame_verdict (plan_police p) ss c n f) (steps_same n f i es)
      ∙ verdict_own (plan_police p) n f a (police_steps p es) (told_listed (plan_police p) (filter_inputs p es)) c)

  -- THE OFFERS OF ONE FRAME

  by_count : (out : PortPlan A) (a : Arrival) (priority n k m : ℕ) (v u : Verdict) → k ≡ m → v ≡ u → verdict_offer out a priority n k v ≡ verdict_offer out a priority n m u
  by_count out a priority n k m v u e d = ap (λ (z : ℕ). verdict_offer out a priority n z v) e ∙ ap (λ (z : Verdict). verdict_offer out a priority n m z) d

  step_same : (n : ℕ) (f : FilterPlan) → IsGroupMember p group n f → (out : PortPlan A) (a : Arrival) (es : List Event) (priority : ℕ) (c : FilterInput) → frame_filter p.filters c ≡ Some (n, f)
      → step_offer p out a (group_events p group es) priority (frame_step p (group_events p group es) c) ≡ step_offer p out a es priority (frame_step p es c)
  step_same n f i out a es priority c fl =
      let ds = group_events p group es in
      let numbers : count_filter_frames p n ds + 1 ≡ count_filter_frames p n es + 1 = ap (λ (k : ℕ). k + 1) (count_same n f i es) in
      let one : step_offer p out a ds priority (frame_step p ds c) ≡ verdict_offer out a priority n (count_filter_frames p n ds + 1) (verdicts.frame_verdict (plan_police p) (police_steps p ds) c n f) = ap (λ (z : Option (ℕ × FilterPlan)). step_offer p out a ds priority (verdicts.input_step (plan_police p) (police_steps p ds) c z)) fl in
      let two : step_offer p out a es priority (frame_step p es c) ≡ verdict_offer out a priority n (count_filter_frames p n es + 1) (verdicts.frame_verdict (plan_police p) (police_steps p es) c n f) = ap (λ (z : Option (ℕ × FilterPlan)). step_offer p out a es priority (verdicts.input_step (plan_police p) (police_steps p es) c z)) fl in
      one ∙ (by_count out a priority n _ _ _ _ numbers (verdict_same n f i es c) ∙ sym two)

  same_on : (n : ℕ) (f : FilterPlan) → IsGroupMember p group n f → (out : PortPlan A) (a : Arrival) (es : List Event) (w : Destination) (c : FilterInput) → destination_input w ≡ Some c → frame_filter p.filters c ≡ Some (n, f) → destination_offer p out a (group_events p group es) w ≡ destination_offer p out a es w
  same_on n f i out a es Malformed c q fl = refl
  same_on n f i out a es Nowhere c q fl = refl
  same_on n f i out a es (Forwarded set made) c q fl =
      let flow_is : frame_filter p.filters made ≡ Some (n, f) = subst (λ (z : FilterInput). frame_filter p.filters z ≡ Some (n, f)) (sym (same_Some made c q)) fl in
      ap (λ (os : List Offer). if has_port set out.number then os else []) (step_same n f i out a es made.priority made flow_is)

  -- A frame of a grouped filter has filter data, and this filter matches it.
  flows : (n : ℕ) (f : FilterPlan) → IsGroupMember p group n f → (a : Arrival) (m : Option FilterInput) → arrival_input p a ≡ m → is_filter_number n (arrival_filter p a) ≡ true → (c : FilterInput) × (arrival_input p a ≡ Some c) × (frame_filter p.filters c ≡ Some (n, f))
  flows n f i a None e own = let z : is_filter_number n None ≡ true = rw e at own in absurd (false≢true z)
  flows n f i a (Some c) e own =
      let z : is_filter_number n (frame_filter p.filters c) ≡ true = rw e at own in
      (c, e, by_flow c (frame_filter p.filters c) refl z)
    where
      by_flow : (c : FilterInput) (o : Option (ℕ × FilterPlan)) → frame_filter p.filters c ≡ o → is_filter_number n o ≡ true → frame_filter p.filters c ≡ Some (n, f)
      by_flow c None fl z = absurd (false≢true z)
      by_flow c (Some x) fl z =
          let number : x.0 ≡ n = eqb-true x.0 n z in
          let there : IsMember (n, x.1) p.filters = subst (λ (k : ℕ). IsMember (k, x.1) p.filters) number (flow_listed p.filters c x fl) in
          let same : f ≡ x.1 = one_of n f x.1 i there in
          fl ∙ ap Some (let k : (x.0, x.1) ≡ (n, f) = rw (number, same) refl in k)

  -- FRAMES OF OTHERS

  filtered : (n : ℕ) (f : FilterPlan) → IsGroupMember p group n f → (c : FilterInput) → (g : ℕ × FilterPlan) × (frame_filter p.filters c ≡ Some g)
  filtered n f i c =
      let (k, g, j, handle, priority, greatest) = (keeps n f i).catches in
      let takes : is_match g c ≡ true = rw (handle, priority) refl in
      has_flow p.filters c (k, g) j takes

  -- A frame of another filter offers no copy to a queue that the group can reach.
  foreign : (n : ℕ) (f : FilterPlan) → IsGroupMember p group n f → (out : PortPlan A) → find_port p.ports out.number ≡ Some out → (k : ℕ) → reaches_queue p f out.number k ≡ true → (a : Arrival) (es : List Event) → is_group_event p group (Arrived a) ≡ false → (m : Option FilterInput) → arrival_input p a ≡ m → class_offers k (arrival_offer p out a es) ≡ []
  foreign n f i out there k r a es other None e = ap (class_offers k) (none_offered p out a es e)
  foreign n f i out there k r a es other (Some c) e =
      let (x, fl) = filtered n f i c in
      none_in_class k (arrival_offer p out a es) (λ o j d.
      let t = offered_by p out a es c x o plan there e fl j in
      let inside : is_in_group group x.1.group ≡ true = (keeps n f i).queue x.0 out.number k x.1 (flow_listed p.filters c x fl) r (subst (λ (z : ℕ). reaches_queue p x.1 out.number z ≡ true) d t.reaches) in
      let member : IsGroupMember p group x.0 x.1 = record { listed = flow_listed p.filters c x fl; grouped = grouped_as group x.1.group inside } in
      let own : is_own_event p x.0 x.1 (Arrived a) ≡ true = rw (e, fl) (same_eq x.0) in
      both_ways _ other (owned p group x.0 x.1 (Arrived a) member own))

  -- THE OFFERS OF ALL

  arrived_same : (n : ℕ) (f : FilterPlan) → IsGroupMember p group n f → (out : PortPlan A) → find_port p.ports out.number ≡ Some out → (k : ℕ) → reaches_queue p f out.number k ≡ true → (a : Arrival) (es : List Event) → class_offers k (port_offers p out (group_events p group es)) ≡ class_offers k (port_offers p out es) → class_offers k (port_offers p out (group_events p group (Arrived a ∷ es))) ≡ class_offers k (port_offers p out (Arrived a ∷ es))
  arrived_same n f i out there k r a es ih = by_bool (is_group_event p group (Arrived a))
      (λ y.
      let (m, g, j, own) = owner p group (Arrived a) y in
      let (c, e, fl) = flows m g j a (arrival_input p a) refl own in
      let same : arrival_offer p out a (group_events p group es) ≡ arrival_offer p out a es = same_on m g j out a es (frame_destination p a) c e fl in
      let keep : group_events p group (Arrived a ∷ es) ≡ Arrived a ∷ group_events p group es = rw y refl in
      ap (λ (ds : List Event). class_offers k (port_offers p out ds)) keep ∙ (in_class_join k (arrival_offer p out a (group_events p group es)) (port_offers p out (group_events p group es)) ∙ (ap (λ (os : List Offer). class_offers k os ++ class_offers k (port_offers p out (group_events p group es))) same ∙ (ap (λ (os : List Offer). class_offers k (arrival_offer p out a es) ++ os) ih ∙ sym (in_class_join k (arrival_offer p out a es) (port_offers p out es))))))
      (λ y.
      let left : group_events p group (Arrived a ∷ es) ≡ group_events p group es = rw y refl in
      ap (λ (ds : List Event). class_offers k (port_offers p out ds)) left ∙ (ih ∙ sym (in_class_join k (arrival_offer p out a es) (port_offers p out es) ∙ ap (λ (os : List Offer). os ++ class_offers k (port_offers p out es)) (foreign n f i out there k r a es y (arrival_input p a) refl))))

  -- The offers to a queue that the group can reach are the offers of the group's own events.
  pub offers_same : (n : ℕ) (f : FilterPlan) → IsGroupMember p group n f → (out : PortPlan A) → find_port p.ports out.number ≡ Some out → (k : ℕ) → reaches_queue p f out.number k ≡ true → (es : List Event) → class_offers k (port_offers p out (group_events p group es)) ≡ class_offers k (port_offers p out es)
  offers_same n f i out there k r [] = refl
  offers_same n f i out there k r (Arrived a ∷ es) = arrived_same n f i out there k r a es (offers_same n f i out there k r es)
  offers_same n f i out there k r (Cleared clear m ∷ es) = by_bool (is_group_event p group (Cleared clear m)) (λ y. rw y (offers_same n f i out there k r es)) (λ y. rw y (offers_same n f i out there k r es))

  -- An offer of a grouped filter to one of its reachable queues.
  pub record IsMemberOffer (out : PortPlan A) (o : Offer) : Type 0 where
    pub number : ℕ
    pub filter : FilterPlan
    pub member : IsGroupMember p group number filter
    pub flow : o.item.flow ≡ Some number
    pub reaches : reaches_queue p filter out.number o.class ≡ true

  -- Each offer of the group's own events is an offer of a grouped filter to one of its reachable queues.
  pub own_sent : (out : PortPlan A) → find_port p.ports out.number ≡ Some out → (es : List Event) (o : Offer) → IsMember o (port_offers p out (group_events p group es)) → IsMemberOffer out o
  own_sent out there [] o i = absurd i
  own_sent out there (Cleared clear m ∷ es) o i = by_bool (is_group_event p group (Cleared clear m))
      (λ y. let j : IsMember o (port_offers p out (group_events p group es)) = rw y at i in own_sent out there es o j)
      (λ y. let j : IsMember o (port_offers p out (group_events p group es)) = rw y at i in own_sent out there es o j)
  own_sent out there (Arrived a ∷ es) o i = by_bool (is_group_event p group (Arrived a))
      (λ y.
      let j : IsMember o (arrival_offer p out a (group_events p group es) ++ port_offers p out (group_events p group es)) = rw y at i in
      elim (in_either o (arrival_offer p out a (group_events p group es)) (port_offers p out (group_events p group es)) j) [
        | inl here ↦
            let (n, f, member, own) = owner p group (Arrived a) y in
            let (c, e, fl) = flows n f member a (arrival_input p a) refl own in
            let t = offered_by p out a (group_events p group es) c (n, f) o plan there e fl here in
            record { number = n; filter = f; member = member; flow = t.flow; reaches = t.reaches }
        | inr later ↦ own_sent out there es o later
      ])
      (λ y. let j : IsMember o (port_offers p out (group_events p group es)) = rw y at i in own_sent out there es o j)

  -- An offer with the number of a grouped filter is in a queue that this filter can reach.
  by_call : (n : ℕ) (f : FilterPlan) → IsGroupMember p group n f → (out : PortPlan A) → find_port p.ports out.number ≡ Some out → (a : Arrival) (es : List Event) (o : Offer) (m : Option FilterInput) → arrival_input p a ≡ m → IsMember o (arrival_offer p out a es) → o.item.flow ≡ Some n → reaches_queue p f out.number o.class ≡ true
  by_call n f i out there a es o None e j fl = let z : ⊥ = subst (IsMember o) (none_offered p out a es e) j in absurd z
  by_call n f i out there a es o (Some c) e j is_flow =
      let (x, fl) = filtered n f i c in
      let t = offered_by p out a es c x o plan there e fl j in
      let number : x.0 ≡ n = same_Some x.0 n (sym t.flow ∙ is_flow) in
      let listed : IsMember (n, x.1) p.filters = subst (λ (k : ℕ). IsMember (k, x.1) p.filters) number (flow_listed p.filters c x fl) in
      subst (λ (h : FilterPlan). reaches_queue p h out.number o.class ≡ true) (sym (one_of n f x.1 i listed)) t.reaches

  flow_reaches : (n : ℕ) (f : FilterPlan) → IsGroupMember p group n f → (out : PortPlan A) → find_port p.ports out.number ≡ Some out → (es : List Event) (o : Offer) → IsMember o (port_offers p out es) → o.item.flow ≡ Some n → reaches_queue p f out.number o.class ≡ true
  flow_reaches n f i out there [] o j e = absurd j
  flow_reaches n f i out there (Cleared clear m ∷ es) o j e = flow_reaches n f i out there es o j e
  flow_reaches n f i out there (Arrived a ∷ es) o j e = elim (in_either o (arrival_offer p out a es) (port_offers p out es) j) [
    | inl now ↦ by_call n f i out there a es o (arrival_input p a) refl now e
    | inr later ↦ flow_reaches n f i out there es o later e
  ]

  -- THE GROUP'S QUEUES

  numbered : (q : ℕ) (out : PortPlan A) → find_port p.ports q ≡ Some out → (P : ℕ → Type 0) → P out.number → P q
  numbered q out at P h = subst P (at_port p.ports q out at).number h

  unnumbered : (q : ℕ) (out : PortPlan A) → find_port p.ports q ≡ Some out → (P : ℕ → Type 0) → P q → P out.number
  unnumbered q out at P h = subst P (sym (at_port p.ports q out at).number) h

  module _ (es : List Event) (moments : ℕ → ℕ) (lists : ℕ → List (Copy CarriedFrame)) (run : IsRun p es moments lists) where
    -- A copy of a grouped filter is in a queue that this filter can reach.
    pub member_in_reach : (n : ℕ) (f : FilterPlan) → IsGroupMember p group n f → (q : ℕ) (out : PortPlan A) (x : Copy CarriedFrame) → find_port p.ports q ≡ Some out → IsMember x (lists q) → x.item.flow ≡ Some n → reaches_queue p f q x.class ≡ true
    member_in_reach n f i q out x at j e =
        let among : IsMember (as_offer x) (port_offers p out es) = subst (IsMember (as_offer x)) (run.offers q out at) (in_offered x (lists q) j) in
        numbered q out at (λ k. reaches_queue p f k x.class ≡ true) (flow_reaches n f i out (at_own p.ports q out at) es (as_offer x) among e)

    -- A queue that the group can reach has no copies of other filters.
    pub reach_has_members : (q : ℕ) (out : PortPlan A) (x : Copy CarriedFrame) → find_port p.ports q ≡ Some out → IsMember x (lists q) → IsGroupQueue p group q x.class → IsGroupCopy p group x
    reach_has_members q out x at j r =
        let there = at_own p.ports q out at in
        let among : IsMember (as_offer x) (port_offers p out es) = subst (IsMember (as_offer x)) (run.offers q out at) (in_offered x (lists q) j) in
        let reach = unnumbered q out at (λ k. reaches_queue p r.filter k x.class ≡ true) r.reaches in
        let here : IsMember (as_offer x) (class_offers x.class (port_offers p out (group_events p group es))) = subst (IsMember (as_offer x)) (sym (offers_same r.number r.filter r.member out there x.class reach es)) (in_in_class x.class (as_offer x) (port_offers p out es) among refl) in
        let t = own_sent out there es (as_offer x) (in_class_in x.class (as_offer x) (port_offers p out (group_events p group es)) here).0 in
        record { number = t.number; filter = t.filter; member = t.member; flow = t.flow }

    -- The queues that the group's own events fill.
    abbrev pub queues : ℕ → ℕ → List (Copy CarriedFrame)
    queues q c = picked (class_offers c (offers_if p (find_port p.ports q) (group_events p group es))) (class_copies c (lists q))

    module _ (whole : AreFinished lists) where
      -- The copies of a queue that the group can reach fare as if the queue had its port to itself.
      pub served : (n : ℕ) (f : FilterPlan) → IsGroupMember p group n f → (q c : ℕ) (out : PortPlan A) → find_port p.ports q ≡ Some out → reaches_queue p f q c ≡ true → IsSolo (egress_rules out) (class_copies c (lists q))
      served n f i q c out at reach = solo (egress_rules out) c (moments q) (lists q) (λ x. occupied_some x.len out.speed) ((keeps n f i).window q c out at reach) (run.lawful q out at) (whole q)

      pub record IsSoloQueue (out : PortPlan A) (c : ℕ) (xs : List (Copy CarriedFrame)) : Type 0 where
        pub offers : copy_offers xs ≡ class_offers c (port_offers p out (group_events p group es))
        pub solo : IsSolo (egress_rules out) xs

      queue_is : (q c : ℕ) (out : PortPlan A) → find_port p.ports q ≡ Some out → (os : List Offer) → class_offers c (port_offers p out (group_events p group es)) ≡ os → IsSoloQueue out c (picked os (class_copies c (lists q)))
      queue_is q c out at [] e = record { offers = sym e; solo = tt }
      queue_is q c out at (o ∷ os) e =
          let there = at_own p.ports q out at in
          let here : IsMember o (class_offers c (port_offers p out (group_events p group es))) = subst (IsMember o) (sym e) (inl refl) in
          let (among, class) = in_class_in c o (port_offers p out (group_events p group es)) here in
          let t = own_sent out there es o among in
          let reach : reaches_queue p t.filter out.number c ≡ true = subst (λ (k : ℕ). reaches_queue p t.filter out.number k ≡ true) class t.reaches in
          record {
            offers = offered_only c (lists q) ∙ (ap (class_offers c) (run.offers q out at) ∙ sym (offers_same t.number t.filter t.member out there c reach es));
            solo = served t.number t.filter t.member q c out at (numbered q out at (λ k. reaches_queue p t.filter k c ≡ true) reach);
          }

      queue_at : (q c : ℕ) (out : PortPlan A) → find_port p.ports q ≡ Some out → IsSoloQueue out c (queues q c)
      queue_at q c out at =
          let r = queue_is q c out at (class_offers c (port_offers p out (group_events p group es))) refl in
          subst (λ (m : Option (PortPlan A)). IsSoloQueue out c (picked (class_offers c (offers_if p m (group_events p group es))) (class_copies c (lists q)))) (sym at) r

      none_there : (q c : ℕ) → lists q ≡ [] → queues q c ≡ []
      none_there q c e = ap (λ (xs : List (Copy CarriedFrame)). picked (class_offers c (offers_if p (find_port p.ports q) (group_events p group es))) (class_copies c xs)) e ∙ picked_empty (class_offers c (offers_if p (find_port p.ports q) (group_events p group es)))

      pub solo_queues : AreSolo p (group_events p group es) queues
      solo_queues = record {
        offers = λ q c out at. (queue_at q c out at).offers;
        solo = λ q c out at. (queue_at q c out at).solo;
        others = λ q c at. none_there q c (run.others q at);
      }

    -- The copies of a grouped filter are in these queues.
    lies_by : (n : ℕ) (f : FilterPlan) → IsGroupMember p group n f → (q : ℕ) (x : Copy CarriedFrame) (m : Option (PortPlan A)) → find_port p.ports q ≡ m → x.item.flow ≡ Some n → IsMember x (lists q) → IsMember x (picked (class_offers x.class (offers_if p m (group_events p group es))) (class_copies x.class (lists q)))
    lies_by n f i q x None at e j = let z : ⊥ = subst (IsMember x) (run.others q at) j in absurd z
    lies_by n f i q x (Some out) at e j =
        let there = at_own p.ports q out at in
        let among : IsMember (as_offer x) (port_offers p out es) = subst (IsMember (as_offer x)) (run.offers q out at) (in_offered x (lists q) j) in
        let reach = flow_reaches n f i out there es (as_offer x) among e in
        let own_one : IsMember (as_offer x) (class_offers x.class (port_offers p out (group_events p group es))) = subst (IsMember (as_offer x)) (sym (offers_same n f i out there x.class reach es)) (in_in_class x.class (as_offer x) (port_offers p out es) among refl) in
        in_picked x (as_offer x) (class_offers x.class (port_offers p out (group_events p group es))) (class_copies x.class (lists q)) own_one (in_only x.class x (lists q) j refl)

    lies : (n : ℕ) (f : FilterPlan) → IsGroupMember p group n f → (q : ℕ) (x : Copy CarriedFrame) → x.item.flow ≡ Some n → IsMember x (lists q) → (c : ℕ) × IsMember x (queues q c)
    lies n f i q x e j = (x.class, lies_by n f i q x (find_port p.ports q) refl e j)

    queued : (q : ℕ) (x : Copy CarriedFrame) → (c : ℕ) × IsMember x (queues q c) → IsMember x (lists q)
    queued q x j = only_in j.0 x (lists q) (picked_in x (class_offers j.0 (offers_if p (find_port p.ports q) (group_events p group es))) (class_copies j.0 (lists q)) j.1)

  -- VIEWS

  origins_same : (n : ℕ) (f : FilterPlan) → IsGroupMember p group n f → (es : List Event) → filter_origins p n (group_events p group es) ≡ filter_origins p n es
  origins_same n f i [] = refl
  origins_same n f i (Cleared clear m ∷ es) = by_bool (is_group_event p group (Cleared clear m)) (λ k. rw k (origins_same n f i es)) (λ k. rw k (origins_same n f i es))
  origins_same n f i (Arrived a ∷ es) = by_bool (is_filter_number n (arrival_filter p a))
      (λ k. let all : is_group_event p group (Arrived a) ≡ true = owned p group n f (Arrived a) i k in rw (all, k, origins_same n f i es) refl)
      (λ k. by_bool (is_group_event p group (Arrived a))
      (λ y. rw (y, k, origins_same n f i es) refl)
      (λ y. rw (y, k) (origins_same n f i es ∙ sym (append-nil (filter_origins p n es)))))

  view_same : (n : ℕ) (f : FilterPlan) → IsGroupMember p group n f → (es : List Event) (P Q : ℕ → Copy CarriedFrame → Type 0) → ((q : ℕ) (x : Copy CarriedFrame) → x.item.flow ≡ Some n → P q x → Q q x) → ((q : ℕ) (x : Copy CarriedFrame) → x.item.flow ≡ Some n → Q q x → P q x) → (v : View A) → IsFilterView p n f es P v → IsFilterView p n f (group_events p group es) Q v
  view_same n f i es P Q to from v h =
      let ds = group_events p group es in
      let ss : List FilterStep = police_steps p es in
      let ts : List FilterStep = police_steps p ds in
      let a = apart n f i in
      let e = steps_same n f i es in
      let l = told_listed (plan_police p) (filter_inputs p es) in
      let m = told_listed (plan_police p) (filter_inputs p ds) in
      let vs : filter_verdicts n ts ≡ filter_verdicts n ss = sym (verdicts_own n f ts) ∙ (ap (filter_verdicts n) e ∙ verdicts_own n f ss) in
      let t = h.told in
      record {
        protected = h.protected;
        verdicts = h.verdicts ∙ sym vs;
        origins = h.origins ∙ sym (origins_same n f i es);
        counters = h.counters ∙ ap verdict_counters (sym vs);
        flags = h.flags ∙ sym (sym (flags_own (plan_police p) n f a ts m) ∙ (ap (filter_flags (plan_police p) n f) e ∙ flags_own (plan_police p) n f a ss l));
        buckets = h.buckets ∙ sym (sym (buckets_own (plan_police p) n f a ts m f.meter refl) ∙ (ap (filter_buckets (plan_police p) f.meter) e ∙ buckets_own (plan_police p) n f a ss l f.meter refl));
        told = record {
          departures_rise = t.departures_rise;
          departures_are = λ d. ((λ j. departs_as p n P Q to d ((t.departures_are d).0 j)), (λ r. (t.departures_are d).1 (departs_as p n Q P from d r)));
          drops_rise = t.drops_rise;
          drops_are = λ d. ((λ j. drops_as p n P Q to d ((t.drops_are d).0 j)), (λ r. (t.drops_are d).1 (drops_as p n Q P from d r)));
          longest = greatest_as (IsFilterDelay p n P) (IsFilterDelay p n Q) (delayed_as p n P Q to) (delayed_as p n Q P from) v.delay t.longest;
        };
      }

  -- The record of a grouped filter in a run is its record with only the group's own events.
  pub members_alone : (n : ℕ) (f : FilterPlan) → IsGroupMember p group n f → (es : List Event) (lists : ℕ → List (Copy CarriedFrame)) (o : Outcome A) (v : View A) → IsOutcome p es lists o → lookup (nat_eq n) o.filters.items ≡ Some v → IsSoloView p n f (group_events p group es) v
  members_alone n f i es lists o v out found =
      let listed : lookup (nat_eq n) p.filters ≡ Some f = member_found p.filters n f plan.filters.own i.listed in
      let P : ℕ → Copy CarriedFrame → Type 0 = IsPortCopy lists in
      let Q : ℕ → Copy CarriedFrame → Type 0 = λ q x. (c : ℕ) × IsMember x (queues es out.moments lists out.run q c) in
      record {
        lists = queues es out.moments lists out.run;
        solo = solo_queues es out.moments lists out.run out.whole;
        view = view_same n f i es P Q (λ q x e j. lies es out.moments lists out.run n f i q x e j) (λ q x e j. queued es out.moments lists out.run q x j) v (out.views n f v listed found);
      }

  -- Two runs with equal own events of the group have equal records of its filters.
  pub two_runs : (n : ℕ) (f : FilterPlan) → IsGroupMember p group n f → (es others : List Event) (lists more : ℕ → List (Copy CarriedFrame)) (o q : Outcome A) (u v : View A) → group_events p group es ≡ group_events p group others → IsOutcome p es lists o → IsOutcome p others more q → lookup (nat_eq n) o.filters.items ≡ Some u → lookup (nat_eq n) q.filters.items ≡ Some v → AreSameViews u v
  two_runs n f i es others lists more o q u v same a b found there =
      let x = members_alone n f i es lists o u a found in
      let y = members_alone n f i others more q v b there in
      told_once p n f (group_events p group others) u v (subst (λ (ds : List Event). IsSoloView p n f ds u) same x) y

  -- The own events of one filter determine its verdicts, counters, flags and buckets.
  pub own_police : (n : ℕ) (f : FilterPlan) → IsGroupMember p group n f → (es : List Event) (lists : ℕ → List (Copy CarriedFrame)) (o : Outcome A) (v : View A) → IsOutcome p es lists o → lookup (nat_eq n) o.filters.items ≡ Some v → IsPoliceRecord p n f (own_events p n f es) v
  own_police n f i es lists o v out found =
      let listed : lookup (nat_eq n) p.filters ≡ Some f = member_found p.filters n f plan.filters.own i.listed in
      let h = out.views n f v listed found in
      let a = apart n f i in
      let ss : List FilterStep = police_steps p es in
      let e = steps_own p n f a es in
      let l = told_listed (plan_police p) (filter_inputs p es) in
      let vs : filter_verdicts n (police_steps p (own_events p n f es)) ≡ filter_verdicts n ss = ap (filter_verdicts n) e ∙ verdicts_own n f ss in
      record {
        verdicts = h.verdicts ∙ sym vs;
        counters = h.counters ∙ ap verdict_counters (sym vs);
        flags = h.flags ∙ sym (ap (filter_flags (plan_police p) n f) e ∙ flags_own (plan_police p) n f a ss l);
        buckets = h.buckets ∙ sym (ap (filter_buckets (plan_police p) f.meter) e ∙ buckets_own (plan_police p) n f a ss l f.meter refl);
      }

  pub police_alone : (n : ℕ) (f : FilterPlan) → IsGroupMember p group n f → (es others : List Event) (lists more : ℕ → List (Copy CarriedFrame)) (o q : Outcome A) (u v : View A) → own_events p n f es ≡ own_events p n f others → IsOutcome p es lists o → IsOutcome p others more q → lookup (nat_eq n) o.filters.items ≡ Some u → lookup (nat_eq n) q.filters.items ≡ Some v → HaveSamePoliceRecords u v
  police_alone n f i es others lists more o q u v same a b found there =
      let x : IsPoliceRecord p n f (own_events p n f others) u = subst (λ (ds : List Event). IsPoliceRecord p n f ds u) same (own_police n f i es lists o u a found) in
      let y = own_police n f i others more q v b there in
      record {
        verdicts = x.verdicts ∙ sym y.verdicts;
        counters = x.counters ∙ sym y.counters;
        flags = x.flags ∙ sym y.flags;
        buckets = x.buckets ∙ sym y.buckets;
      }
