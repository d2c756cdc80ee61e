-- Frames of a conforming talker are delivered in time.
use Rattle.std.proofs.Common.{◌≡◌, ◌≤◌, ◌+◌, ℕ, Bool, true, false, Option, Some, List, [], ◌∷◌, ◌++◌, arith, ap, refl, sym, subst, inl, inr, ◌∙◌}
use Rattle.std.proofs.lemmas.Bool.{both_ways}
use Rattle.bridge_limits.specs.Members.{IsMember}
use Rattle.bridge_limits.proofs.Members.{in_left, in_right}
use Rattle.bridge_cycle.specs.Fits.{Fits}
use Rattle.bridge_frame.specs.Link.{transmission_time}
use Rattle.bridge_forward.specs.Ports.{has_port}
use Rattle.bridge_filter.specs.declared.FilterInput.{FilterInput}
use Rattle.bridge_filter.specs.declared.FilterPlan.{FilterPlan}
use Rattle.bridge_filter.specs.declared.Verdict.TheVariants as verdict
use Rattle.bridge_filter.specs.Verdicts as verdicts
use Rattle.bridge_filter.specs.Verdicts.{frame_filter, frame_verdict}
use Rattle.bridge_port.specs.GateSchedule.{Always, Changing, GateSchedule, HasLawfulLists, One, can_fit, gate_schedule, list_opens, lists_can_fit, lists_open}
use Rattle.bridge_port.specs.Schedule.{Copy, Fate, Full, Never, PortRules, Queued, Started}
use Rattle.bridge_port.specs.Solo.{IsSolo, IsSoloFate, class_copies}
use Rattle.bridge_port.proofs.Opening.{exchanged_ever_is, list_ever_is}
use Rattle.bridge_config.specs.declared.ports.PortPlan.{PortPlan}
use Rattle.bridge_config.specs.Model.{Plan}
use Rattle.bridge_config.specs.Rules.{IsPlan, find_port}
use Rattle.bridge_config.proofs.PlanPorts.{at_port, port_is}
use Rattle.bridge_check.specs.Reach.{reaches_queue}
use Rattle.bridge_check.specs.Windows.{longest_frame}
use Rattle.bridge_check.proofs.Isolated.{made}
use Rattle.bridge_semantics.specs.declared.destination.Destination.TheVariants as way
use Rattle.bridge_semantics.specs.Events.{Arrival, Arrived, Cleared, Event, count_filter_frames, frame_destination, plan_police, police_steps}
use Rattle.bridge_semantics.specs.Offers.{CarriedFrame, Offer, arrival_offer, copy_offers, destination_offer, egress_rules, frame_step, make_offer, port_offers, step_offer, verdict_offer}
use Rattle.bridge_semantics.specs.Runs.{AreFinished, IsRun}
use Rattle.bridge_semantics.proofs.Headline.{as_offer, in_offered, in_only}
use Rattle.bridge_bounds.proofs.Sizes.{occupied_rises, within_size}
use Rattle.bridge_groups.specs.Work.{IsSufficientRoom, IsDelayBound}
use Rattle.bridge_groups.specs.Curves.{AreArrivalsInOrder, HaveMeters, AreSharers, sharers_curve, sharers_frame_limit}
use Rattle.bridge_check.specs.Acceptable.{HasAcceptableGroups}
use Rattle.bridge_semantics.specs.Groups.{IsGroupMember, IsGroupQueue}
use Rattle.bridge_groups.specs.Talkers.{IsDelivered, AdmitsTalker, IsConformingTalker}
use Rattle.bridge_groups.proofs.Passing.{each_passes}
use Rattle.bridge_groups.proofs.Sharing.{done_by_meters, room_by_meters}
use Rattle.bridge_semantics.proofs.Grouped as group_of

-- If a transmission fits at some time, a shorter one fits at this time.
fits_less : (opens : ℕ → Bool) (n m t : ℕ) → m ≤ n → Fits opens n t → Fits opens m t
fits_less opens n m t h fits = λ u p q. fits u p (omega (arith, q, h))

ever_falls : (o : GateSchedule) (c m n : ℕ) → HasLawfulLists o → m ≤ n → can_fit o c n ≡ true → can_fit o c m ≡ true
ever_falls Always c m n made l h = refl
ever_falls (One l) c m n made le h = let (t, f) = (list_ever_is l c n made).0 h in (list_ever_is l c m made).1 (t, fits_less (list_opens l c) n m t le f)
ever_falls (Changing j) c m n made le h =
    let both = (exchanged_ever_is j c n made).0 h in
    let (t, f) = both.0 in
    let (u, g) = both.1 in
    (exchanged_ever_is j c m made).1 ((t, fits_less (list_opens j.old c) n m t le f), (u, fits_less (list_opens j.new c) n m u le g))

-- An offer in the list of offers belongs to a copy of the list.
offered_in : (o : Offer) (xs : List (Copy CarriedFrame)) → IsMember o (copy_offers xs) → (x : Copy CarriedFrame) × IsMember x xs × (as_offer x ≡ o)
offered_in o [] i = absurd i
offered_in o (x ∷ xs) (inl same) = (x, inl refl, sym same)
offered_in o (x ∷ xs) (inr later) = let (y, i, same) = offered_in o xs later in (y, inr i, same)

-- If a queue has its link to itself, each copy has the fate that the rules give.
fate_in : {X : Type 0} (r : PortRules X) (x : Copy X) (xs : List (Copy X)) → IsSolo r xs → IsMember x xs → (older : List (Copy X)) × IsSoloFate r x older x.fate
fate_in r x [] solo i = absurd i
fate_in r x (y ∷ ys) solo (inl same) = (ys, subst (λ (z : Copy _). IsSoloFate r z ys z.fate) (sym same) solo.0)
fate_in r x (y ∷ ys) solo (inr later) = fate_in r x ys solo.1 later

-- A copy that the queue doesn't drop has started, not before its arrival.
begun : {X : Type 0} (r : PortRules X) (x : Copy X) (older : List (Copy X)) (g : Fate) → x.fate ≡ g → r.ever x.class (r.occ x.item) ≡ true → (x.fate ≡ Full → ⊥) → IsSoloFate r x older g → (s : ℕ) × (x.fate ≡ Started s) × (x.at ≤ s)
begun r x older Never is can free fate = absurd (both_ways _ fate can)
begun r x older Full is can free fate = absurd (free is)
begun r x older Queued is can free fate = absurd fate
begun r x older (Started s) is can free (possible, waiting, first) = let late = first.after in (s, is, omega (arith, late))

-- Older events keep the order and the conformance of the talker.
order_before : (newer : List Event) (es : List Event) → AreArrivalsInOrder (newer ++ es) → AreArrivalsInOrder es
order_before [] es h = h
order_before (Arrived a ∷ newer) es h = order_before newer es h.1
order_before (Cleared c k ∷ newer) es h = order_before newer es h

keeps_before : {A : Type 0} (p : Plan A) (n most burst rate : ℕ) (newer es : List Event) → IsConformingTalker p n most burst rate (newer ++ es) → IsConformingTalker p n most burst rate es
keeps_before p n most burst rate [] es h = h
keeps_before p n most burst rate (Arrived a ∷ newer) es h = keeps_before p n most burst rate newer es h.1
keeps_before p n most burst rate (Cleared c k ∷ newer) es h = keeps_before p n most burst rate newer es h

offers_later : {A : Type 0} (p : Plan A) (out : PortPlan A) (o : Offer) (newer es : List Event) → IsMember o (port_offers p out es) → IsMember o (port_offers p out (newer ++ es))
offers_later p out o [] es i = i
offers_later p out o (Arrived a ∷ newer) es i = in_right o (arrival_offer p out a (newer ++ es)) (port_offers p out (newer ++ es)) (offers_later p out o newer es i)
offers_later p out o (Cleared c k ∷ newer) es i = offers_later p out o newer es i

-- A frame that passes its filter offers a copy to each of its egress ports.
passed_offer : {A : Type 0} (p : Plan A) (out : PortPlan A) (a : Arrival) (es : List Event) (set n : ℕ) (c : FilterInput) (f : FilterPlan) (ipv : Option ℕ) → frame_destination p a ≡ way.Forwarded set c → has_port set out.number ≡ true → frame_filter p.filters c ≡ Some (n, f) → frame_verdict (plan_police p) (police_steps p es) c n f ≡ verdict.Pass ipv false → arrival_offer p out a es ≡ make_offer out a c.priority (Some n) (count_filter_frames p n es + 1) ipv false ∷ []
passed_offer p out a es set n c f ipv is goes fl passes =
    let one : arrival_offer p out a es ≡ destination_offer p out a es (way.Forwarded set c) = ap (destination_offer p out a es) is in
    let two : destination_offer p out a es (way.Forwarded set c) ≡ step_offer p out a es c.priority (frame_step p es c) = rw goes refl in
    let three : step_offer p out a es c.priority (frame_step p es c) ≡ verdict_offer out a c.priority n (count_filter_frames p n es + 1) (frame_verdict (plan_police p) (police_steps p es) c n f) = ap (λ (z : Option (ℕ × FilterPlan)). step_offer p out a es c.priority (verdicts.input_step (plan_police p) (police_steps p es) c z)) fl in
    let four : verdict_offer out a c.priority n (count_filter_frames p n es + 1) (frame_verdict (plan_police p) (police_steps p es) c n f) ≡ make_offer out a c.priority (Some n) (count_filter_frames p n es + 1) ipv false ∷ [] = ap (verdict_offer out a c.priority n (count_filter_frames p n es + 1)) passes in
    one ∙ (two ∙ (three ∙ four))

module _ {A : Type 0} (p : Plan A) (group : ℕ) (plan : IsPlan p) (is : HasAcceptableGroups p) where
  -- A copy of a member's frame that its queue doesn't drop as full has started.
  pub starts : (n q : ℕ) (f : FilterPlan) (out : PortPlan A) (es : List Event) (moments : ℕ → ℕ) (lists : ℕ → List (Copy CarriedFrame)) (x : Copy CarriedFrame)
      → IsGroupMember p group n f → IsRun p es moments lists → AreFinished lists → find_port p.ports q ≡ Some out → IsMember x (lists q) → x.item.flow ≡ Some n → reaches_queue p f q x.class ≡ true → (x.fate ≡ Full → ⊥) → (s : ℕ) × (x.fate ≡ Started s) × (x.at ≤ s)
  starts n q f out es moments lists x member run whole at listed flow_is reach free =
      let solo = group_of.served p group plan is es moments lists run whole n f member q x.class out at reach in
      let here = in_only x.class x (lists q) listed refl in
      let (older, fate) = fate_in (egress_rules out) x (class_copies x.class (lists q)) solo here in
      let keeps = group_of.keeps p group plan is n f member in
      let (m, size) = keeps.max_sdu in
      let among : IsMember (as_offer x) (port_offers p out es) = subst (IsMember (as_offer x)) (run.offers q out at) (in_offered x (lists q) listed) in
      let short = within_size p n m f out es (as_offer x) plan (member.listed) size flow_is among in
      let on_link : transmission_time x.item.len out.speed ≤ transmission_time (longest_frame m) out.speed = occupied_rises x.item.len (longest_frame m) out.speed short in
      let port = (port_is p.ports q out plan.ports at).0 in
      let can : lists_can_fit out.list x.class (transmission_time x.item.len out.speed) ≡ true = ever_falls (gate_schedule out.list) x.class (transmission_time x.item.len out.speed) (transmission_time (longest_frame m) out.speed) (made out.list port.list) on_link (keeps.can_fit q x.class m out at reach size) in
      begun (egress_rules out) x older x.fate refl can free fate

  -- A copy that the talker's filter offers is delivered.
  copy_delivered : (sharers : List (ℕ × FilterPlan)) (n q sdu b number : ℕ) (f : FilterPlan) (out : PortPlan A) (a : Arrival) (es : List Event) (moments : ℕ → ℕ) (lists : ℕ → List (Copy CarriedFrame)) (x : Copy CarriedFrame)
      → IsGroupMember p group n f → IsRun p es moments lists → AreFinished lists → AreArrivalsInOrder es → find_port p.ports q ≡ Some out → IsMember x (lists q) → x.item.flow ≡ Some n → x.at ≡ a.at → x.item.len ≡ a.len → x.item.own ≡ number
      → AreSharers p group q x.class sdu sharers
      → HaveMeters sharers
      → IsDelayBound (lists_open out.list x.class) (transmission_time (longest_frame sdu) out.speed) (transmission_time 60 out.speed) (sharers_curve p sharers out.speed) b
      → IsSufficientRoom (lists_open out.list x.class) (transmission_time (longest_frame sdu) out.speed) (transmission_time 60 out.speed) (sharers_curve p sharers out.speed) (sharers_frame_limit p sharers) ((egress_rules out).room x.class)
      → IsDelivered out (lists q) a n number b
  copy_delivered sharers n q sdu b number f out a es moments lists x member run whole order at listed flow_is came len own share metered within room =
      let reach = group_of.member_in_reach p group plan is es moments lists run n f member q out x at listed flow_is in
      let reached : IsGroupQueue p group q x.class = record { number = n; filter = f; member = member; reaches = reach } in
      let free : x.fate ≡ Full → ⊥ = λ full. room_by_meters p group sharers q x.class sdu out plan is at reached share metered es moments lists run whole order x room listed refl full in
      let (s, started, late) = starts n q f out es moments lists x member run whole at listed flow_is reach free in
      let done = done_by_meters p group sharers q x.class sdu out plan is at reached share metered es moments lists run whole order b s x within listed refl started in
      record { copy = x; start = s; listed = listed; at = came; len = len; flow = flow_is; own = own; started = started; done = omega (arith, done, came) }

  -- A copy of a talker's frame in a queue that its filter can reach.
  pub record IsOwnCopy (n q number : ℕ) (f : FilterPlan) (a : Arrival) (copies : List (Copy CarriedFrame)) : Type 0 where
    pub copy : Copy CarriedFrame
    pub listed : IsMember copy copies
    pub at : copy.at ≡ a.at
    pub len : copy.item.len ≡ a.len
    pub flow : copy.item.flow ≡ Some n
    pub own : copy.item.own ≡ number
    pub reach : reaches_queue p f q copy.class ≡ true

  -- Each frame of an admitted talker has a copy at each of its egress ports.
  pub own_copy : (n m most burst rate q set : ℕ) (f : FilterPlan) (out : PortPlan A) (a : Arrival) (newer older : List Event) (c : FilterInput) (moments : ℕ → ℕ) (lists : ℕ → List (Copy CarriedFrame))
      → IsGroupMember p group n f → AdmitsTalker p f m most burst rate → IsRun p (newer ++ Arrived a ∷ older) moments lists → AreArrivalsInOrder (newer ++ Arrived a ∷ older) → IsConformingTalker p n most burst rate (newer ++ Arrived a ∷ older)
      → frame_destination p a ≡ way.Forwarded set c → frame_filter p.filters c ≡ Some (n, f) → has_port set q ≡ true → find_port p.ports q ≡ Some out → IsOwnCopy n q (count_filter_frames p n older + 1) f a (lists q)
  own_copy n m most burst rate q set f out a newer older c moments lists member lets run order keeps goes fl sent at =
      let es : List Event = newer ++ Arrived a ∷ older in
      let apart = group_of.apart p group plan is n f member in
      let (ipv, passes) = each_passes p n m most burst rate f apart lets a older set c goes fl (order_before newer (Arrived a ∷ older) order) (keeps_before p n most burst rate newer (Arrived a ∷ older) keeps) in
      let there : has_port set out.number ≡ true = subst (λ (k : ℕ). has_port set k ≡ true) (sym (at_port p.ports q out at).number) sent in
      let o : Offer = make_offer out a c.priority (Some n) (count_filter_frames p n older + 1) ipv false in
      let one = passed_offer p out a older set n c f ipv goes there fl passes in
      let now : IsMember o (arrival_offer p out a older) = subst (IsMember o) (sym one) (inl refl) in
      let among : IsMember o (port_offers p out es) = offers_later p out o newer (Arrived a ∷ older) (in_left o (arrival_offer p out a older) (port_offers p out older) now) in
      let (x, listed, same) = offered_in o (lists q) (subst (IsMember o) (sym (run.offers q out at)) among) in
      let flow_is : x.item.flow ≡ Some n = ap (λ (z : Offer). z.item.flow) same in
      record {
        copy = x;
        listed = listed;
        at = ap (λ (z : Offer). z.at) same;
        len = ap (λ (z : Offer). z.item.len) same;
        flow = flow_is;
        own = ap (λ (z : Offer). z.item.own) same;
        reach = group_of.member_in_reach p group plan is es moments lists run n f member q out x at listed flow_is;
      }

  -- Each frame of an admitted talker is delivered in time at each of its egress ports.
  pub delivered : (n m most burst rate q set sdu b : ℕ) (f : FilterPlan) (sharers : ℕ → List (ℕ × FilterPlan)) (out : PortPlan A) (a : Arrival) (newer older : List Event) (c : FilterInput) (moments : ℕ → ℕ) (lists : ℕ → List (Copy CarriedFrame))
      → IsGroupMember p group n f → AdmitsTalker p f m most burst rate → IsRun p (newer ++ Arrived a ∷ older) moments lists → AreFinished lists → AreArrivalsInOrder (newer ++ Arrived a ∷ older) → IsConformingTalker p n most burst rate (newer ++ Arrived a ∷ older)
      → frame_destination p a ≡ way.Forwarded set c → frame_filter p.filters c ≡ Some (n, f) → has_port set q ≡ true → find_port p.ports q ≡ Some out
      → ((k : ℕ) → reaches_queue p f q k ≡ true → AreSharers p group q k sdu (sharers k))
      → ((k : ℕ) → reaches_queue p f q k ≡ true → HaveMeters (sharers k))
      → ((k : ℕ) → reaches_queue p f q k ≡ true → IsDelayBound (lists_open out.list k) (transmission_time (longest_frame sdu) out.speed) (transmission_time 60 out.speed) (sharers_curve p (sharers k) out.speed) b)
      → ((k : ℕ) → reaches_queue p f q k ≡ true → IsSufficientRoom (lists_open out.list k) (transmission_time (longest_frame sdu) out.speed) (transmission_time 60 out.speed) (sharers_curve p (sharers k) out.speed) (sharers_frame_limit p (sharers k)) ((egress_rules out).room k))
      → IsDelivered out (lists q) a n (count_filter_frames p n older + 1) b
  delivered n m most burst rate q set sdu b f sharers out a newer older c moments lists member lets run whole order keeps goes fl sent at share metered within room =
      let own = own_copy n m most burst rate q set f out a newer older c moments lists member lets run order keeps goes fl sent at in
      let x = own.copy in
      copy_delivered (sharers x.class) n q sdu b (count_filter_frames p n older + 1) f out a (newer ++ Arrived a ∷ older) moments lists x member run whole order at own.listed own.flow own.at own.len own.own (share x.class own.reach) (metered x.class own.reach) (within x.class own.reach) (room x.class own.reach)
