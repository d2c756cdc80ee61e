-- The test of handed frames decides which filter the frames belong to at the next bridge.
use Rattle.std.proofs.Common.{◌≡◌, ℕ, true, false, ◌||◌, not, List, refl, ap, sym, ◌∙◌, subst, inl, inr, Option, Some, None, Ok}
use Rattle.std.specs.List.{list_all}
use Rattle.std.proofs.lemmas.Bool.{and_parts, eqb-true, eq-eqb}
use Rattle.std.proofs.lemmas.Option.{same_Some}
use Rattle.bridge_limits.specs.Members.{IsMember}
use Rattle.bridge_limits.proofs.Members.{each_passes}
use Rattle.bridge_frame.specs.declared.Head.{Head}
use Rattle.bridge_frame.specs.Frames.{parsed_head}
use Rattle.bridge_ident.specs.declared.StreamEntry.{StreamEntry}
use Rattle.bridge_ident.specs.Identification.{first_handle}
use Rattle.bridge_filter.specs.declared.FilterInput.{FilterInput}
use Rattle.bridge_filter.specs.declared.FilterPlan.{FilterPlan}
use Rattle.bridge_filter.specs.Verdicts as verdicts
use Rattle.bridge_filter.specs.OwnEvents.{is_filter_number}
use Rattle.bridge_forward.specs.Ports.{has_port}
use Rattle.bridge_forward.specs.Forward.{forward}
use Rattle.bridge_config.specs.declared.ports.PortPlan.{PortPlan}
use Rattle.bridge_config.specs.Model.{Plan}
use Rattle.bridge_config.specs.Rules.{IsPlan, find_port}
use Rattle.bridge_config.proofs.PlanPorts.{at_port, at_own}
use Rattle.bridge_check.specs.Acceptable.{IsAcceptable}
use Rattle.bridge_check.specs.FrameInput.{frame_vid, frame_priority}
use Rattle.bridge_semantics.specs.declared.destination.Destination.{Destination}
use Rattle.bridge_semantics.specs.declared.destination.Destination.TheVariants.{Forwarded}
use Rattle.bridge_semantics.specs.Events.{Arrival, arrival, Event, frame_destination, destination_input, arrival_input, plan_police, police_steps}
use Rattle.bridge_semantics.specs.Offers.{Offer, leaving_octets, step_offer, frame_step, destination_offer, port_offers}
use Rattle.bridge_semantics.proofs.Safe.{IsSafe}
use Rattle.bridge_semantics.proofs.Offering.{IsGoing, going, offered_by}
use Rattle.net_model.specs.LinkFrames.{FramePattern, possible_handles, matching_filter, can_leave, possible_tags, is_feeding_entry, frame_pattern}
use Rattle.net_model.specs.Handing.{gives_all, goes_on, hands_all, hands_entry, hands_tag, is_given, takes_all}
use Rattle.net_model.proofs.Feeding.{IsFrom, IsOfSort, IsTaken, after_not, flow_same, from_events, handle_among, may_by, ok_is, plain_priority, plain_vid, same_address, taken_way}
use Rattle.net_model.proofs.Marking.{plain, SameHead, leaving_head}

-- THE FILTER AT THE SENDER

-- A copy of an unfiltered frame has no filter.
unfiltered : {A : Type 0} (p : Plan A) (out : PortPlan A) (a : Arrival) (es : List Event) (c : FilterInput) (m : ℕ) (o : Offer) → IsMember o (step_offer p out a es c.priority (verdicts.input_step (plan_police p) (police_steps p es) c None)) → o.item.flow ≡ Some m → is_filter_number m None ≡ true
unfiltered p out a es c m o (inl same) flow =
    let none : o.item.flow ≡ None = ap (λ (z : Offer). z.item.flow) same in
    let both : ◌≡◌ {A = Option ℕ} None (Some m) = sym none ∙ flow in
    absurd (cc)
unfiltered p out a es c m o (inr i) flow = absurd i

same_number : (x : ℕ × FilterPlan) (m : ℕ) (o : Offer) → o.item.flow ≡ Some x.0 → o.item.flow ≡ Some m → is_filter_number m (Some x) ≡ true
same_number x m o a b = eq-eqb x.0 m (same_Some x.0 m (sym a ∙ b))

-- A copy of a filter comes from a frame that the filter accepts.
of_filter : {A : Type 0} (p : Plan A) (q m : ℕ) (out : PortPlan A) (o : Offer) (from : IsFrom p out o) (fl : Option (ℕ × FilterPlan)) → IsPlan p → find_port p.ports q ≡ Some out → o.item.flow ≡ Some m → verdicts.frame_filter p.filters from.call ≡ fl → is_filter_number m fl ≡ true
of_filter p q m out o from None plan at flow is =
    let a = from.frame in
    let c : FilterInput = from.call in
    let here : IsMember o (destination_offer p out a from.past (Forwarded from.set c)) = subst (λ (w : Destination). IsMember o (destination_offer p out a from.past w)) from.is from.offered in
    let step : IsMember o (step_offer p out a from.past c.priority (frame_step p from.past c)) = rw from.goes at here in
    unfiltered p out a from.past c m o (subst (λ (z : Option (ℕ × FilterPlan)). IsMember o (step_offer p out a from.past c.priority (verdicts.input_step (plan_police p) (police_steps p from.past) c z))) is step) flow
of_filter p q m out o from (Some x) plan at flow is =
    let called : arrival_input p from.frame ≡ Some from.call = ap destination_input from.is in
    let there = at_own p.ports q out at in
    same_number x m o (offered_by p out from.frame from.past from.call x o plan there called is from.offered).flow flow

-- THE FILTER AT THE NEXT BRIDGE

-- If a filter accepts all frames of a pattern, each frame of the pattern belongs to the filter.
of_sort : {A : Type 0} (next : Plan A) (on : PortPlan A) (n set : ℕ) (a : Arrival) (made : FilterInput) (s : FramePattern) → find_port next.ports a.port ≡ Some on → frame_destination next a ≡ Forwarded set made → ((h : Head) → parsed_head a.octets a.len ≡ Ok h → IsOfSort s h) → gives_all next on n s ≡ true → is_filter_number n (verdicts.frame_filter next.filters made) ≡ true
of_sort {A} next on n set a made s there goes sort gives =
    let g : IsGoing next a set made = going next a set made goes in
    let h = g.parsed in
    let is_sort : IsOfSort s h = sort h g.is in
    let here : g.on ≡ on = same_Some g.on on (sym g.at_port ∙ there) in
    let vid : frame_vid on s.tag ≡ frame_vid g.on h.tag = ap (frame_vid on) (sym is_sort.tag) ∙ (plain_vid on h.tag ∙ ap (λ (z : PortPlan A). frame_vid z h.tag) (sym here)) in
    let priority : frame_priority on s.tag ≡ made.priority = ap (frame_priority on) (sym is_sort.tag) ∙ (plain_priority on h.tag ∙ (ap (λ (z : PortPlan A). frame_priority z h.tag) (sym here) ∙ ap (λ (z : FilterInput). z.priority) g.call_is)) in
    let handle : first_handle next.streams on.number h (frame_vid on s.tag) ≡ made.handle = ap (λ (v : ℕ). first_handle next.streams on.number h v) vid ∙ (ap (λ (z : PortPlan A). first_handle next.streams z.number h (frame_vid g.on h.tag)) (sym here) ∙ ap (λ (z : FilterInput). z.handle) g.call_is) in
    let among : IsMember (first_handle next.streams on.number h (frame_vid on s.tag)) (possible_handles next.streams on.number (frame_vid on s.tag) s) = handle_among next.streams on.number h (frame_vid on s.tag) s is_sort in
    let given : is_filter_number n (matching_filter next (first_handle next.streams on.number h (frame_vid on s.tag)) (frame_priority on s.tag)) ≡ true = each_passes (is_given next on n s) (possible_handles next.streams on.number (frame_vid on s.tag) s) (first_handle next.streams on.number h (frame_vid on s.tag)) gives among in
    let same : matching_filter next (first_handle next.streams on.number h (frame_vid on s.tag)) (frame_priority on s.tag) ≡ verdicts.frame_filter next.filters made = flow_same next.filters (verdicts.filter_input 0 (first_handle next.streams on.number h (frame_vid on s.tag)) (frame_priority on s.tag) false 0 0) made handle priority in
    sym (ap (is_filter_number n) same) ∙ given

-- THE LINK

-- If the test holds, the next filter gets each frame that leaves the port from this filter.
pub each_handed : {A : Type 0} (p next : Plan A) (q r m n t set : ℕ) (f : FilterPlan) (made : FilterInput) (out on : PortPlan A) (es : List Event) (o : Offer) → IsPlan p → IsAcceptable p → IsMember (m, f) p.filters → f.protected ≡ true → find_port p.ports q ≡ Some out → find_port next.ports r ≡ Some on → hands_all p m q next on n ≡ true → IsMember o (port_offers p out es) → o.item.flow ≡ Some m → frame_destination next (arrival t r o.item.octets o.item.len) ≡ Forwarded set made → is_filter_number n (verdicts.frame_filter next.filters made) ≡ true
each_handed {A} p next q r m n t set f made out on es o plan good listed is at there test i flow goes =
    let safe : IsSafe p m f = record { plan = plan; listed = listed; passes = good m f listed is } in
    let from : IsFrom p out o = from_events p out es o i in
    let a = from.frame in
    let number : out.number ≡ q = (at_port p.ports q out at).number in
    let g : IsGoing p a from.set from.call = going p a from.set from.call from.is in
    let mine : is_filter_number m (verdicts.frame_filter p.filters from.call) ≡ true = of_filter p q m out o from (verdicts.frame_filter p.filters from.call) plan at flow refl in
    let x : IsTaken p g.on m a = taken_way p g.on m f a safe g.at_port (Forwarded from.set from.call) from.is mine in
    let e = x.entry in
    let tag : Option _ = plain x.parsed.tag in
    let s : FramePattern = frame_pattern e tag in
    let one : hands_entry p m q next on n e (find_port p.ports e.port) ≡ true = each_passes (λ (y : StreamEntry). hands_entry p m q next on n y (find_port p.ports y.port)) p.streams e test x.listed in
    let here : find_port p.ports e.port ≡ Some g.on = entry_port p g.on e m tag (at_own p.ports a.port g.on g.at_port) x.gives in
    let two : list_all (hands_tag p m q next on n e g.on) (possible_tags e.vid) ≡ true = subst (λ (z : Option (PortPlan A)). hands_entry p m q next on n e z ≡ true) here one in
    let three : hands_tag p m q next on n e g.on tag ≡ true = each_passes (hands_tag p m q next on n e g.on) (possible_tags e.vid) tag two x.tag in
    let four : (not (can_leave p.database g.on.number (frame_vid g.on tag) s q) || takes_all next on n s) ≡ true = after_not (is_feeding_entry p g.on m e tag) (not (can_leave p.database g.on.number (frame_vid g.on tag) s q) || takes_all next on n s) x.gives three in
    let sort : IsOfSort s x.parsed = record { tag = refl; address = sym x.address } in
    let parsed : g.parsed ≡ x.parsed = ok_is g.parsed x.parsed (sym g.is ∙ x.is) in
    let leaves : has_port (forward p.database g.on.number (frame_vid g.on g.parsed.tag) g.parsed.da) q ≡ true = subst (λ (k : ℕ). has_port (forward p.database g.on.number (frame_vid g.on g.parsed.tag) g.parsed.da) k ≡ true) number (subst (λ (z : ℕ). has_port z out.number ≡ true) (sym g.set_is) from.goes) in
    let may : can_leave p.database g.on.number (frame_vid g.on tag) s q ≡ true = may_by p g.on x.parsed s q s.kind refl sort (subst (λ (h : Head). has_port (forward p.database g.on.number (frame_vid g.on h.tag) h.da) q ≡ true) parsed leaves) in
    let takes : takes_all next on n s ≡ true = after_not (can_leave p.database g.on.number (frame_vid g.on tag) s q) (takes_all next on n s) may four in
    let (_, gives) = and_parts (goes_on next on s) (gives_all next on n s) takes in
    of_sort next on n set (arrival t r o.item.octets o.item.len) made s there goes (λ h read.
    let (k, again, same) = leaving_head from.leaves.eligible a.octets a.len x.parsed x.is in
    let sent : parsed_head (leaving_octets from.leaves.eligible a.octets) a.len ≡ Ok h = subst (λ (n : ℕ). parsed_head (leaving_octets from.leaves.eligible a.octets) n ≡ Ok h) from.leaves.len (subst (λ (v : List ℕ). parsed_head v o.item.len ≡ Ok h) from.leaves.octets read) in
    let is_h : k ≡ h = ok_is k h (sym again ∙ sent) in
    let both : SameHead x.parsed h = subst (SameHead x.parsed) is_h same in
    record { tag = sym both.tag; address = sym (same_address e.kind x.parsed h both) ∙ sym x.address }) gives
  where
    -- An entry that gives frames at a port stands on this port.
    entry_port : {A : Type 0} (p : Plan A) (on : PortPlan A) (e : StreamEntry) (m : ℕ) (tag : Option _) → find_port p.ports on.number ≡ Some on → is_feeding_entry p on m e tag ≡ true → find_port p.ports e.port ≡ Some on
    entry_port p on e m tag own gives =
        let (abc, d) = and_parts _ _ gives in
        let (ab, c) = and_parts _ _ abc in
        let (x, b) = and_parts _ _ ab in
        subst (λ (k : ℕ). find_port p.ports k ≡ Some on) (sym (eqb-true e.port on.number x)) own
