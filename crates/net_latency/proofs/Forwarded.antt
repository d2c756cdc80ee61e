-- If the stream entries of a stream compare destination addresses, each frame of its talker has a path.
use Rattle.std.proofs.Common.{◌≡◌, ℕ, Bool, true, false, not, ◌&&◌, ◌||◌, List, [], ◌∷◌, Option, Some, Ok, nat_eq, refl, sym, ◌∙◌, subst, inl, inr}
use Rattle.std.specs.Prelude.{◌⊎◌}
use Rattle.std.specs.List.{list_all}
use Rattle.std.proofs.lemmas.Bool.{and_parts, eqb-true, false≢true}
use Rattle.bridge_limits.specs.Members.{IsMember}
use Rattle.bridge_limits.proofs.Cases.{by_bool}
use Rattle.bridge_limits.proofs.Members as members
use Rattle.bridge_limits.proofs.Orders.{same_eq}
use Rattle.bridge_frame.specs.declared.Head.{Head}
use Rattle.bridge_frame.specs.Frames.{parsed_head}
use Rattle.bridge_filter.specs.declared.FilterInput.{FilterInput}
use Rattle.bridge_filter.specs.declared.FilterPlan.{FilterPlan}
use Rattle.bridge_filter.specs.OwnEvents.{is_filter_number}
use Rattle.bridge_forward.specs.Database.{static_ports, vlan_members}
use Rattle.bridge_forward.specs.Forward.{forward, is_reserved}
use Rattle.bridge_forward.specs.Ports.{has_port}
use Rattle.bridge_forward.proofs.Memberships.{empty_is_zero, goes_to_fits}
use Rattle.bridge_ident.specs.declared.Kind.{Kind}
use Rattle.bridge_ident.specs.declared.Kind.TheVariants.{Null, Source}
use Rattle.bridge_ident.specs.declared.StreamEntry.{StreamEntry}
use Rattle.bridge_ident.specs.Identification.{accepts_tag, compared_address}
use Rattle.bridge_config.specs.declared.ports.PortPlan.{PortPlan}
use Rattle.bridge_config.specs.Model.{Plan}
use Rattle.bridge_config.specs.Rules.{IsPlan, find_port}
use Rattle.bridge_config.proofs.PlanPorts.{at_own, at_port, goes_nowhere, there_is}
use Rattle.bridge_check.specs.FrameInput as sending
use Rattle.bridge_check.specs.FrameInput.{frame_vid, frame_priority}
use Rattle.bridge_check.specs.Reach.{are_null_kinds, is_null_kind}
use Rattle.bridge_semantics.specs.declared.destination.Destination.TheVariants as way
use Rattle.bridge_semantics.specs.Events.{Arrival, arrival, arrival_filter, frame_destination, metered_octets}
use Rattle.bridge_semantics.proofs.Offering.{IsGoing, going}
use Rattle.bridge_semantics.proofs.Safe.{IsSafe}
use Rattle.net_model.specs.Faults.{protected_handle}
use Rattle.net_model.specs.Handing.{gives_all, goes_on, hands_all, hands_entry, hands_tag, takes_all}
use Rattle.net_model.specs.LinkFrames.{FramePattern, can_leave, frame_pattern, is_feeding_entry, matching_filter, possible_tags}
use Rattle.net_model.proofs.Feeding.{IsOfSort, IsTaken, after_not, may_by, ok_is, plain_vid, taken_way}
use Rattle.net_model.proofs.Handles.{names_handle}
use Rattle.net_model.proofs.Marking.{plain}
use Rattle.net_latency.specs.Delivered.{IsForwardedByPort}
use Rattle.net_latency.proofs.SentCopies.{at_other_time}

-- A PORT THAT FORWARDS A FRAME

some_or_none : {A : Type 0} (set : ℕ) (ports : List (PortPlan A)) → ((on : PortPlan A) × IsMember on ports × (has_port set on.number ≡ true)) ⊎ ((on : PortPlan A) → IsMember on ports → has_port set on.number ≡ false)
some_or_none set [] = inr (λ on i. absurd i)
some_or_none {A} set (p ∷ ps) = by_bool (has_port set p.number)
    (λ k. inl (p, inl refl, k))
    (λ k. elim (some_or_none set ps) [
      | inl found ↦ (let (on, i, is) = found in inl (on, inr i, is))
      | inr none ↦ inr (λ on i. elim i [ inl same ↦ subst (λ (z : PortPlan A). has_port set z.number ≡ false) (sym same) k | inr j ↦ none on j ])
    ])

-- A forwarded frame has an egress port.
pub some_port : {A : Type 0} (p : Plan A) (octets : List ℕ) (len r t set : ℕ) (c : FilterInput) → IsPlan p → frame_destination p (arrival t r octets len) ≡ way.Forwarded set c → (q : ℕ) × IsForwardedByPort p octets len r q
some_port {A} p octets len r t set c plan is =
    let g = going p (arrival t r octets len) set c is in
    let (d, first) = at_other_time p octets len r t 0 set c is in
    let ports : ℕ = forward p.database g.on.number (frame_vid g.on g.parsed.tag) g.parsed.da in
    elim (some_or_none set p.ports) [
      | inl found ↦ (let (on, i, has) = found in
          let (out, at) = there_is p.ports on.number (members.in_map (λ (z : PortPlan A). z.number) p.ports on i) in
          (on.number, record { ports = set; input = d; out = out; is = first; goes = has; at = at }))
      | inr none ↦ (let empty = goes_nowhere p g.on.number (frame_vid g.on g.parsed.tag) g.parsed.da plan (λ q out at.
          let place = at_port p.ports q out at in
          let no : has_port set q ≡ false = subst (λ (k : ℕ). has_port set k ≡ false) place.number (none out place.listed) in
          subst (λ (z : ℕ). has_port z q ≡ false) (sym g.set_is) no) in
          let nothing : ports ≡ 0 = empty_is_zero ports (goes_to_fits (is_reserved g.parsed.da) (vlan_members p.database.vlans (frame_vid g.on g.parsed.tag)) (static_ports p.database.statics (frame_vid g.on g.parsed.tag) g.parsed.da) g.on.number) empty in
          let test : nat_eq ports 0 ≡ true = subst (λ (z : ℕ). nat_eq z 0 ≡ true) (sym nothing) refl in
          let z : way.Nowhere ≡ way.Forwarded set c = rw (g.at_port, g.is, test) at is in
          absurd (cc))
    ]

-- A FRAME OVER A LINK

-- A frame whose egress ports aren't empty is forwarded.
forwarded_by : {A : Type 0} (next : Plan A) (on : PortPlan A) (r : ℕ) (octets : List ℕ) (len : ℕ) (y : Head) → find_port next.ports r ≡ Some on → parsed_head octets len ≡ Ok y → nat_eq (forward next.database on.number (frame_vid on y.tag) y.da) 0 ≡ false
    → (set : ℕ) × (d : FilterInput) × (frame_destination next (arrival 0 r octets len) ≡ way.Forwarded set d)
forwarded_by next on r octets len y at read some = (forward next.database on.number (frame_vid on y.tag) y.da, sending.frame_input next on 0 y (metered_octets len), rw (at, read, some) refl)

-- The next bridge forwards a frame that an entry with a destination address gives to the sender's filter.
pub goes_over : {A : Type 0} (p next : Plan A) (q r m k : ℕ) (f : FilterPlan) (a : Arrival) (on : PortPlan A) (h : ℕ) → IsSafe p m f → protected_handle p.filters m ≡ Some h → are_null_kinds h p.streams ≡ true → is_filter_number m (arrival_filter p a) ≡ true
    → (fw : IsForwardedByPort p a.octets a.len a.port q) → find_port next.ports r ≡ Some on → hands_all p m q next on k ≡ true → (set : ℕ) × (d : FilterInput) × (frame_destination next (arrival 0 r a.octets a.len) ≡ way.Forwarded set d)
goes_over {A} p next q r m k f a on h safe named null own fw at test =
    let (c, is) = at_other_time p a.octets a.len a.port 0 a.at fw.ports fw.input fw.is in
    let g : IsGoing p a fw.ports c = going p a fw.ports c is in
    let x : IsTaken p g.on m a = taken_way p g.on m f a safe g.at_port (frame_destination p a) refl own in
    let e : StreamEntry = x.entry in
    let tag = plain x.parsed.tag in
    let s : FramePattern = frame_pattern e tag in
    let (before, number) = and_parts (nat_eq e.port g.on.number && nat_eq e.vid (frame_vid g.on tag) && accepts_tag e.tag tag) (is_filter_number m (matching_filter p (Some e.handle) (frame_priority g.on tag))) x.gives in
    let (two_parts, tagged) = and_parts (nat_eq e.port g.on.number && nat_eq e.vid (frame_vid g.on tag)) (accepts_tag e.tag tag) before in
    let (port, vlan) = and_parts (nat_eq e.port g.on.number) (nat_eq e.vid (frame_vid g.on tag)) two_parts in
    let handle : nat_eq e.handle h ≡ true = rw (names_handle p m h safe.plan named e.handle (frame_priority g.on tag) number) (same_eq h) in
    let kind : is_null_kind e.kind ≡ true = after_not (nat_eq e.handle h) (is_null_kind e.kind) handle (members.each_passes (λ (y : StreamEntry). not (nat_eq y.handle h) || is_null_kind y.kind) p.streams e null x.listed) in
    let here : find_port p.ports e.port ≡ Some g.on = subst (λ (i : ℕ). find_port p.ports i ≡ Some g.on) (sym (eqb-true e.port g.on.number port)) (at_own p.ports a.port g.on g.at_port) in
    let one : hands_entry p m q next on k e (find_port p.ports e.port) ≡ true = members.each_passes (λ (y : StreamEntry). hands_entry p m q next on k y (find_port p.ports y.port)) p.streams e test x.listed in
    let two : list_all (hands_tag p m q next on k e g.on) (possible_tags e.vid) ≡ true = subst (λ (z : Option (PortPlan A)). hands_entry p m q next on k e z ≡ true) here one in
    let three : hands_tag p m q next on k e g.on tag ≡ true = members.each_passes (hands_tag p m q next on k e g.on) (possible_tags e.vid) tag two x.tag in
    let four : (not (can_leave p.database g.on.number (frame_vid g.on tag) s q) || takes_all next on k s) ≡ true = after_not (is_feeding_entry p g.on m e tag) (not (can_leave p.database g.on.number (frame_vid g.on tag) s q) || takes_all next on k s) x.gives three in
    let sort : IsOfSort s x.parsed = record { tag = refl; address = sym x.address } in
    let parsed : g.parsed ≡ x.parsed = ok_is g.parsed x.parsed (sym g.is ∙ x.is) in
    let leaves : has_port (forward p.database g.on.number (frame_vid g.on g.parsed.tag) g.parsed.da) q ≡ true = subst (λ (z : ℕ). has_port z q ≡ true) (sym g.set_is) fw.goes in
    let may : can_leave p.database g.on.number (frame_vid g.on tag) s q ≡ true = may_by p g.on x.parsed s q s.kind refl sort (subst (λ (y : Head). has_port (forward p.database g.on.number (frame_vid g.on y.tag) y.da) q ≡ true) parsed leaves) in
    let takes : takes_all next on k s ≡ true = after_not (can_leave p.database g.on.number (frame_vid g.on tag) s q) (takes_all next on k s) may four in
    let (goes, gives) = and_parts (goes_on next on s) (gives_all next on k s) takes in
    let some : not (nat_eq (forward next.database on.number (frame_vid on tag) e.address) 0) ≡ true = after_not (is_null_kind e.kind) (not (nat_eq (forward next.database on.number (frame_vid on tag) e.address) 0)) kind goes in
    let address : e.address ≡ x.parsed.da = x.address ∙ null_address e.kind x.parsed kind in
    let also : not (nat_eq (forward next.database on.number (frame_vid on x.parsed.tag) x.parsed.da) 0) ≡ true =
    subst (λ (v : ℕ). not (nat_eq (forward next.database on.number v x.parsed.da) 0) ≡ true) (plain_vid on x.parsed.tag) (subst (λ (v : List ℕ). not (nat_eq (forward next.database on.number (frame_vid on tag) v) 0) ≡ true) address some) in
    let zero : nat_eq (forward next.database on.number (frame_vid on x.parsed.tag) x.parsed.da) 0 ≡ false = not_true (nat_eq (forward next.database on.number (frame_vid on x.parsed.tag) x.parsed.da) 0) also in
    forwarded_by next on r a.octets a.len x.parsed at x.is zero
  where
    not_true : (b : Bool) → not b ≡ true → b ≡ false
    not_true true h = absurd (false≢true h)
    not_true false h = refl

    null_address : (v : Kind) (y : Head) → is_null_kind v ≡ true → compared_address v y ≡ y.da
    null_address Null y h = refl
    null_address Source y h = absurd (false≢true h)
