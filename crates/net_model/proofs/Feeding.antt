-- The test on two plans decides which frames a hop accepts over a link.
use Rattle.std.proofs.Common.{◌≡◌, ◌≤◌, ℕ, zero, suc, Bool, true, false, not, ◌&&◌, ◌||◌, List, [], ◌∷◌, map, arith, refl, ap, sym, ◌∙◌, subst, inl, inr, cond, Option, Some, None, Result, Ok, nat_eq}
use Rattle.std.specs.List.{list_all}
use Rattle.std.specs.Option.{ForSome}
use Rattle.std.specs.Str.{bytes_eq}
use Rattle.std.proofs.lemmas.Bool.{and_parts, or_cases, eqb-true, eq-eqb, false≢true}
use Rattle.std.proofs.lemmas.Option.{same_Some}
use Rattle.std.proofs.lemmas.Slice.Eq.{bytes_eq-Decides}
use Rattle.bridge_limits.specs.Members.{IsMember}
use Rattle.bridge_limits.proofs.Members.{in_left, in_right, in_either, each_passes}
use Rattle.bridge_limits.proofs.Cases.{by_bool}
use Rattle.bridge_limits.proofs.Octets.{same_bytes}
use Rattle.bridge_frame.specs.declared.Head.{Head}
use Rattle.bridge_frame.specs.declared.FrameFault.{FrameFault}
use Rattle.bridge_frame.specs.declared.Tag.{Tag}
use Rattle.bridge_frame.specs.Frames.{parsed_head}
use Rattle.bridge_frame.proofs.Heads.{head_few}
use Rattle.bridge_ident.specs.declared.Kind.{Kind}
use Rattle.bridge_ident.specs.declared.Kind.TheVariants.{Null, Source}
use Rattle.bridge_ident.specs.declared.TagKind.{TagKind}
use Rattle.bridge_ident.specs.declared.TagKind.TheVariants as tags
use Rattle.bridge_ident.specs.declared.StreamEntry.{StreamEntry}
use Rattle.bridge_ident.specs.Identification.{compared_address, accepts_tag, is_match, first_handle, HasEntry}
use Rattle.bridge_ident.proofs.Entries.{given}
use Rattle.bridge_filter.specs.declared.FilterInput.{FilterInput}
use Rattle.bridge_filter.specs.declared.FilterPlan.{FilterPlan}
use Rattle.bridge_filter.specs.declared.Verdict.{Verdict}
use Rattle.bridge_filter.specs.declared.Verdict.TheVariants as verdict
use Rattle.bridge_filter.specs.Verdicts as verdicts
use Rattle.bridge_filter.specs.OwnEvents.{is_filter_number}
use Rattle.bridge_filter.proofs.Owned.{flow_listed}
use Rattle.bridge_filter.proofs.Members.{one_number}
use Rattle.bridge_filter.proofs.Taken.{flow_handle}
use Rattle.bridge_forward.specs.Ports.{has_port}
use Rattle.bridge_forward.specs.Forward.{forward}
use Rattle.bridge_config.specs.declared.ports.PortPlan.{PortPlan}
use Rattle.bridge_config.specs.Model.{Plan}
use Rattle.bridge_config.specs.Rules.{IsPlan, find_port}
use Rattle.bridge_config.proofs.PlanPorts.{at_port, at_own}
use Rattle.bridge_check.specs.Acceptable.{IsAcceptable}
use Rattle.bridge_check.specs.Reach.{is_null_kind, reaches_queue}
use Rattle.bridge_check.specs.FrameInput.{frame_vid, frame_priority}
use Rattle.bridge_check.proofs.Isolated.{class_few}
use Rattle.bridge_check.proofs.Sound.{below_any}
use Rattle.bridge_semantics.specs.declared.destination.Destination.{Destination}
use Rattle.bridge_semantics.specs.declared.destination.Destination.TheVariants as way
use Rattle.bridge_semantics.specs.declared.destination.Destination.TheVariants.{Forwarded}
use Rattle.bridge_semantics.specs.Events.{Arrival, arrival, Event, Arrived, Cleared, frame_destination, destination_input, arrival_input, arrival_filter, input_filter}
use Rattle.bridge_semantics.specs.Offers.{Offer, leaving_octets, verdict_offer, step_offer, frame_step, destination_offer, arrival_offer, port_offers}
use Rattle.bridge_semantics.proofs.Safe.{IsSafe, alone}
use Rattle.bridge_semantics.proofs.Offering.{IsGoing, going, offered_by}
use Rattle.net_model.specs.LinkFrames.{FramePattern, tag_by_priority, is_same_kind, can_match, possible_handles, matching_filter, can_wait_at_port_number, is_safe_filter, can_leave, sends_only_from_ingress, sends_only, possible_tags, is_feeding_entry, frame_pattern, takes_only_with_tag, takes_only}
use Rattle.net_model.proofs.Members.{map_in}
use Rattle.net_model.proofs.Marking.{plain, SameHead, leaving_head}

-- THE ORIGIN OF AN OFFER

pub record IsLeaving (a : Arrival) (o : Offer) : Type 0 where
  pub eligible : Bool
  pub octets : o.item.octets ≡ leaving_octets eligible a.octets
  pub len : o.item.len ≡ a.len

leaving_by : {A : Type 0} (out : PortPlan A) (a : Arrival) (priority n number : ℕ) (v : Verdict) (o : Offer) → IsMember o (verdict_offer out a priority n number v) → IsLeaving a o
leaving_by out a priority n number (verdict.Pass ipv e) o (inl same) = record { eligible = e; octets = ap (λ (z : Offer). z.item.octets) same; len = ap (λ (z : Offer). z.item.len) same }
leaving_by out a priority n number (verdict.Pass ipv e) o (inr i) = absurd i
leaving_by out a priority n number verdict.Blocked o i = absurd i
leaving_by out a priority n number verdict.Oversize o i = absurd i
leaving_by out a priority n number verdict.GateClosed o i = absurd i
leaving_by out a priority n number verdict.ShutByRx o i = absurd i
leaving_by out a priority n number verdict.ShutByOctets o i = absurd i
leaving_by out a priority n number verdict.OctetsExceeded o i = absurd i
leaving_by out a priority n number verdict.Red o i = absurd i
leaving_by out a priority n number verdict.YellowDropped o i = absurd i

leaving_step : {A : Type 0} (p : Plan A) (out : PortPlan A) (a : Arrival) (es : List Event) (priority : ℕ) (s : verdicts.FilterStep) (o : Offer) → IsMember o (step_offer p out a es priority s) → IsLeaving a o
leaving_step p out a es priority (verdicts.Unfiltered c) o (inl same) = record { eligible = false; octets = ap (λ (z : Offer). z.item.octets) same; len = ap (λ (z : Offer). z.item.len) same }
leaving_step p out a es priority (verdicts.Unfiltered c) o (inr i) = absurd i
leaving_step p out a es priority (verdicts.Judged c n f v) o i = leaving_by out a priority n _ v o i
leaving_step p out a es priority (verdicts.Commanded v m) o i = absurd i

-- Offer `o` at port `out` results from a frame that the bridge received.
pub record IsFrom {A : Type 0} (p : Plan A) (out : PortPlan A) (o : Offer) : Type 0 where
  pub frame : Arrival
  pub past : List Event
  pub set : ℕ
  pub call : FilterInput
  pub is : frame_destination p frame ≡ Forwarded set call
  pub goes : has_port set out.number ≡ true
  pub offered : IsMember o (arrival_offer p out frame past)
  pub leaves : IsLeaving frame o

from_way : {A : Type 0} (p : Plan A) (out : PortPlan A) (a : Arrival) (es : List Event) (o : Offer) (w : Destination) → frame_destination p a ≡ w → IsMember o (destination_offer p out a es w) → IsMember o (arrival_offer p out a es) → IsFrom p out o
from_way p out a es o way.Malformed e i j = absurd i
from_way p out a es o way.Nowhere e i j = absurd i
from_way p out a es o (way.Forwarded set c) e i j = by_bool (has_port set out.number)
    (λ k.
    let m : IsMember o (step_offer p out a es c.priority (frame_step p es c)) = rw k at i in
    record { frame = a; past = es; set = set; call = c; is = e; goes = k; offered = j; leaves = leaving_step p out a es c.priority (frame_step p es c) o m })
    (λ k. let m : ⊥ = rw k at i in absurd m)

pub from_events : {A : Type 0} (p : Plan A) (out : PortPlan A) (es : List Event) (o : Offer) → IsMember o (port_offers p out es) → IsFrom p out o
from_events p out [] o i = absurd i
from_events p out (Cleared c m ∷ es) o i = from_events p out es o i
from_events p out (Arrived a ∷ es) o i = elim (in_either o (arrival_offer p out a es) (port_offers p out es) i) [
  | inl here ↦ from_way p out a es o (frame_destination p a) refl here here
  | inr more ↦ from_events p out es o more
]

-- THE FILTER BY HANDLE AND PRIORITY

pub flow_same : (fs : List (ℕ × FilterPlan)) (c d : FilterInput) → c.handle ≡ d.handle → c.priority ≡ d.priority → verdicts.frame_filter fs c ≡ verdicts.frame_filter fs d
flow_same [] c d h k = refl
flow_same (f ∷ fs) c d h k =
    let same : verdicts.is_match f.1 c ≡ verdicts.is_match f.1 d = rw (h, k) refl in
    rw (same, flow_same fs c d h k) refl

pub number_of : (n : ℕ) (o : Option (ℕ × FilterPlan)) → is_filter_number n o ≡ true → (x : ℕ × FilterPlan) × (o ≡ Some x) × (x.0 ≡ n)
number_of n None h = absurd (false≢true h)
number_of n (Some x) h = (x, refl, eqb-true x.0 n h)

-- ENTRIES

bytes_same : (xs ys : List ℕ) → xs ≡ ys → bytes_eq xs ys ≡ true
bytes_same xs ys h = (bytes_eq-Decides xs ys).1 h

record IsMatch (e : StreamEntry) (q : ℕ) (h : Head) (vid : ℕ) : Type 0 where
  port : nat_eq e.port q ≡ true
  vlan : nat_eq e.vid vid ≡ true
  address : e.address ≡ compared_address e.kind h
  tag : accepts_tag e.tag h.tag ≡ true

match_of : (e : StreamEntry) (q : ℕ) (h : Head) (vid : ℕ) → is_match e q h vid ≡ true → IsMatch e q h vid
match_of e q h vid m =
    let (abc, tag) = and_parts (nat_eq e.port q && nat_eq e.vid vid && bytes_eq e.address (compared_address e.kind h)) (accepts_tag e.tag h.tag) m in
    let (ab, address) = and_parts (nat_eq e.port q && nat_eq e.vid vid) (bytes_eq e.address (compared_address e.kind h)) abc in
    let (on, vlan) = and_parts (nat_eq e.port q) (nat_eq e.vid vid) ab in
    record { port = on; vlan = vlan; address = same_bytes e.address (compared_address e.kind h) address; tag = tag }

plain_tag : (k : TagKind) (t : Option Tag) → accepts_tag k (plain t) ≡ accepts_tag k t
plain_tag tags.Tagged None = refl
plain_tag tags.Tagged (Some t) = refl
plain_tag tags.Priority None = refl
plain_tag tags.Priority (Some t) = refl
plain_tag tags.All t = refl

pub plain_vid : {A : Type 0} (port : PortPlan A) (t : Option Tag) → frame_vid port (plain t) ≡ frame_vid port t
plain_vid port None = refl
plain_vid port (Some t) = refl

pub plain_priority : {A : Type 0} (port : PortPlan A) (t : Option Tag) → frame_priority port (plain t) ≡ frame_priority port t
plain_priority port None = refl
plain_priority port (Some t) = refl

-- A frame with head `h` has pattern `s`.
pub record IsOfSort (s : FramePattern) (h : Head) : Type 0 where
  pub tag : plain h.tag ≡ s.tag
  pub address : compared_address s.kind h ≡ s.address

kind_same : (k l : Kind) → is_same_kind k l ≡ true → k ≡ l
kind_same Null Null h = refl
kind_same Source Source h = refl
kind_same Null Source h = absurd (false≢true h)
kind_same Source Null h = absurd (false≢true h)

may_if : (same address : Bool) → (same ≡ true → address ≡ true) → (not same || address) ≡ true
may_if true address h = h refl
may_if false address h = refl

matches_may : (e : StreamEntry) (q : ℕ) (h : Head) (vid : ℕ) (s : FramePattern) → IsOfSort s h → is_match e q h vid ≡ true → can_match e q vid s ≡ true
matches_may e q h vid s sort m =
    let p = match_of e q h vid m in
    let tag : accepts_tag e.tag s.tag ≡ true = ap (accepts_tag e.tag) (sym sort.tag) ∙ (plain_tag e.tag h.tag ∙ p.tag) in
    let address : (not (is_same_kind e.kind s.kind) || bytes_eq e.address s.address) ≡ true = may_if (is_same_kind e.kind s.kind) (bytes_eq e.address s.address)
    (λ k. bytes_same e.address s.address (p.address ∙ (ap (λ (z : Kind). compared_address z h) (kind_same e.kind s.kind k) ∙ sort.address))) in
    rw (p.port, p.vlan, tag, address) refl

may_matches : (e : StreamEntry) (q : ℕ) (h : Head) (vid : ℕ) (s : FramePattern) → IsOfSort s h → can_match e q vid s ≡ true → is_same_kind e.kind s.kind ≡ true → is_match e q h vid ≡ true
may_matches e q h vid s sort m k =
    let (abc, last) = and_parts (nat_eq e.port q && nat_eq e.vid vid && accepts_tag e.tag s.tag) (not (is_same_kind e.kind s.kind) || bytes_eq e.address s.address) m in
    let (ab, tag) = and_parts (nat_eq e.port q && nat_eq e.vid vid) (accepts_tag e.tag s.tag) abc in
    let (on, vlan) = and_parts (nat_eq e.port q) (nat_eq e.vid vid) ab in
    let bytes : bytes_eq e.address s.address ≡ true = rw k at last in
    let address : bytes_eq e.address (compared_address e.kind h) ≡ true = bytes_same e.address (compared_address e.kind h) (same_bytes e.address s.address bytes ∙ (sym sort.address ∙ ap (λ (z : Kind). compared_address z h) (sym (kind_same e.kind s.kind k)))) in
    let takes : accepts_tag e.tag h.tag ≡ true = sym (plain_tag e.tag h.tag) ∙ (ap (accepts_tag e.tag) sort.tag ∙ tag) in
    rw (on, vlan, address, takes) refl

among_by : (may match kind : Bool) (x : ℕ) (a : Option ℕ) (rest : List (Option ℕ)) → (match ≡ true → may ≡ true) → (may ≡ true → kind ≡ true → match ≡ true) → IsMember a rest → IsMember (cond match (Some x) a) (cond may (Some x ∷ cond kind [] rest) rest)
among_by true true kind x a rest f g i = inl refl
among_by true false true x a rest f g i = absurd (false≢true (g refl refl))
among_by true false false x a rest f g i = inr i
among_by false true kind x a rest f g i = absurd (false≢true (f refl))
among_by false false kind x a rest f g i = i

-- The handle of a frame is one of the possible handles of its pattern.
pub handle_among : (es : List StreamEntry) (q : ℕ) (h : Head) (vid : ℕ) (s : FramePattern) → IsOfSort s h → IsMember (first_handle es q h vid) (possible_handles es q vid s)
handle_among [] q h vid s sort = inl refl
handle_among (e ∷ es) q h vid s sort = among_by (can_match e q vid s) (is_match e q h vid) (is_same_kind e.kind s.kind) e.handle (first_handle es q h vid) (possible_handles es q vid s) (matches_may e q h vid s sort) (may_matches e q h vid s sort) (handle_among es q h vid s sort)

-- A disjunction with a false first part.
pub after_not : (a b : Bool) → a ≡ true → (not a || b) ≡ true → b ≡ true
after_not true b e h = h
after_not false b e h = absurd (false≢true e)

-- TAGS

small : (k : ℕ) → k ≤ 7 → IsMember k (0 ∷ 1 ∷ 2 ∷ 3 ∷ 4 ∷ 5 ∷ 6 ∷ 7 ∷ [])
small zero l = inl refl
small (suc zero) l = inr (inl refl)
small (suc (suc zero)) l = inr (inr (inl refl))
small (suc (suc (suc zero))) l = inr (inr (inr (inl refl)))
small (suc (suc (suc (suc zero)))) l = inr (inr (inr (inr (inl refl))))
small (suc (suc (suc (suc (suc zero))))) l = inr (inr (inr (inr (inr (inl refl)))))
small (suc (suc (suc (suc (suc (suc zero)))))) l = inr (inr (inr (inr (inr (inr (inl refl))))))
small (suc (suc (suc (suc (suc (suc (suc zero))))))) l = inr (inr (inr (inr (inr (inr (inr (inl refl)))))))
small (suc (suc (suc (suc (suc (suc (suc (suc k)))))))) l = absurd (omega (arith, l))

tag_listed : {A : Type 0} (on : PortPlan A) (vid : ℕ) (t : Option Tag) → ForSome t (λ t. t.pcp ≤ 7) → frame_vid on t ≡ vid → IsMember (plain t) (possible_tags vid)
tag_listed on vid None few e = inl refl
tag_listed on vid (Some t) few e =
    let ks : List ℕ = 0 ∷ 1 ∷ 2 ∷ 3 ∷ 4 ∷ 5 ∷ 6 ∷ 7 ∷ [] in
    let i : IsMember t.pcp ks = small t.pcp (few t refl) in
    let without : List (Option Tag) = map (λ (k : ℕ). Some (tag_by_priority k 0)) ks in
    let within : List (Option Tag) = map (λ (k : ℕ). Some (tag_by_priority k vid)) ks in
    by_bool (nat_eq t.vid 0)
    (λ k.
    let same : t.vid ≡ 0 = eqb-true t.vid 0 k in
    let there : IsMember (Some (tag_by_priority t.pcp 0)) without = map_in (λ (m : ℕ). Some (tag_by_priority m 0)) t.pcp ks i in
    inr (in_left (Some (tag_by_priority t.pcp t.vid)) without within (subst (λ (v : ℕ). IsMember (Some (tag_by_priority t.pcp v)) without) (sym same) there)))
    (λ k.
    let same : t.vid ≡ vid = rw k at e in
    let there : IsMember (Some (tag_by_priority t.pcp vid)) within = map_in (λ (m : ℕ). Some (tag_by_priority m vid)) t.pcp ks i in
    inr (in_right (Some (tag_by_priority t.pcp t.vid)) without within (subst (λ (v : ℕ). IsMember (Some (tag_by_priority t.pcp v)) within) (sym same) there)))

-- REACHABLE QUEUES

-- THE SENDER

-- If the test holds for a pattern, each frame of the pattern that leaves the port belongs to a filter of the stream.
record IsSentAs {A : Type 0} (p : Plan A) (is_of_stream : ℕ → Bool) (o : Offer) : Type 0 where
  flow : ℕ × FilterPlan
  listed : IsMember flow p.filters
  of_stream : is_of_stream flow.0 ≡ true
  is : o.item.flow ≡ Some flow.0

pub may_by : {A : Type 0} (p : Plan A) (on : PortPlan A) (h : Head) (s : FramePattern) (q : ℕ) (k : Kind) → k ≡ s.kind → IsOfSort s h → has_port (forward p.database on.number (frame_vid on h.tag) h.da) q ≡ true → can_leave p.database on.number (frame_vid on s.tag) s q ≡ true
may_by p on h s q Source e sort goes = subst (λ (z : Kind). (not (is_null_kind z) || has_port (forward p.database on.number (frame_vid on s.tag) s.address) q) ≡ true) e refl
may_by p on h s q Null e sort goes =
    let address : h.da ≡ s.address = subst (λ (z : Kind). compared_address z h ≡ s.address) (sym e) sort.address in
    let vid : frame_vid on h.tag ≡ frame_vid on s.tag = sym (plain_vid on h.tag) ∙ ap (frame_vid on) sort.tag in
    let one : has_port (forward p.database on.number (frame_vid on s.tag) h.da) q ≡ true = subst (λ (v : ℕ). has_port (forward p.database on.number v h.da) q ≡ true) vid goes in
    let two : has_port (forward p.database on.number (frame_vid on s.tag) s.address) q ≡ true = subst (λ (d : List ℕ). has_port (forward p.database on.number (frame_vid on s.tag) d) q ≡ true) address one in
    subst (λ (z : Kind). (not (is_null_kind z) || has_port (forward p.database on.number (frame_vid on s.tag) s.address) q) ≡ true) e two

by_flow : {A : Type 0} (p : Plan A) (is_of_stream : ℕ → Bool) (q : ℕ) (out : PortPlan A) (o : Offer) (m : Option (ℕ × FilterPlan)) → ((x : ℕ × FilterPlan) → m ≡ Some x → IsMember x p.filters × (o.item.flow ≡ Some x.0) × (reaches_queue p x.1 q o.class ≡ true)) → IsPlan p → find_port p.ports q ≡ Some out → is_safe_filter p is_of_stream q m ≡ true → IsSentAs p is_of_stream o
by_flow p is_of_stream q out o None known plan at fed = absurd (false≢true fed)
by_flow p is_of_stream q out o (Some x) known plan at fed =
    let (listed, flow, reach) = known x refl in
    elim (or_cases (is_of_stream x.0) (not (can_wait_at_port_number p x.1 q)) fed) [
      | inl a ↦ record { flow = x; listed = listed; of_stream = a; is = flow }
      | inr b ↦
          let any : can_wait_at_port_number p x.1 q ≡ true = below_any 8 o.class (reaches_queue p x.1 q) (class_few p x.1 q o.class out plan at reach) reach in
          let no : not (can_wait_at_port_number p x.1 q) ≡ false = ap not any in
          absurd (false≢true (sym no ∙ b))
    ]

sent_as : {A : Type 0} (p : Plan A) (is_of_stream : ℕ → Bool) (q : ℕ) (out : PortPlan A) (o : Offer) (s : FramePattern) → IsPlan p → find_port p.ports q ≡ Some out → (f : IsFrom p out o) → ((h : Head) → parsed_head f.frame.octets f.frame.len ≡ Ok h → IsOfSort s h) → sends_only p is_of_stream q s ≡ true → IsSentAs p is_of_stream o
sent_as {A} p is_of_stream q out o s plan at f sort only =
    let a = f.frame in
    let number : out.number ≡ q = (at_port p.ports q out at).number in
    let there = at_own p.ports q out at in
    let made : FilterInput = f.call in
    let g : IsGoing p a f.set made = going p a f.set made f.is in
    let on = g.on in
    let h = g.parsed in
    let is_sort : IsOfSort s h = sort h g.is in
    let tested : sends_only_from_ingress p is_of_stream q s on ≡ true = each_passes (sends_only_from_ingress p is_of_stream q s) p.ports on only (at_port p.ports a.port on g.at_port).listed in
    let goes : has_port (forward p.database on.number (frame_vid on h.tag) h.da) q ≡ true = subst (λ (k : ℕ). has_port (forward p.database on.number (frame_vid on h.tag) h.da) k ≡ true) number (subst (λ (z : ℕ). has_port z out.number ≡ true) (sym g.set_is) f.goes) in
    let may : can_leave p.database on.number (frame_vid on s.tag) s q ≡ true = may_by p on h s q s.kind refl is_sort goes in
    let all : list_all (λ (z : Option ℕ). is_safe_filter p is_of_stream q (matching_filter p z (frame_priority on s.tag))) (possible_handles p.streams on.number (frame_vid on s.tag) s) ≡ true = after_not (can_leave p.database on.number (frame_vid on s.tag) s q) (list_all (λ (z : Option ℕ). is_safe_filter p is_of_stream q (matching_filter p z (frame_priority on s.tag))) (possible_handles p.streams on.number (frame_vid on s.tag) s)) may tested in
    let vid : frame_vid on s.tag ≡ frame_vid on h.tag = ap (frame_vid on) (sym is_sort.tag) ∙ plain_vid on h.tag in
    let priority : frame_priority on s.tag ≡ made.priority = ap (frame_priority on) (sym is_sort.tag) ∙ (plain_priority on h.tag ∙ ap (λ (z : FilterInput). z.priority) g.call_is) in
    let among : IsMember (first_handle p.streams on.number h (frame_vid on s.tag)) (possible_handles p.streams on.number (frame_vid on s.tag) s) = handle_among p.streams on.number h (frame_vid on s.tag) s is_sort in
    let handle : first_handle p.streams on.number h (frame_vid on s.tag) ≡ made.handle = ap (first_handle p.streams on.number h) vid ∙ ap (λ (z : FilterInput). z.handle) g.call_is in
    let fed : is_safe_filter p is_of_stream q (matching_filter p (first_handle p.streams on.number h (frame_vid on s.tag)) (frame_priority on s.tag)) ≡ true = each_passes (λ (z : Option ℕ). is_safe_filter p is_of_stream q (matching_filter p z (frame_priority on s.tag))) (possible_handles p.streams on.number (frame_vid on s.tag) s) (first_handle p.streams on.number h (frame_vid on s.tag)) all among in
    let called : arrival_input p a ≡ Some made = ap destination_input f.is in
    let same : matching_filter p (first_handle p.streams on.number h (frame_vid on s.tag)) (frame_priority on s.tag) ≡ verdicts.frame_filter p.filters made = flow_same p.filters (verdicts.filter_input 0 (first_handle p.streams on.number h (frame_vid on s.tag)) (frame_priority on s.tag) false 0 0) made handle priority in
    by_flow p is_of_stream q out o (verdicts.frame_filter p.filters made)
    (λ x fl.
    let t = offered_by p out a f.past made x o plan there called fl f.offered in
    (flow_listed p.filters made x fl, t.flow, subst (λ (k : ℕ). reaches_queue p x.1 k o.class ≡ true) number t.reaches))
    plan at (subst (λ (m : Option (ℕ × FilterPlan)). is_safe_filter p is_of_stream q m ≡ true) same fed)

-- THE LINK

-- A frame that a filter accepts at a port: an entry matches it, with one of the possible tags.
pub record IsTaken {A : Type 0} (next : Plan A) (on : PortPlan A) (n : ℕ) (a : Arrival) : Type 0 where
  pub parsed : Head
  pub is : parsed_head a.octets a.len ≡ Ok parsed
  pub entry : StreamEntry
  pub listed : IsMember entry next.streams
  pub address : entry.address ≡ compared_address entry.kind parsed
  pub tag : IsMember (plain parsed.tag) (possible_tags entry.vid)
  pub gives : is_feeding_entry next on n entry (plain parsed.tag) ≡ true

pub taken_way : {A : Type 0} (next : Plan A) (on : PortPlan A) (n : ℕ) (f : FilterPlan) (a : Arrival) → IsSafe next n f → find_port next.ports a.port ≡ Some on → (w : Destination) → frame_destination next a ≡ w → is_filter_number n (input_filter next (destination_input w)) ≡ true → IsTaken next on n a
taken_way next on n f a safe at way.Malformed e k = absurd (false≢true k)
taken_way next on n f a safe at way.Nowhere e k = absurd (false≢true k)
taken_way {A} next on n f a safe at (way.Forwarded set made) e k =
    let g : IsGoing next a set made = going next a set made e in
    let h = g.parsed in
    let here : g.on ≡ on = same_Some g.on on (sym g.at_port ∙ at) in
    let vid : frame_vid g.on h.tag ≡ frame_vid on h.tag = ap (λ (z : PortPlan A). frame_vid z h.tag) here in
    let (x, fl, own) = number_of n (verdicts.frame_filter next.filters made) k in
    let there : IsMember x next.filters = flow_listed next.filters made x fl in
    let is_f : f ≡ x.1 = one_number next.filters n f x.1 safe.plan.filters.own safe.listed (subst (λ (m : ℕ). IsMember (m, x.1) next.filters) own there) in
    let (m, has_handle) = (alone next n f safe).handle in
    let is_m : made.handle ≡ Some m = flow_handle next.filters made x m fl (ap (λ (z : FilterPlan). z.handle) (sym is_f) ∙ has_handle) in
    let by : HasEntry next.streams g.on.number h (frame_vid g.on h.tag) m = given next.streams g.on.number h (frame_vid g.on h.tag) m (ap (λ (z : FilterInput). z.handle) g.call_is ∙ is_m) in
    let entry = by.entry in
    let match = match_of entry g.on.number h (frame_vid g.on h.tag) by.matches in
    let few = head_few a.octets a.len h g.is in
    let vlan : frame_vid g.on h.tag ≡ entry.vid = sym (eqb-true entry.vid (frame_vid g.on h.tag) match.vlan) in
    let port : nat_eq entry.port on.number ≡ true = subst (λ (z : PortPlan A). nat_eq entry.port z.number ≡ true) here match.port in
    let in_vlan : nat_eq entry.vid (frame_vid on (plain h.tag)) ≡ true = eq-eqb entry.vid (frame_vid on (plain h.tag)) (sym vlan ∙ (vid ∙ sym (plain_vid on h.tag))) in
    let tag : accepts_tag entry.tag (plain h.tag) ≡ true = plain_tag entry.tag h.tag ∙ match.tag in
    let prio : frame_priority on (plain h.tag) ≡ made.priority = plain_priority on h.tag ∙ (ap (λ (z : PortPlan A). frame_priority z h.tag) (sym here) ∙ ap (λ (z : FilterInput). z.priority) g.call_is) in
    let flow_is : matching_filter next (Some entry.handle) (frame_priority on (plain h.tag)) ≡ verdicts.frame_filter next.filters made = flow_same next.filters (verdicts.filter_input 0 (Some entry.handle) (frame_priority on (plain h.tag)) false 0 0) made (ap Some by.handle ∙ sym is_m) prio in
    let number : is_filter_number n (matching_filter next (Some entry.handle) (frame_priority on (plain h.tag))) ≡ true = ap (is_filter_number n) flow_is ∙ k in
    record {
      parsed = h;
      is = g.is;
      entry = entry;
      listed = by.listed;
      address = match.address;
      tag = tag_listed g.on entry.vid h.tag few vlan;
      gives = rw (port, in_vlan, tag, number) refl;
    }

pub ok_is : (g h : Head) → ◌≡◌ {A = Result Head FrameFault} (Ok g) (Ok h) → g ≡ h
ok_is g h e = cc

pub same_address : (k : Kind) (g h : Head) → SameHead g h → compared_address k g ≡ compared_address k h
same_address Null g h same = same.da
same_address Source g h same = same.sa

-- Whatever the bridge received, the filter at the link's other end accepts only frames of the stream from port `q`.
pub only_stream : {A : Type 0} (p next : Plan A) (is_of_stream : ℕ → Bool) (q r n t : ℕ) (f : FilterPlan) (out on : PortPlan A) (es : List Event) (o : Offer) → IsPlan p → IsPlan next → IsAcceptable next → IsMember (n, f) next.filters → f.protected ≡ true → find_port p.ports q ≡ Some out → find_port next.ports r ≡ Some on → takes_only p is_of_stream q next on n ≡ true → IsMember o (port_offers p out es) → is_filter_number n (arrival_filter next (arrival t r o.item.octets o.item.len)) ≡ true → (m : ℕ × FilterPlan) × IsMember m p.filters × (is_of_stream m.0 ≡ true) × (o.item.flow ≡ Some m.0)
only_stream p next is_of_stream q r n t f out on es o plan also good listed is at there test i k =
    let safe : IsSafe next n f = record { plan = also; listed = listed; passes = good n f listed is } in
    let x = taken_way next on n f (arrival t r o.item.octets o.item.len) safe there (frame_destination next (arrival t r o.item.octets o.item.len)) refl k in
    let e = x.entry in
    let s : FramePattern = frame_pattern e (plain x.parsed.tag) in
    let one : list_all (takes_only_with_tag p is_of_stream q next on n e) (possible_tags e.vid) ≡ true = each_passes (λ (e : StreamEntry). list_all (takes_only_with_tag p is_of_stream q next on n e) (possible_tags e.vid)) next.streams e test x.listed in
    let two : takes_only_with_tag p is_of_stream q next on n e (plain x.parsed.tag) ≡ true = each_passes (takes_only_with_tag p is_of_stream q next on n e) (possible_tags e.vid) (plain x.parsed.tag) one x.tag in
    let only : sends_only p is_of_stream q s ≡ true = after_not (is_feeding_entry next on n e (plain x.parsed.tag)) (sends_only p is_of_stream q s) x.gives two in
    let from = from_events p out es o i in
    let leaves = from.leaves in
    let sort : (h : Head) → parsed_head from.frame.octets from.frame.len ≡ Ok h → IsOfSort s h = λ h read.
    let (g, again, same) = leaving_head leaves.eligible from.frame.octets from.frame.len h read in
    let here : parsed_head (leaving_octets leaves.eligible from.frame.octets) from.frame.len ≡ Ok x.parsed = subst (λ (n : ℕ). parsed_head (leaving_octets leaves.eligible from.frame.octets) n ≡ Ok x.parsed) leaves.len (subst (λ (v : List ℕ). parsed_head v o.item.len ≡ Ok x.parsed) leaves.octets x.is) in
    let is_g : g ≡ x.parsed = ok_is g x.parsed (sym again ∙ here) in
    let both : SameHead h x.parsed = subst (SameHead h) is_g same in
    record { tag = both.tag; address = same_address e.kind h x.parsed both ∙ sym x.address } in
    let sent = sent_as p is_of_stream q out o s plan at from sort only in
    (sent.flow, sent.listed, sent.of_stream, sent.is)
