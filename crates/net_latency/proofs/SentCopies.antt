-- A frame that its filter passes has a copy at each of its egress ports.
use Rattle.std.proofs.Common.{◌≡◌, ◌+◌, ℕ, true, false, ◌&&◌, List, [], ◌∷◌, ◌++◌, Option, Some, None, nat_eq, refl, sym, ap, ◌∙◌, subst, inl, inr}
use Rattle.std.specs.Prelude.{◌⊎◌, if◌then◌else◌}
use Rattle.std.specs.List.{list_all}
use Rattle.std.proofs.lemmas.Bool.{and_parts, eqb-true, false≢true}
use Rattle.std.proofs.lemmas.List.Folds.{list_all-append}
use Rattle.bridge_limits.specs.Members.{IsMember}
use Rattle.bridge_limits.proofs.Cases.{by_bool}
use Rattle.bridge_limits.proofs.Members as members
use Rattle.bridge_limits.proofs.Orders.{same_eq}
use Rattle.bridge_filter.specs.Counts.{filter_verdicts}
use Rattle.bridge_filter.specs.declared.FilterInput.{FilterInput}
use Rattle.bridge_filter.specs.declared.FilterPlan.{FilterPlan}
use Rattle.bridge_filter.specs.declared.Verdict.{Verdict}
use Rattle.bridge_filter.specs.declared.Verdict.TheVariants as verdict
use Rattle.bridge_filter.specs.OwnEvents.{is_filter_number, is_own_command}
use Rattle.bridge_filter.specs.Verdicts as verdicts
use Rattle.bridge_filter.proofs.Members.{one_number}
use Rattle.bridge_filter.proofs.Owned.{flow_listed}
use Rattle.bridge_forward.specs.Forward.{forward}
use Rattle.bridge_forward.specs.Ports.{has_port}
use Rattle.bridge_gate.specs.declared.stream_gate.GateAnswer.{GateAnswer}
use Rattle.bridge_gate.specs.declared.stream_gate.GateAnswer.TheVariants as gate
use Rattle.bridge_port.specs.Schedule.{Copy}
use Rattle.bridge_config.specs.declared.ports.PortPlan.{PortPlan}
use Rattle.bridge_config.specs.Model.{Plan}
use Rattle.bridge_config.specs.Rules.{IsPlan}
use Rattle.bridge_config.proofs.PlanPorts.{at_port}
use Rattle.bridge_check.specs.FrameInput as sending
use Rattle.bridge_check.specs.FrameInput.{frame_vid}
use Rattle.bridge_semantics.specs.declared.destination.Destination.TheVariants as way
use Rattle.bridge_semantics.specs.Events.{Arrival, Arrived, Cleared, Event, arrival, arrival_filter, arrival_input, count_filter_frames, destination_input, filter_inputs, frame_destination, metered_octets, own_events, plan_police, police_steps, with_input}
use Rattle.bridge_semantics.specs.Offers.{CarriedFrame, Offer, arrival_offer, copy_offers, destination_offer, frame_step, make_offer, port_offers, step_offer, verdict_offer}
use Rattle.bridge_semantics.specs.Runs.{IsRun}
use Rattle.bridge_semantics.proofs.Headline.{as_offer}
use Rattle.bridge_semantics.proofs.Offering.{going}
use Rattle.bridge_bounds.specs.Passing.{passes}
use Rattle.net_latency.specs.Delivered.{IsForwardedByPort}

-- THE VERDICT

pass_through : (q : verdicts.PolicePlans) (ss : List verdicts.FilterStep) (c : FilterInput) (f : FilterPlan) (answer : GateAnswer) → f.meter ≡ None → passes (verdicts.answer_verdict q ss c f answer) ≡ true → (ipv : Option ℕ) × (verdicts.answer_verdict q ss c f answer ≡ verdict.Pass ipv false)
pass_through q ss c f (gate.Through ipv) none is = (ipv, rw none refl)
pass_through q ss c f gate.Closed none is = absurd (false≢true is)
pass_through q ss c f gate.ShutByRx none is = absurd (false≢true is)
pass_through q ss c f gate.ShutByOctets none is = absurd (false≢true is)
pass_through q ss c f gate.OctetsExceeded none is = absurd (false≢true is)

-- A filter without meter marks no frame drop eligible.
unmarked : (q : verdicts.PolicePlans) (ss : List verdicts.FilterStep) (c : FilterInput) (n : ℕ) (f : FilterPlan) → f.meter ≡ None → passes (verdicts.frame_verdict q ss c n f) ≡ true → (ipv : Option ℕ) × (verdicts.frame_verdict q ss c n f ≡ verdict.Pass ipv false)
unmarked q ss c n f none is = by_bool (f.block_oversize && verdicts.is_blocked n ss)
    (λ k. let z : false ≡ true = rw k at is in absurd (false≢true z))
    (λ k. by_bool (verdicts.is_above_max f.max_sdu c.sdu)
    (λ j. let z : false ≡ true = rw (k, j) at is in absurd (false≢true z))
    (λ j.
    let same : verdicts.frame_verdict q ss c n f ≡ verdicts.answer_verdict q ss c f (verdicts.gate_answer q ss c f.gate) = rw (k, j) refl in
    let (ipv, e) = pass_through q ss c f (verdicts.gate_answer q ss c f.gate) none (sym (ap passes same) ∙ is) in
    (ipv, same ∙ e)))

-- All verdicts up to now pass.
abbrev AllPass : ℕ → List verdicts.FilterStep → Type 0
AllPass n ss = list_all passes (filter_verdicts n ss) ≡ true

step_before : (n : ℕ) (s : verdicts.FilterStep) (ss : List verdicts.FilterStep) → AllPass n (s ∷ ss) → AllPass n ss
step_before n (verdicts.Unfiltered c) ss h = h
step_before n (verdicts.Commanded c m) ss h = h
step_before n (verdicts.Judged c m f v) ss h =
    let last : List Verdict = if nat_eq m n then v ∷ [] else [] in
    (and_parts (list_all passes (filter_verdicts n ss)) (list_all passes last) (sym (list_all-append passes (filter_verdicts n ss) last) ∙ h)).0

input_before : (n : ℕ) (q : verdicts.PolicePlans) (o : Option FilterInput) (es : List verdicts.FilterEvent) → AllPass n (verdicts.filter_steps q (with_input o es)) → AllPass n (verdicts.filter_steps q es)
input_before n q None es h = h
input_before n q (Some c) es h = step_before n (verdicts.input_step q (verdicts.filter_steps q es) c (verdicts.frame_filter q.filters c)) (verdicts.filter_steps q es) h

all_before : {A : Type 0} (p : Plan A) (n : ℕ) (newer es : List Event) → AllPass n (police_steps p (newer ++ es)) → AllPass n (police_steps p es)
all_before p n [] es h = h
all_before p n (Arrived a ∷ newer) es h = all_before p n newer es (input_before n (plan_police p) (arrival_input p a) (filter_inputs p (newer ++ es)) h)
all_before p n (Cleared c m ∷ newer) es h = all_before p n newer es h

-- If all verdicts of a filter pass, the verdict of a frame of the filter passes.
verdict_passes : {A : Type 0} (p : Plan A) (n : ℕ) (f : FilterPlan) (a : Arrival) (c : FilterInput) (newer older : List Event) → arrival_input p a ≡ Some c → verdicts.frame_filter p.filters c ≡ Some (n, f) → AllPass n (police_steps p (newer ++ Arrived a ∷ older)) → passes (verdicts.frame_verdict (plan_police p) (police_steps p older) c n f) ≡ true
verdict_passes p n f a c newer older called flows h =
    let v = verdicts.frame_verdict (plan_police p) (police_steps p older) c n f in
    let one : AllPass n (police_steps p (Arrived a ∷ older)) = all_before p n newer (Arrived a ∷ older) h in
    let step : police_steps p (Arrived a ∷ older) ≡ verdicts.Judged c n f v ∷ police_steps p older = rw (called, flows) refl in
    let two : AllPass n (verdicts.Judged c n f v ∷ police_steps p older) = subst (AllPass n) step one in
    let three : list_all passes (filter_verdicts n (police_steps p older) ++ v ∷ []) ≡ true = rw (same_eq n) at two in
    members.each_passes passes (filter_verdicts n (police_steps p older) ++ v ∷ []) v three (members.in_right v (filter_verdicts n (police_steps p older)) (v ∷ []) (inl refl))

-- THE FRAME AMONG THE EVENTS

-- A list of events with a frame in it.
record HasFrame (es : List Event) (a : Arrival) : Type 0 where
  newer : List Event
  older : List Event
  is : es ≡ newer ++ Arrived a ∷ older

frame_among : (es : List Event) (a : Arrival) → IsMember (Arrived a) es → HasFrame es a
frame_among [] a i = absurd i
frame_among (e ∷ es) a (inl same) = record { newer = []; older = es; is = ap (λ (z : Event). z ∷ es) (sym same) }
frame_among (e ∷ es) a (inr i) = let h = frame_among es a i in record { newer = e ∷ h.newer; older = h.older; is = ap (λ (zs : List Event). e ∷ zs) h.is }

-- An own frame is among the events, and belongs to the filter.
pub own_frame : {A : Type 0} (p : Plan A) (n : ℕ) (f : FilterPlan) (a : Arrival) (es : List Event) → IsMember (Arrived a) (own_events p n f es) → IsMember (Arrived a) es × (is_filter_number n (arrival_filter p a) ≡ true)
own_frame p n f a [] i = absurd i
own_frame p n f a (Cleared c m ∷ es) i = by_bool (is_own_command n f c m)
    (λ k.
    let j : (Arrived a ≡ Cleared c m) ⊎ IsMember (Arrived a) (own_events p n f es) = rw k at i in
    elim j [ inl same ↦ absurd (cc) | inr l ↦ let r = own_frame p n f a es l in (inr r.0, r.1) ])
    (λ k. let j : IsMember (Arrived a) (own_events p n f es) = rw k at i in let r = own_frame p n f a es j in (inr r.0, r.1))
own_frame p n f a (Arrived b ∷ es) i = by_bool (is_filter_number n (arrival_filter p b))
    (λ k.
    let j : (Arrived a ≡ Arrived b) ⊎ IsMember (Arrived a) (own_events p n f es) = rw k at i in
    elim j [ inl same ↦ (inl same, (let is : a ≡ b = cc in subst (λ (z : Arrival). is_filter_number n (arrival_filter p z) ≡ true) (sym is) k)) | inr l ↦ let r = own_frame p n f a es l in (inr r.0, r.1) ])
    (λ k. let j : IsMember (Arrived a) (own_events p n f es) = rw k at i in let r = own_frame p n f a es j in (inr r.0, r.1))

-- The arrival time doesn't matter for the destination.
pub at_other_time : {A : Type 0} (p : Plan A) (octets : List ℕ) (len r u t set : ℕ) (c : FilterInput) → frame_destination p (arrival u r octets len) ≡ way.Forwarded set c → (d : FilterInput) × (frame_destination p (arrival t r octets len) ≡ way.Forwarded set d)
at_other_time p octets len r u t set c is =
    let g = going p (arrival u r octets len) set c is in
    by_bool (nat_eq (forward p.database g.on.number (frame_vid g.on g.parsed.tag) g.parsed.da) 0)
    (λ k. let z : way.Nowhere ≡ way.Forwarded set c = rw (g.at_port, g.is, k) at is in absurd (cc))
    (λ k. (sending.frame_input p g.on t g.parsed (metered_octets len), rw (g.at_port, g.is, k) (ap (λ (z : ℕ). way.Forwarded z (sending.frame_input p g.on t g.parsed (metered_octets len))) g.set_is)))

pub at_any_time : {A : Type 0} (p : Plan A) (octets : List ℕ) (len r t set : ℕ) (c : FilterInput) → frame_destination p (arrival 0 r octets len) ≡ way.Forwarded set c → (d : FilterInput) × (frame_destination p (arrival t r octets len) ≡ way.Forwarded set d)
at_any_time p octets len r t set c is = at_other_time p octets len r 0 t set c is

-- THE COPY

-- An offer in the list of offers belongs to a copy of the list.
offered_in : (o : Offer) (xs : List (Copy CarriedFrame)) → IsMember o (copy_offers xs) → (x : Copy CarriedFrame) × IsMember x xs × (as_offer x ≡ o)
offered_in o [] i = absurd i
offered_in o (x ∷ xs) (inl same) = (x, inl refl, sym same)
offered_in o (x ∷ xs) (inr later) = let (y, i, same) = offered_in o xs later in (y, inr i, same)

offers_later : {A : Type 0} (p : Plan A) (out : PortPlan A) (o : Offer) (newer es : List Event) → IsMember o (port_offers p out es) → IsMember o (port_offers p out (newer ++ es))
offers_later p out o [] es i = i
offers_later p out o (Arrived a ∷ newer) es i = members.in_right o (arrival_offer p out a (newer ++ es)) (port_offers p out (newer ++ es)) (offers_later p out o newer es i)
offers_later p out o (Cleared c k ∷ newer) es i = offers_later p out o newer es i

-- A frame that passes its filter offers a copy to each of its egress ports.
passed_offer : {A : Type 0} (p : Plan A) (out : PortPlan A) (a : Arrival) (es : List Event) (set n : ℕ) (c : FilterInput) (f : FilterPlan) (ipv : Option ℕ) → frame_destination p a ≡ way.Forwarded set c → has_port set out.number ≡ true → verdicts.frame_filter p.filters c ≡ Some (n, f) → verdicts.frame_verdict (plan_police p) (police_steps p es) c n f ≡ verdict.Pass ipv false
    → arrival_offer p out a es ≡ make_offer out a c.priority (Some n) (count_filter_frames p n es + 1) ipv false ∷ []
passed_offer p out a es set n c f ipv is goes fl pass =
    let one : arrival_offer p out a es ≡ destination_offer p out a es (way.Forwarded set c) = ap (destination_offer p out a es) is in
    let two : destination_offer p out a es (way.Forwarded set c) ≡ step_offer p out a es c.priority (frame_step p es c) = rw goes refl in
    let three : step_offer p out a es c.priority (frame_step p es c) ≡ verdict_offer out a c.priority n (count_filter_frames p n es + 1) (verdicts.frame_verdict (plan_police p) (police_steps p es) c n f) = ap (λ (z : Option (ℕ × FilterPlan)). step_offer p out a es c.priority (verdicts.input_step (plan_police p) (police_steps p es) c z)) fl in
    let four : verdict_offer out a c.priority n (count_filter_frames p n es + 1) (verdicts.frame_verdict (plan_police p) (police_steps p es) c n f) ≡ make_offer out a c.priority (Some n) (count_filter_frames p n es + 1) ipv false ∷ [] = ap (verdict_offer out a c.priority n (count_filter_frames p n es + 1)) pass in
    one ∙ (two ∙ (three ∙ four))

-- The copy of a frame at a port: its octets and its length are unchanged.
pub record IsCopyOfFrame (copies : List (Copy CarriedFrame)) (n : ℕ) (a : Arrival) : Type 0 where
  pub copy : Copy CarriedFrame
  pub listed : IsMember copy copies
  pub flow : copy.item.flow ≡ Some n
  pub at : copy.at ≡ a.at
  pub octets : copy.item.octets ≡ a.octets
  pub len : copy.item.len ≡ a.len

-- The filter's data of an own frame.
record IsCalled {A : Type 0} (p : Plan A) (n : ℕ) (f : FilterPlan) (a : Arrival) (set : ℕ) : Type 0 where
  call : FilterInput
  goes : frame_destination p a ≡ way.Forwarded set call
  flows : verdicts.frame_filter p.filters call ≡ Some (n, f)

called_by : {A : Type 0} (p : Plan A) (n set : ℕ) (f : FilterPlan) (a : Arrival) (d : FilterInput) (x : Option (ℕ × FilterPlan)) → IsPlan p → IsMember (n, f) p.filters → frame_destination p a ≡ way.Forwarded set d → verdicts.frame_filter p.filters d ≡ x → is_filter_number n x ≡ true → IsCalled p n f a set
called_by p n set f a d None plan listed goes fl own = absurd (false≢true own)
called_by {A} p n set f a d (Some x) plan listed goes fl own =
    let number : x.0 ≡ n = eqb-true x.0 n own in
    let among : IsMember (n, x.1) p.filters = subst (λ (k : ℕ). IsMember (k, x.1) p.filters) number (flow_listed p.filters d x fl) in
    let same : x.1 ≡ f = one_number p.filters n x.1 f plan.filters.own among listed in
    record { call = d; goes = goes; flows = fl ∙ (ap (λ (k : ℕ). Some (k, x.1)) number ∙ ap (λ (g : FilterPlan). Some (n, g)) same) }

called : {A : Type 0} (p : Plan A) (n q : ℕ) (f : FilterPlan) (a : Arrival) (fw : IsForwardedByPort p a.octets a.len a.port q) → IsPlan p → IsMember (n, f) p.filters → is_filter_number n (arrival_filter p a) ≡ true → IsCalled p n f a fw.ports
called p n q f a fw plan listed own =
    let (d, goes) = at_any_time p a.octets a.len a.port a.at fw.ports fw.input fw.is in
    let mine : is_filter_number n (verdicts.frame_filter p.filters d) ≡ true = rw goes at own in
    called_by p n fw.ports f a d (verdicts.frame_filter p.filters d) plan listed goes refl mine

-- If all verdicts of the filter pass, each own frame has a copy at each port that forwards it.
pub frame_copy : {A : Type 0} (p : Plan A) (n q : ℕ) (f : FilterPlan) (a : Arrival) (es : List Event) (moments : ℕ → ℕ) (lists : ℕ → List (Copy CarriedFrame)) (fw : IsForwardedByPort p a.octets a.len a.port q) → IsPlan p → IsMember (n, f) p.filters → f.meter ≡ None → IsRun p es moments lists
    → list_all passes (filter_verdicts n (police_steps p es)) ≡ true → IsMember (Arrived a) (own_events p n f es) → IsCopyOfFrame (lists q) n a
frame_copy {A} p n q f a es moments lists fw plan listed none run all i =
    let (among, own) = own_frame p n f a es i in
    let h = frame_among es a among in
    let c = called p n q f a fw plan listed own in
    let split : AllPass n (police_steps p (h.newer ++ Arrived a ∷ h.older)) = subst (λ (ds : List Event). AllPass n (police_steps p ds)) h.is all in
    let pass = verdict_passes p n f a c.call h.newer h.older (ap destination_input c.goes) c.flows split in
    let (ipv, v) = unmarked (plan_police p) (police_steps p h.older) c.call n f none pass in
    let there : has_port fw.ports fw.out.number ≡ true = subst (λ (k : ℕ). has_port fw.ports k ≡ true) (sym (at_port p.ports q fw.out fw.at).number) fw.goes in
    let o : Offer = make_offer fw.out a c.call.priority (Some n) (count_filter_frames p n h.older + 1) ipv false in
    let one = passed_offer p fw.out a h.older fw.ports n c.call f ipv c.goes there c.flows v in
    let now : IsMember o (arrival_offer p fw.out a h.older) = subst (IsMember o) (sym one) (inl refl) in
    let later : IsMember o (port_offers p fw.out (h.newer ++ Arrived a ∷ h.older)) = offers_later p fw.out o h.newer (Arrived a ∷ h.older) (members.in_left o (arrival_offer p fw.out a h.older) (port_offers p fw.out h.older) now) in
    let offered : IsMember o (port_offers p fw.out es) = subst (λ (ds : List Event). IsMember o (port_offers p fw.out ds)) (sym h.is) later in
    let (x, j, same) = offered_in o (lists q) (subst (IsMember o) (sym (run.offers q fw.out fw.at)) offered) in
    record {
      copy = x;
      listed = j;
      flow = ap (λ (z : Offer). z.item.flow) same;
      at = ap (λ (z : Offer). z.at) same;
      octets = ap (λ (z : Offer). z.item.octets) same;
      len = ap (λ (z : Offer). z.item.len) same;
    }
