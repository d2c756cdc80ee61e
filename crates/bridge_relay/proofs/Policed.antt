-- A policed frame, as an event.
use Rattle.std.proofs.Common.{◌≡◌, ℕ, Bool, true, false, ◌+◌, ◌≤◌, List, [], ◌∷◌, ◌++◌, length, arith, refl, ap, ◌∙◌, sym, subst, Option, Some, None, append-nil}
use Rattle.std.specs.Prelude.{nat_eq, not, count_by, is_none, if◌then◌else◌, ◌&&◌}
use Rattle.std.specs.Map.{lookup}
use Rattle.std.proofs.lemmas.Bool.Decides.{nat_tests}
use Rattle.bridge_limits.proofs.Cases.{by_bool}
use Rattle.bridge_capture.specs.Grammar.{CapturedFrame}
use Rattle.bridge_filter.specs.declared.FilterInput.{FilterInput}
use Rattle.bridge_filter.specs.declared.FilterPlan.{FilterPlan}
use Rattle.bridge_filter.specs.declared.Ruling.{Ruling}
use Rattle.bridge_filter.specs.declared.Verdict.{Verdict}
use Rattle.bridge_filter.specs.Counts.{filter_verdicts}
use Rattle.bridge_filter.specs.StandsFor as filter
use Rattle.bridge_filter.specs.Verdicts as verdicts
use Rattle.bridge_port.specs.Schedule.{Copy, is_accepted}
use Rattle.bridge_port.specs.StandsFor.{StandsFor}
use Rattle.bridge_config.specs.declared.ports.PortPlan.{PortPlan}
use Rattle.bridge_config.specs.Model.{Plan}
use Rattle.bridge_config.specs.Rules.{find_port}
use Rattle.bridge_filter.specs.OwnEvents.{is_filter_number}
use Rattle.bridge_semantics.specs.declared.outcome.Origin.{Origin}
use Rattle.bridge_semantics.specs.declared.outcome.PortCount.{PortCount}
use Rattle.bridge_semantics.specs.declared.destination.Destination.{Destination}
use Rattle.bridge_semantics.specs.declared.destination.Destination.TheVariants.{Forwarded}
use Rattle.bridge_semantics.specs.Events.{Arrival, Event, Arrived, arrivals, with_input, destination_input, arrival_input, filter_inputs, input_filter, arrival_filter, arrival_origin, filter_origins, plan_police, police_steps, frame_destination}
use Rattle.bridge_semantics.specs.Offers.{CarriedFrame, Offer, port_offers}
use Rattle.bridge_semantics.proofs.Offering.{going}
use Rattle.bridge_semantics.specs.Runs.{HasCopyRecord, IsPortCopy, IsPortCount, is_malformed, is_nowhere, is_relayed, is_unfiltered}
use Rattle.bridge_relay.specs.declared.port_state.PortState.{PortState}
use Rattle.bridge_relay.specs.declared.port_state.Ingress.{Ingress}
use Rattle.bridge_relay.specs.declared.port_state.Ingress.TheVariants as came
use Rattle.bridge_relay.specs.PortStates.{count_ingress}
use Rattle.bridge_relay.specs.Recorders.{RecorderState, with_verdict}
use Rattle.bridge_relay.specs.Ports.{port_state}
use Rattle.bridge_relay.specs.RelayState.{RelayState, HasLeft, RelayStandsFor, recorded_frames, carried_copies}
use Rattle.bridge_relay.specs.RelayedFrames.{CarriesOffers, AreSameFrameCounts, HasPoliced, ruling_ingress, ingress_origin, recorders_with_ruling, relay_before_frame}
use Rattle.bridge_relay.proofs.Sound.{changed}
use Rattle.bridge_relay.proofs.Passing.{counting, passed_here, passed_there, counts_more, counts_same}
use Rattle.bridge_relay.proofs.Leaving.{left_same}
use Rattle.bridge_relay.proofs.Relayed.{HasCounted, stands_of}

-- THE RULING OF A FRAME

pub unfiltered_step : (p : verdicts.PolicePlans) (ss : List verdicts.FilterStep) (c : FilterInput) (o : Option (ℕ × FilterPlan)) → None ≡ verdicts.step_ruling (verdicts.input_step p ss c o) → verdicts.input_step p ss c o ≡ verdicts.Unfiltered c
unfiltered_step p ss c None h = refl
unfiltered_step p ss c (Some f) h = absurd (cc)

pub judged_step : (p : verdicts.PolicePlans) (ss : List verdicts.FilterStep) (c : FilterInput) (o : Option (ℕ × FilterPlan)) (r : Ruling) → Some r ≡ verdicts.step_ruling (verdicts.input_step p ss c o) → (f : FilterPlan) × (verdicts.input_step p ss c o ≡ verdicts.Judged c r.filter f r.verdict)
judged_step p ss c None r h = absurd (cc)
judged_step p ss c (Some f) r h =
    let is : r ≡ record { filter = f.0; verdict = verdicts.frame_verdict p ss c f.0 f.1 } = same_ruling r (record { filter = f.0; verdict = verdicts.frame_verdict p ss c f.0 f.1 }) h in
    (f.1, ap (λ (z : Ruling). verdicts.Judged c z.filter f.1 z.verdict) (sym is)) where
      same_ruling : (a b : Ruling) → Some a ≡ Some b → a ≡ b
      same_ruling a b e = cc

-- The verdicts and origins of a recorder after a frame was policed.
written_by : (b : Bool) (t : RecorderState) (v : Verdict) (o : Origin) → recorded_frames (if b then with_verdict t v o else t) ≡ (t.verdicts ++ (if b then v ∷ [] else []), t.origins ++ (if b then o ∷ [] else []))
written_by true t v o = refl
written_by false t v o = ap (λ (z : List Verdict). (z, t.origins)) (sym (append-nil t.verdicts)) ∙ ap (λ (z : List Origin). (t.verdicts ++ [], z)) (sym (append-nil t.origins))

none_more : (vs : List Verdict) (os : List Origin) → ◌≡◌ {A = List Verdict × List Origin} (vs, os) (vs, os ++ [])
none_more vs os = ap (λ (z : List Origin). (vs, z)) (sym (append-nil os))

flow_ruled : (p : verdicts.PolicePlans) (ss : List verdicts.FilterStep) (c : FilterInput) (o : Option (ℕ × FilterPlan)) (n : ℕ) → None ≡ verdicts.step_ruling (verdicts.input_step p ss c o) → is_filter_number n o ≡ false
flow_ruled p ss c None n h = refl
flow_ruled p ss c (Some f) n h = absurd (cc)

number_ruled : (p : verdicts.PolicePlans) (ss : List verdicts.FilterStep) (c : FilterInput) (o : Option (ℕ × FilterPlan)) (r : Ruling) (n : ℕ) → Some r ≡ verdicts.step_ruling (verdicts.input_step p ss c o) → nat_eq r.filter n ≡ is_filter_number n o
number_ruled p ss c None r n h = absurd (cc)
number_ruled p ss c (Some f) r n h =
    let is : r ≡ record { filter = f.0; verdict = verdicts.frame_verdict p ss c f.0 f.1 } = same_ruling r (record { filter = f.0; verdict = verdicts.frame_verdict p ss c f.0 f.1 }) h in
    ap (λ (z : Ruling). nat_eq z.filter n) is where
      same_ruling : (a b : Ruling) → Some a ≡ Some b → a ≡ b
      same_ruling a b e = cc

pub written_ruled : (p : verdicts.PolicePlans) (ss : List verdicts.FilterStep) (c : FilterInput) (o : Option (ℕ × FilterPlan)) (x : Origin) (os : List Origin) (r : Option Ruling) (old new : List (ℕ × RecorderState)) (n : ℕ) (t : RecorderState) → r ≡ verdicts.step_ruling (verdicts.input_step p ss c o) → new ≡ recorders_with_ruling x r old → lookup (nat_eq n) new ≡ Some t → ((w : RecorderState) → lookup (nat_eq n) old ≡ Some w → recorded_frames w ≡ (filter_verdicts n ss, os)) → recorded_frames t ≡ (filter_verdicts n (verdicts.input_step p ss c o ∷ ss), os ++ (if is_filter_number n o then x ∷ [] else []))
written_ruled p ss c o x os None old new n t h tables found was =
    was t (subst (λ (z : List (ℕ × RecorderState)). lookup (nat_eq n) z ≡ Some t) tables found)
    ∙ (none_more (filter_verdicts n ss) os
    ∙ (ap (λ (b : Bool). (filter_verdicts n ss, os ++ (if b then x ∷ [] else []))) (sym (flow_ruled p ss c o n h))
    ∙ ap (λ (s : verdicts.FilterStep). (filter_verdicts n (s ∷ ss), os ++ (if is_filter_number n o then x ∷ [] else []))) (sym (unfiltered_step p ss c o h))))
written_ruled p ss c o x os (Some r) old new n t h tables found was =
    let d = changed (Some r.filter) (λ (w : RecorderState). with_verdict w r.verdict x) old n t (subst (λ (z : List (ℕ × RecorderState)). lookup (nat_eq n) z ≡ Some t) tables found) in
    let s = judged_step p ss c o r h in
    ap recorded_frames d.is
    ∙ (written_by (nat_eq r.filter n) d.was r.verdict x
    ∙ (ap (λ (z : List Verdict × List Origin). (z.0 ++ (if nat_eq r.filter n then r.verdict ∷ [] else []), z.1 ++ (if nat_eq r.filter n then x ∷ [] else []))) (was d.was d.there)
    ∙ (ap (λ (b : Bool). (filter_verdicts n ss ++ (if nat_eq r.filter n then r.verdict ∷ [] else []), os ++ (if b then x ∷ [] else []))) (number_ruled p ss c o r n h)
    ∙ ap (λ (z : verdicts.FilterStep). (filter_verdicts n (z ∷ ss), os ++ (if is_filter_number n o then x ∷ [] else []))) (sym s.1))))

-- COUNTS OF THE FRAME'S PORT

not_left : (a b : Bool) → a ≡ false → (a && b) ≡ false
not_left a b h = rw h refl

not_right : (a b : Bool) → b ≡ false → (a && b) ≡ false
not_right true b h = h
not_right false b h = refl

none_ruled : (p : verdicts.PolicePlans) (ss : List verdicts.FilterStep) (c : FilterInput) (o : Option (ℕ × FilterPlan)) → is_none o ≡ is_none (verdicts.step_ruling (verdicts.input_step p ss c o))
none_ruled p ss c None = refl
none_ruled p ss c (Some f) = refl

-- Holds if forwarded frame `a` was policed after the events `es` with ruling `r`.
pub record IsPoliced {A : Type 0} (p : Plan A) (es : List Event) (a : Arrival) (set : ℕ) (call : FilterInput) (r : Option Ruling) : Type 0 where
  pub way : frame_destination p a ≡ Forwarded set call
  pub answer : r ≡ verdicts.step_ruling (verdicts.input_step (plan_police p) (police_steps p es) call (verdicts.frame_filter p.filters call))

call_is : {A : Type 0} (p : Plan A) (es : List Event) (a : Arrival) (set : ℕ) (call : FilterInput) (r : Option Ruling) → IsPoliced p es a set call r → arrival_input p a ≡ Some call
call_is p es a set call r h = ap destination_input h.way

calls_are : {A : Type 0} (p : Plan A) (es : List Event) (a : Arrival) (set : ℕ) (call : FilterInput) (r : Option Ruling) → IsPoliced p es a set call r → filter_inputs p (Arrived a ∷ es) ≡ verdicts.Arrived call ∷ filter_inputs p es
calls_are p es a set call r h = ap (λ (o : Option FilterInput). with_input o (filter_inputs p es)) (call_is p es a set call r h)

steps_are : {A : Type 0} (p : Plan A) (es : List Event) (a : Arrival) (set : ℕ) (call : FilterInput) (r : Option Ruling) → IsPoliced p es a set call r → police_steps p (Arrived a ∷ es) ≡ verdicts.input_step (plan_police p) (police_steps p es) call (verdicts.frame_filter p.filters call) ∷ police_steps p es
steps_are p es a set call r h = ap (verdicts.filter_steps (plan_police p)) (calls_are p es a set call r h)

unfiltered_is : {A : Type 0} (p : Plan A) (es : List Event) (a : Arrival) (set : ℕ) (call : FilterInput) (r : Option Ruling) → IsPoliced p es a set call r → is_unfiltered p a ≡ is_none r
unfiltered_is p es a set call r h =
    ap (λ (w : Destination). is_relayed w && is_none (arrival_filter p a)) h.way
    ∙ (ap (λ (o : Option FilterInput). is_none (input_filter p o)) (call_is p es a set call r h)
    ∙ (none_ruled (plan_police p) (police_steps p es) call (verdicts.frame_filter p.filters call) ∙ ap is_none (sym h.answer)))

at_is : {A : Type 0} (p : Plan A) (es : List Event) (a : Arrival) (set : ℕ) (call : FilterInput) (r : Option Ruling) → IsPoliced p es a set call r → call.at ≡ a.at
at_is p es a set call r h = sym (ap (λ (z : FilterInput). z.at) (going p a set call h.way).call_is)

counted_elsewhere : {A : Type 0} (p : Plan A) (es : List Event) (a : Arrival) (q : ℕ) (c : PortCount) → nat_eq a.port q ≡ false → HasCounted p es q c → HasCounted p (Arrived a ∷ es) q c
counted_elsewhere p es a q c other k = record {
  frames = k.frames ∙ sym (counts_same q (λ b. true) a es (not_left (nat_eq a.port q) true other));
  malformed = k.malformed ∙ sym (counts_same q (λ b. is_malformed (frame_destination p b)) a es (not_left (nat_eq a.port q) (is_malformed (frame_destination p a)) other));
  nowhere = k.nowhere ∙ sym (counts_same q (λ b. is_nowhere (frame_destination p b)) a es (not_left (nat_eq a.port q) (is_nowhere (frame_destination p a)) other));
  unfiltered = k.unfiltered ∙ sym (counts_same q (is_unfiltered p) a es (not_left (nat_eq a.port q) (is_unfiltered p a) other));
}

counted_here : {A : Type 0} (p : Plan A) (es : List Event) (a : Arrival) (set : ℕ) (call : FilterInput) (q : ℕ) (c : PortCount) (r : Option Ruling) → IsPoliced p es a set call r → nat_eq a.port q ≡ true → HasCounted p es q c → HasCounted p (Arrived a ∷ es) q (count_ingress c (ruling_ingress r))
counted_here p es a set call q c None h here k = record {
  frames = ap (λ (n : ℕ). n + 1) k.frames ∙ sym (counts_more q (λ b. true) a es here refl);
  malformed = k.malformed ∙ sym (counts_same q (λ b. is_malformed (frame_destination p b)) a es (not_right (nat_eq a.port q) (is_malformed (frame_destination p a)) (ap is_malformed h.way)));
  nowhere = k.nowhere ∙ sym (counts_same q (λ b. is_nowhere (frame_destination p b)) a es (not_right (nat_eq a.port q) (is_nowhere (frame_destination p a)) (ap is_nowhere h.way)));
  unfiltered = ap (λ (n : ℕ). n + 1) k.unfiltered ∙ sym (counts_more q (is_unfiltered p) a es here (unfiltered_is p es a set call None h));
}
counted_here p es a set call q c (Some r) h here k = record {
  frames = ap (λ (n : ℕ). n + 1) k.frames ∙ sym (counts_more q (λ b. true) a es here refl);
  malformed = k.malformed ∙ sym (counts_same q (λ b. is_malformed (frame_destination p b)) a es (not_right (nat_eq a.port q) (is_malformed (frame_destination p a)) (ap is_malformed h.way)));
  nowhere = k.nowhere ∙ sym (counts_same q (λ b. is_nowhere (frame_destination p b)) a es (not_right (nat_eq a.port q) (is_nowhere (frame_destination p a)) (ap is_nowhere h.way)));
  unfiltered = k.unfiltered ∙ sym (counts_same q (is_unfiltered p) a es (not_right (nat_eq a.port q) (is_unfiltered p a) (unfiltered_is p es a set call (Some r) h)));
}

counted_same : {A : Type 0} (p : Plan A) (es : List Event) (q : ℕ) (c d : PortCount) → AreSameFrameCounts c d → HasCounted p es q d → HasCounted p es q c
counted_same p es q c d s k = record { frames = s.frames ∙ k.frames; malformed = s.malformed ∙ k.malformed; nowhere = s.nowhere ∙ k.nowhere; unfiltered = s.unfiltered ∙ k.unfiltered }

counted_of : {A : Type 0} (p : Plan A) (es : List Event) (q : ℕ) (xs : List (Copy CarriedFrame)) (c : PortCount) → IsPortCount p es q xs c → HasCounted p es q c
counted_of p es q xs c k = record { frames = k.frames; malformed = k.malformed; nowhere = k.nowhere; unfiltered = k.unfiltered }

-- COPIES THAT THE RELAY CARRIES

sent_still : (c : PortCount) (v : Ingress) → (count_ingress c v).sent ≡ c.sent
sent_still c came.Malformed = refl
sent_still c came.Nowhere = refl
sent_still c came.Unfiltered = refl
sent_still c came.Policed = refl

dropped_still : (c : PortCount) (v : Ingress) → (count_ingress c v).dropped ≡ c.dropped
dropped_still c came.Malformed = refl
dropped_still c came.Nowhere = refl
dropped_still c came.Unfiltered = refl
dropped_still c came.Policed = refl

told_judged : {A : Type 0} (p : Plan A) (lists : ℕ → List (Copy CarriedFrame)) (n : ℕ) (b : Bool) (t : RecorderState) (v : Verdict) (o : Origin) → HasCopyRecord p n (IsPortCopy lists) t.departures t.drops t.delay → HasCopyRecord p n (IsPortCopy lists) (if b then with_verdict t v o else t).departures (if b then with_verdict t v o else t).drops (if b then with_verdict t v o else t).delay
told_judged p lists n true t v o h = h
told_judged p lists n false t v o h = h

told_ruled : {A : Type 0} (p : Plan A) (lists : ℕ → List (Copy CarriedFrame)) (o : Origin) (r : Option Ruling) (old new : List (ℕ × RecorderState)) (n : ℕ) (t : RecorderState) → new ≡ recorders_with_ruling o r old → lookup (nat_eq n) new ≡ Some t → ((w : RecorderState) → lookup (nat_eq n) old ≡ Some w → HasCopyRecord p n (IsPortCopy lists) w.departures w.drops w.delay) → HasCopyRecord p n (IsPortCopy lists) t.departures t.drops t.delay
told_ruled p lists o None old new n t tables found was = was t (subst (λ (z : List (ℕ × RecorderState)). lookup (nat_eq n) z ≡ Some t) tables found)
told_ruled p lists o (Some r) old new n t tables found was =
    let d = changed (Some r.filter) (λ (w : RecorderState). with_verdict w r.verdict o) old n t (subst (λ (z : List (ℕ × RecorderState)). lookup (nat_eq n) z ≡ Some t) tables found) in
    subst (λ (w : RecorderState). HasCopyRecord p n (IsPortCopy lists) w.departures w.drops w.delay) (sym d.is) (told_judged p lists n (nat_eq r.filter n) d.was r.verdict o (was d.was d.there))

-- Policing keeps the copies of the ports and their entries in the records.
pub carries_ruled : {G A : Type 0} (p : Plan A) (old new : RelayState G A) (q : ℕ) (s : PortState A) (c : FilterInput) (r : Option Ruling) (es : List Event) (left : ℕ → List CapturedFrame) → HasPoliced old new q s c r → port_state old.ports q ≡ Some s → 1 ≤ q → RelayStandsFor p (relay_before_frame old) es left → CarriesOffers p new (λ k out. port_offers p out es) left
carries_ruled {G} {A} p old new q s c r es left h there low st =
    let v = ruling_ingress r in
    let same : (k : ℕ) (w : PortState A) → nat_eq k q ≡ true → port_state new.ports k ≡ Some w → counting s v ≡ w = λ k w y at. passed_here old new q s v h.slots there k w y at in
    let back : (k : ℕ) → nat_eq k q ≡ true → q ≡ k = λ k y. grind (arith, nat_tests) in
    record {
      lists = st.lists;
      others = st.others;
      each = λ k w l at. by_bool (nat_eq k q)
          (λ y. subst (λ (z : PortState A). StandsFor z.port (st.lists k)) (same k w y at) (subst (λ (m : ℕ). StandsFor s.port (st.lists m)) (back k y) (st.each q s low there)))
          (λ y. st.each k w l (sym (passed_there old new q s v h.slots low k l y) ∙ at));
      offers = st.offers;
      told = λ n t found. told_ruled p (carried_copies st.lists) (ingress_origin q c.at) r old.tables new.tables n t h.tables found (λ w e. st.told n w e);
      sent = λ k w l at. by_bool (nat_eq k q)
          (λ y. subst (λ (z : PortState A). z.count.sent ≡ count_by (λ x. is_accepted x.fate) (carried_copies st.lists k)) (same k w y at) (subst (λ (m : ℕ). (counting s v).count.sent ≡ count_by (λ x. is_accepted x.fate) (carried_copies st.lists m)) (back k y) (sent_still s.count v ∙ (st.counts q s low there).sent)))
          (λ y. (st.counts k w l (sym (passed_there old new q s v h.slots low k l y) ∙ at)).sent);
      dropped = λ k w l at. by_bool (nat_eq k q)
          (λ y. subst (λ (z : PortState A). z.count.dropped ≡ count_by (λ x. not (is_accepted x.fate)) (carried_copies st.lists k)) (same k w y at) (subst (λ (m : ℕ). (counting s v).count.dropped ≡ count_by (λ x. not (is_accepted x.fate)) (carried_copies st.lists m)) (back k y) (dropped_still s.count v ∙ (st.counts q s low there).dropped)))
          (λ y. (st.counts k w l (sym (passed_there old new q s v h.slots low k l y) ∙ at)).dropped);
      leaves = λ k w l at. by_bool (nat_eq k q)
          (λ y. subst (λ (z : PortState A). HasLeft z (carried_copies st.lists k) (left k)) (same k w y at) (subst (λ (m : ℕ). HasLeft (counting s v) (carried_copies st.lists m) (left m)) (back k y) (left_same s (counting s v) (carried_copies st.lists q) (left q) refl refl refl (st.leaves q s low there))))
          (λ y. st.leaves k w l (sym (passed_there old new q s v h.slots low k l y) ∙ at));
    }

-- Holds if the relay after the offers has the verdicts and frame counts of the relay before them.
pub record IsAfter {G A : Type 0} (ruled last : RelayState G A) : Type 0 where
  pub plan : last.plan ≡ ruled.plan
  pub police : last.police ≡ ruled.police
  pub arrived : last.arrived ≡ ruled.arrived
  pub verdicts : (n : ℕ) (t : RecorderState) → lookup (nat_eq n) last.tables ≡ Some t → (w : RecorderState) × (lookup (nat_eq n) ruled.tables ≡ Some w) × (recorded_frames t ≡ recorded_frames w)
  pub counted : (q : ℕ) (s : PortState A) → 1 ≤ q → port_state last.ports q ≡ Some s → (w : PortState A) × (port_state ruled.ports q ≡ Some w) × AreSameFrameCounts s.count w.count

-- The relay stands for the events and one more frame, which was policed.
pub stands_policed : {G A : Type 0} (p : Plan A) (es : List Event) (left : ℕ → List CapturedFrame) (a : Arrival) (old ruled last : RelayState G A) (s : PortState A) (set : ℕ) (call : FilterInput) (r : Option Ruling) (os : ℕ → PortPlan A → List Offer) → RelayStandsFor p (relay_before_frame old) es left → IsPoliced p es a set call r → HasPoliced old ruled a.port s call r → port_state old.ports a.port ≡ Some s → 1 ≤ a.port → 1 ≤ old.arrived → IsAfter ruled last → CarriesOffers p last os left → ((q : ℕ) (out : PortPlan A) → find_port p.ports q ≡ Some out → os q out ≡ port_offers p out (Arrived a ∷ es)) → RelayStandsFor p last (Arrived a ∷ es) left
stands_policed {G} {A} p es left a old ruled last s set call r os st po h there low came after carries same =
    let v = ruling_ingress r in
    let steps_now = steps_are p es a set call r po in
    let tables = subst (λ (t : ℕ). ruled.tables ≡ recorders_with_ruling (ingress_origin a.port t) r old.tables) (at_is p es a set call r po) h.tables in
    stands_of p last (Arrived a ∷ es) os left
    (after.plan ∙ (h.plan ∙ st.plan))
    (subst (λ (z : filter.PoliceState A). filter.StandsFor (plan_police p) z (filter_inputs p (Arrived a ∷ es))) (sym after.police) (subst (filter.StandsFor (plan_police p) ruled.police) (sym (calls_are p es a set call r po)) (h.police (plan_police p) (filter_inputs p es) st.police)))
    carries same
    (λ n t found.
    let w = after.verdicts n t found in
    w.2
    ∙ (written_ruled (plan_police p) (police_steps p es) call (verdicts.frame_filter p.filters call) (arrival_origin a) (filter_origins p n es) r old.tables ruled.tables n w.0 po.answer tables w.1 (λ u e. st.verdicts n u e)
    ∙ (ap (λ (ss : List verdicts.FilterStep). (filter_verdicts n ss, filter_origins p n es ++ (if is_filter_number n (verdicts.frame_filter p.filters call) then arrival_origin a ∷ [] else []))) (sym steps_now)
    ∙ ap (λ (o : Option FilterInput). (filter_verdicts n (police_steps p (Arrived a ∷ es)), filter_origins p n es ++ (if is_filter_number n (input_filter p o) then arrival_origin a ∷ [] else []))) (sym (call_is p es a set call r po)))))
    (λ q u l at.
    let w = after.counted q u l at in
    counted_same p (Arrived a ∷ es) q u.count w.0.count w.2 (by_bool (nat_eq q a.port)
    (λ y.
    let is : a.port ≡ q = grind (arith, nat_tests) in
    let here : nat_eq a.port q ≡ true = grind (arith, nat_tests) in
    subst (λ (z : PortState A). HasCounted p (Arrived a ∷ es) q z.count) (passed_here old ruled a.port s v h.slots there q w.0 y w.1)
    (counted_here p es a set call q s.count r po here (subst (λ (m : ℕ). HasCounted p es m s.count) is (counted_of p es a.port (carried_copies st.lists a.port) s.count (st.counts a.port s low there)))))
    (λ y.
    let other : nat_eq a.port q ≡ false = by_bool (nat_eq a.port q) (λ z. absurd (let k : nat_eq q a.port ≡ true = grind (arith, nat_tests) in let u : true ≡ false = sym k ∙ y in cc)) (λ z. z) in
    counted_elsewhere p es a q w.0.count other (counted_of p es q (carried_copies st.lists q) w.0.count (st.counts q w.0 l (sym (passed_there old ruled a.port s v h.slots low q l y) ∙ w.1))))))
    (let x = after.arrived in let y = h.arrived in let z = st.arrived in let n : last.arrived ≡ length (arrivals es) + 1 = omega arith in n ∙ one_longer (arrivals es) a) where
      one_longer : (xs : List Arrival) (x : Arrival) → length xs + 1 ≡ length (x ∷ xs)
      one_longer xs x = omega arith
