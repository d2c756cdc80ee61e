-- A port counts a frame that isn't forwarded.
use Rattle.std.proofs.Common.{◌≡◌, ℕ, Bool, true, false, ◌+◌, ◌-◌, ◌<◌, ◌≤◌, List, [], ◌∷◌, ◌++◌, length, arith, refl, ap, ◌∙◌, sym, subst, Option, Some, None, append-nil, slice_set, slice_index_or}
use Rattle.std.specs.Prelude.{nat_eq, if◌then◌else◌, ◌&&◌, ◌⊎◌, sum_by, IsTrue}
use Rattle.std.specs.Map.{lookup}
use Rattle.std.proofs.lemmas.Bool.Decides.{nat_tests}
use Rattle.std.proofs.lemmas.List.Sums.{sum_by-set}
use Rattle.std.proofs.lemmas.Option.{same_Some}
use Rattle.bridge_limits.proofs.Cases.{by_bool}
use Rattle.bridge_filter.specs.Plans.{is_listed}
use Rattle.bridge_filter.specs.Verdicts as verdicts
use Rattle.bridge_filter.specs.StandsFor as filter
use Rattle.bridge_capture.specs.Grammar.{CapturedFrame}
use Rattle.bridge_port.specs.declared.item.Item.{Item}
use Rattle.bridge_port.proofs.Keeping.{count_cons}
use Rattle.bridge_config.specs.declared.ports.PortPlan.{PortPlan}
use Rattle.bridge_config.specs.Model.{Plan}
use Rattle.bridge_config.specs.Rules.{find_port}
use Rattle.bridge_semantics.specs.declared.queued_frame.QueuedFrame.{QueuedFrame}
use Rattle.bridge_filter.specs.declared.Verdict.{Verdict}
use Rattle.bridge_filter.specs.OwnEvents.{is_filter_number}
use Rattle.bridge_semantics.specs.declared.outcome.Origin.{Origin}
use Rattle.bridge_semantics.specs.declared.outcome.PortCount.{PortCount}
use Rattle.bridge_semantics.specs.declared.destination.Destination.{Destination}
use Rattle.bridge_semantics.specs.Events.{Arrival, Event, Arrived, arrivals, frame_destination, destination_input, filter_inputs, with_input, input_filter, arrival_filter, arrival_origin, filter_origins, plan_police, police_steps}
use Rattle.bridge_semantics.specs.Offers.{CarriedFrame, port_offers, destination_offer}
use Rattle.bridge_port.specs.Schedule.{Copy}
use Rattle.bridge_port.specs.StandsFor.{StandsFor}
use Rattle.bridge_filter.specs.Counts.{filter_verdicts}
use Rattle.bridge_semantics.specs.Runs.{count_frames, is_malformed, is_nowhere, is_relayed, is_unfiltered, IsPortCount}
use Rattle.bridge_relay.specs.declared.port_state.PortState.{PortState}
use Rattle.bridge_relay.specs.declared.port_state.Ingress.{Ingress}
use Rattle.bridge_relay.specs.declared.port_state.Ingress.TheVariants as came
use Rattle.bridge_relay.specs.PortStates.{count_ingress}
use Rattle.bridge_relay.specs.Recorders.{RecorderState}
use Rattle.bridge_relay.specs.Ports.{nth_port, port_state}
use Rattle.bridge_relay.specs.RelayState.{RelayState, HasLeft, RelayStandsFor, IsSound, IsRecorderSound, event_frames, count_port_items, count_all_items, is_filter_item, is_item_invalid, carried_copies}
use Rattle.bridge_relay.specs.Ports.{MatchesPlan}
use Rattle.bridge_relay.specs.RelayedFrames.{HasCountedFrame, IsUnforwarded}
use Rattle.bridge_relay.proofs.Porting.{below, set_here, set_there}
use Rattle.bridge_relay.proofs.Leaving.{left_same}

abbrev pub counting : {A : Type 0} → PortState A → Ingress → PortState A
counting s v = record s { count = count_ingress s.count v }

pub passed_here : {G A : Type 0} (old new : RelayState G A) (q : ℕ) (s : PortState A) (v : Ingress) → new.ports.slots ≡ slice_set old.ports.slots (q - 1) (Some (counting s v)) → port_state old.ports q ≡ Some s → (r : ℕ) (w : PortState A) → nat_eq r q ≡ true → port_state new.ports r ≡ Some w → counting s v ≡ w
passed_here {G} {A} old new q s v h there r w e at =
    let same : q ≡ r = grind (arith, nat_tests) in
    let at_now : port_state new.ports q ≡ Some (counting s v) = ap (λ (z : List (Option (PortState A))). nth_port z q) h ∙ set_here old.ports.slots q (Some (counting s v)) (below old.ports.slots q s there) in
    same_Some (counting s v) w (sym at_now ∙ subst (λ (m : ℕ). port_state new.ports m ≡ Some w) (sym same) at)

pub passed_there : {G A : Type 0} (old new : RelayState G A) (q : ℕ) (s : PortState A) (v : Ingress) → new.ports.slots ≡ slice_set old.ports.slots (q - 1) (Some (counting s v)) → 1 ≤ q → (r : ℕ) → 1 ≤ r → nat_eq r q ≡ false → port_state new.ports r ≡ port_state old.ports r
passed_there {G} {A} old new q s v h low r l e = ap (λ (z : List (Option (PortState A))). nth_port z r) h ∙ set_there old.ports.slots r q (Some (counting s v)) l low e

pub count_passed : {G A : Type 0} (old new : RelayState G A) (q : ℕ) (s : PortState A) (v : Ingress) → new.ports.slots ≡ slice_set old.ports.slots (q - 1) (Some (counting s v)) → port_state old.ports q ≡ Some s → (f : Item (QueuedFrame A) → Bool) → count_all_items f new.ports ≡ count_all_items f old.ports
count_passed {G} {A} old new q s v h there f =
    let now : Option (PortState A) = Some (counting s v) in
    let sum = sum_by-set (count_port_items f) old.ports.slots (q - 1) now None (below old.ports.slots q s there) in
    let was : count_port_items f (slice_index_or old.ports.slots (q - 1) None) ≡ count_port_items f now = ap (count_port_items f) there in
    let set : count_all_items f new.ports ≡ sum_by (count_port_items f) (slice_set old.ports.slots (q - 1) now) = ap (sum_by (count_port_items f)) h in
    omega (arith, sum, was, set)

pub frames_of : (c : PortCount) (v : Ingress) → (count_ingress c v).frames ≡ c.frames + 1
frames_of c came.Malformed = refl
frames_of c came.Nowhere = refl
frames_of c came.Unfiltered = refl
frames_of c came.Policed = refl

pub alike_passed : {A : Type 0} (o : Option (PortPlan A)) (s : PortState A) (v : Ingress) → MatchesPlan o (Some s) → MatchesPlan o (Some (counting s v))
alike_passed None s v a = absurd a
alike_passed (Some out) s v a = record { speed = a.speed; vid = a.vid; priority = a.priority; classes = a.classes; pace = a.pace; list = a.list; rooms = a.rooms }

kept_passed : {G A : Type 0} (held : G → ℕ → Option ℕ) (old new : RelayState G A) (n : ℕ) (w : RecorderState) → IsRecorderSound held old n w → count_all_items (is_filter_item n) new.ports ≡ count_all_items (is_filter_item n) old.ports → new.ports.agenda ≡ old.ports.agenda → new.arrived ≡ old.arrived + 1 → old.earliest ≤ new.earliest → IsRecorderSound held new n w
kept_passed {G} {A} held old new n w k counts agenda arrived onward = record {
  covered = let c = k.covered in omega (arith, counts, c);
  few = let f = k.few in omega arith;
  departures = k.departures;
  left = λ d i. let z = k.left d i in ((let y = z.0 in omega arith), subst (λ (a : G). (q u : ℕ) → held a q ≡ Some u → (d.start < u) ⊎ ((d.start ≡ u) × (d.port < q))) (sym agenda) z.1);
  drops = k.drops;
  dropped = k.dropped;
}

-- A frame that isn't forwarded keeps the relay's state consistent.
pub sound_passed : {G A : Type 0} (held : G → ℕ → Option ℕ) (old new : RelayState G A) (q : ℕ) (s : PortState A) (t : ℕ) (v : Ingress) → IsSound held old → HasCountedFrame old new q s t v → port_state old.ports q ≡ Some s → 1 ≤ q → old.earliest ≤ t → old.arrived < 16000000 → IsSound held new
sound_passed {G} {A} held old new q s t v sound h there low onward few =
    let moved = h.arrived in
    let time = h.earliest in
    record {
      rules = rw h.plan sound.rules;
      acceptable = rw h.plan sound.acceptable;
      identified = h.streams ∙ (sound.identified ∙ ap (λ (p : Plan A). p.streams) (sym h.plan));
      filters = ap (λ (p : filter.PoliceState A). p.filters) h.police ∙ (sound.filters ∙ ap (λ (p : Plan A). p.filters) (sym h.plan));
      gates = λ n i. subst (λ (z : filter.PoliceState A). IsTrue (is_listed n z.gates)) (sym h.police) (sound.gates n (subst (λ (p : Plan A). IsTrue (is_listed n p.gates)) h.plan i));
      meters = λ n i. subst (λ (z : filter.PoliceState A). IsTrue (is_listed n z.meters)) (sym h.police) (sound.meters n (subst (λ (p : Plan A). IsTrue (is_listed n p.meters)) h.plan i));
      asked = let a = sound.asked in let p = ap (λ (p : filter.PoliceState A). p.earliest) h.police in omega (arith, a, p, time, onward);
      few = let f = sound.few.0 in let p = ap (λ (p : filter.PoliceState A). p.calls) h.police in (omega (arith, f, p, moved), omega (arith, moved, few));
      alike = λ r l. by_bool (nat_eq r q)
          (λ y.
          let same : q ≡ r = grind (arith, nat_tests) in
          let at_now : port_state new.ports q ≡ Some (counting s v) = ap (λ (z : List (Option (PortState A))). nth_port z q) h.slots ∙ set_here old.ports.slots q (Some (counting s v)) (below old.ports.slots q s there) in
          subst (λ (p : Plan A). MatchesPlan (find_port p.ports r) (port_state new.ports r)) (sym h.plan)
          (subst (λ (m : ℕ). MatchesPlan (find_port old.plan.ports m) (port_state new.ports m)) same
          (subst (MatchesPlan (find_port old.plan.ports q)) (sym at_now) (alike_passed (find_port old.plan.ports q) s v (subst (MatchesPlan (find_port old.plan.ports q)) there (sound.alike q low))))))
          (λ y. subst (λ (p : Plan A). MatchesPlan (find_port p.ports r) (port_state new.ports r)) (sym h.plan) (subst (MatchesPlan (find_port old.plan.ports r)) (sym (passed_there old new q s v h.slots low r l y)) (sound.alike r l)));
      early = λ r w l at. by_bool (nat_eq r q)
          (λ y. let e = sound.early q s low there in let a = e.0 in let b = e.1 in subst (λ (z : PortState A). (z.port.earliest ≤ new.earliest) × (z.port.offered ≤ new.arrived)) (passed_here old new q s v h.slots there r w y at) (omega (arith, a, time, onward), omega (arith, b, moved)))
          (λ y. let e = sound.early r w l (sym (passed_there old new q s v h.slots low r l y) ∙ at) in let a = e.0 in let b = e.1 in (omega (arith, a, time, onward), omega (arith, b, moved)));
      in_turn = λ r m u w l at e.
          let held_old : held old.ports.agenda m ≡ Some u = subst (λ (z : G). held z m ≡ Some u) h.agenda e in
          by_bool (nat_eq r q)
          (λ y.
          let same : q ≡ r = grind (arith, nat_tests) in
          subst (λ (z : PortState A). (z.port.earliest ≤ u + 1) × (m ≤ r → z.port.earliest ≤ u)) (passed_here old new q s v h.slots there r w y at)
          (subst (λ (n : ℕ). (s.port.earliest ≤ u + 1) × (m ≤ n → s.port.earliest ≤ u)) same (sound.in_turn q m u s low there held_old)))
          (λ y. sound.in_turn r m u w l (sym (passed_there old new q s v h.slots low r l y) ∙ at) held_old);
      frames = λ r w l at. by_bool (nat_eq r q)
          (λ y. let e = sound.frames q s low there in let f = frames_of s.count v in subst (λ (z : PortState A). z.count.frames ≤ new.arrived) (passed_here old new q s v h.slots there r w y at) (omega (arith, e, f, moved)))
          (λ y. let e = sound.frames r w l (sym (passed_there old new q s v h.slots low r l y) ∙ at) in omega (arith, e, moved));
      right = let z = count_passed old new q s v h.slots there (is_item_invalid old.plan.filters) in rw h.plan (z ∙ sound.right);
      there = λ n i. subst (λ (z : List (ℕ × RecorderState)). IsTrue (is_listed n z)) (sym h.tables) (sound.there n (subst (λ (p : Plan A). IsTrue (is_listed n p.filters)) h.plan i));
      each = λ n w found. kept_passed held old new n w (sound.each n w (subst (λ (z : List (ℕ × RecorderState)). lookup (nat_eq n) z ≡ Some w) h.tables found)) (count_passed old new q s v h.slots there (is_filter_item n)) h.agenda moved (omega (arith, time, onward));
    }

-- A FRAME THAT ISN'T FORWARDED, AS AN EVENT

calls_over : {A : Type 0} (p : Plan A) (es : List Event) (a : Arrival) (v : Ingress) → IsUnforwarded v (frame_destination p a) → filter_inputs p (Arrived a ∷ es) ≡ filter_inputs p es
calls_over p es a came.Malformed h = ap (λ (w : Destination). with_input (destination_input w) (filter_inputs p es)) h
calls_over p es a came.Nowhere h = ap (λ (w : Destination). with_input (destination_input w) (filter_inputs p es)) h
calls_over p es a came.Unfiltered h = absurd h
calls_over p es a came.Policed h = absurd h

flow_over : {A : Type 0} (p : Plan A) (a : Arrival) (v : Ingress) (n : ℕ) → IsUnforwarded v (frame_destination p a) → is_filter_number n (arrival_filter p a) ≡ false
flow_over p a came.Malformed n h = ap (λ (w : Destination). is_filter_number n (input_filter p (destination_input w))) h
flow_over p a came.Nowhere n h = ap (λ (w : Destination). is_filter_number n (input_filter p (destination_input w))) h
flow_over p a came.Unfiltered n h = absurd h
flow_over p a came.Policed n h = absurd h

written_over : {A : Type 0} (p : Plan A) (es : List Event) (a : Arrival) (v : Ingress) (n : ℕ) → IsUnforwarded v (frame_destination p a) → event_frames p n es ≡ event_frames p n (Arrived a ∷ es)
written_over p es a v n h =
    let vs : filter_verdicts n (police_steps p es) ≡ filter_verdicts n (police_steps p (Arrived a ∷ es)) = ap (λ (z : List verdicts.FilterEvent). filter_verdicts n (verdicts.filter_steps (plan_police p) z)) (sym (calls_over p es a v h)) in
    let os : filter_origins p n es ≡ filter_origins p n (Arrived a ∷ es) = sym (append-nil (filter_origins p n es)) ∙ ap (λ (b : Bool). filter_origins p n es ++ (if b then arrival_origin a ∷ [] else [])) (sym (flow_over p a v n h)) in
    ap (λ (z : List Verdict). (z, filter_origins p n es)) vs ∙ ap (λ (z : List Origin). (filter_verdicts n (police_steps p (Arrived a ∷ es)), z)) os

offers_over : {A : Type 0} (p : Plan A) (out : PortPlan A) (es : List Event) (a : Arrival) (v : Ingress) → IsUnforwarded v (frame_destination p a) → port_offers p out (Arrived a ∷ es) ≡ port_offers p out es
offers_over p out es a came.Malformed h = ap (λ (w : Destination). destination_offer p out a es w ++ port_offers p out es) h
offers_over p out es a came.Nowhere h = ap (λ (w : Destination). destination_offer p out a es w ++ port_offers p out es) h
offers_over p out es a came.Unfiltered h = absurd h
offers_over p out es a came.Policed h = absurd h

pub counts_more : (q : ℕ) (test : Arrival → Bool) (a : Arrival) (es : List Event) → nat_eq a.port q ≡ true → test a ≡ true → count_frames q test (Arrived a ∷ es) ≡ count_frames q test es + 1
counts_more q test a es at_it passes =
    let z = count_cons (λ (b : Arrival). nat_eq b.port q && test b) a (arrivals es) in
    let one : ◌≡◌ {A = ℕ} (if nat_eq a.port q && test a then 1 else 0) 1 = rw (at_it, passes) refl in
    omega (arith, z, one)

pub counts_same : (q : ℕ) (test : Arrival → Bool) (a : Arrival) (es : List Event) → (nat_eq a.port q && test a) ≡ false → count_frames q test (Arrived a ∷ es) ≡ count_frames q test es
counts_same q test a es fails =
    let z = count_cons (λ (b : Arrival). nat_eq b.port q && test b) a (arrivals es) in
    let none : ◌≡◌ {A = ℕ} (if nat_eq a.port q && test a then 1 else 0) 0 = ap (λ (b : Bool). if b then 1 else 0) fails in
    omega (arith, z, none)

not_left : (a b : Bool) → a ≡ false → (a && b) ≡ false
not_left a b h = rw h refl

not_right : (a b : Bool) → b ≡ false → (a && b) ≡ false
not_right true b h = h
not_right false b h = refl

count_elsewhere : {A : Type 0} (p : Plan A) (es : List Event) (a : Arrival) (q : ℕ) (xs : List (Copy CarriedFrame)) (c : PortCount) → nat_eq a.port q ≡ false → IsPortCount p es q xs c → IsPortCount p (Arrived a ∷ es) q xs c
count_elsewhere p es a q xs c other k = record {
  frames = k.frames ∙ sym (counts_same q (λ b. true) a es (not_left (nat_eq a.port q) true other));
  malformed = k.malformed ∙ sym (counts_same q (λ b. is_malformed (frame_destination p b)) a es (not_left (nat_eq a.port q) (is_malformed (frame_destination p a)) other));
  nowhere = k.nowhere ∙ sym (counts_same q (λ b. is_nowhere (frame_destination p b)) a es (not_left (nat_eq a.port q) (is_nowhere (frame_destination p a)) other));
  unfiltered = k.unfiltered ∙ sym (counts_same q (is_unfiltered p) a es (not_left (nat_eq a.port q) (is_unfiltered p a) other));
  sent = k.sent;
  dropped = k.dropped;
}

count_over : {A : Type 0} (p : Plan A) (es : List Event) (a : Arrival) (q : ℕ) (xs : List (Copy CarriedFrame)) (c : PortCount) (v : Ingress) → IsUnforwarded v (frame_destination p a) → nat_eq a.port q ≡ true → IsPortCount p es q xs c → IsPortCount p (Arrived a ∷ es) q xs (count_ingress c v)
count_over p es a q xs c came.Malformed h here k = record {
  frames = ap (λ (n : ℕ). n + 1) k.frames ∙ sym (counts_more q (λ b. true) a es here refl);
  malformed = ap (λ (n : ℕ). n + 1) k.malformed ∙ sym (counts_more q (λ b. is_malformed (frame_destination p b)) a es here (ap is_malformed h));
  nowhere = k.nowhere ∙ sym (counts_same q (λ b. is_nowhere (frame_destination p b)) a es (not_right (nat_eq a.port q) (is_nowhere (frame_destination p a)) (ap is_nowhere h)));
  unfiltered = k.unfiltered ∙ sym (counts_same q (is_unfiltered p) a es (not_right (nat_eq a.port q) (is_unfiltered p a) (not_left (is_relayed (frame_destination p a)) _ (ap is_relayed h))));
  sent = k.sent;
  dropped = k.dropped;
}
count_over p es a q xs c came.Nowhere h here k = record {
  frames = ap (λ (n : ℕ). n + 1) k.frames ∙ sym (counts_more q (λ b. true) a es here refl);
  malformed = k.malformed ∙ sym (counts_same q (λ b. is_malformed (frame_destination p b)) a es (not_right (nat_eq a.port q) (is_malformed (frame_destination p a)) (ap is_malformed h)));
  nowhere = ap (λ (n : ℕ). n + 1) k.nowhere ∙ sym (counts_more q (λ b. is_nowhere (frame_destination p b)) a es here (ap is_nowhere h));
  unfiltered = k.unfiltered ∙ sym (counts_same q (is_unfiltered p) a es (not_right (nat_eq a.port q) (is_unfiltered p a) (not_left (is_relayed (frame_destination p a)) _ (ap is_relayed h))));
  sent = k.sent;
  dropped = k.dropped;
}
count_over p es a q xs c came.Unfiltered h here k = absurd h
count_over p es a q xs c came.Policed h here k = absurd h

-- The relay stands for the events and one more frame, which isn't forwarded.
pub stands_passed : {G A : Type 0} (old new : RelayState G A) (q : ℕ) (s : PortState A) (t : ℕ) (v : Ingress) → HasCountedFrame old new q s t v → port_state old.ports q ≡ Some s → 1 ≤ q → (p : Plan A) (es : List Event) (a : Arrival) → a.port ≡ q → IsUnforwarded v (frame_destination p a) → (left : ℕ → List CapturedFrame) → RelayStandsFor p old es left → RelayStandsFor p new (Arrived a ∷ es) left
stands_passed {G} {A} old new q s t v h there low p es a port over left st =
    let same_calls = calls_over p es a v over in
    record {
      plan = h.plan ∙ st.plan;
      police = subst (λ (z : filter.PoliceState A). filter.StandsFor (plan_police p) z (filter_inputs p (Arrived a ∷ es))) (sym h.police) (subst (λ (z : List verdicts.FilterEvent). filter.StandsFor (plan_police p) old.police z) (sym same_calls) st.police);
      lists = st.lists;
      others = st.others;
      each = λ r w l at. by_bool (nat_eq r q)
          (λ y.
          let same : q ≡ r = grind (arith, nat_tests) in
          subst (λ (z : PortState A). StandsFor z.port (st.lists r)) (passed_here old new q s v h.slots there r w y at) (subst (λ (m : ℕ). StandsFor s.port (st.lists m)) same (st.each q s low there)))
          (λ y. st.each r w l (sym (passed_there old new q s v h.slots low r l y) ∙ at));
      offers = λ r out e. st.offers r out e ∙ sym (offers_over p out es a v over);
      verdicts = λ n w found. st.verdicts n w (subst (λ (z : List (ℕ × RecorderState)). lookup (nat_eq n) z ≡ Some w) h.tables found) ∙ written_over p es a v n over;
      told = λ n w found. st.told n w (subst (λ (z : List (ℕ × RecorderState)). lookup (nat_eq n) z ≡ Some w) h.tables found);
      counts = λ r w l at. by_bool (nat_eq r q)
          (λ y.
          let same : q ≡ r = grind (arith, nat_tests) in
          let here : nat_eq a.port r ≡ true = grind (arith, nat_tests) in
          subst (λ (z : PortState A). IsPortCount p (Arrived a ∷ es) r (carried_copies st.lists r) z.count) (passed_here old new q s v h.slots there r w y at)
          (count_over p es a r (carried_copies st.lists r) s.count v over here (subst (λ (m : ℕ). IsPortCount p es m (carried_copies st.lists m) s.count) same (st.counts q s low there))))
          (λ y.
          let other : nat_eq a.port r ≡ false = by_bool (nat_eq a.port r) (λ w. absurd (let z : nat_eq r q ≡ true = grind (arith, nat_tests) in let u : true ≡ false = sym z ∙ y in cc)) (λ w. w) in
          count_elsewhere p es a r (carried_copies st.lists r) w.count other (st.counts r w l (sym (passed_there old new q s v h.slots low r l y) ∙ at)));
      leaves = λ r w l at. by_bool (nat_eq r q)
          (λ y.
          let same : q ≡ r = grind (arith, nat_tests) in
          subst (λ (z : PortState A). HasLeft z (carried_copies st.lists r) (left r)) (passed_here old new q s v h.slots there r w y at) (subst (λ (m : ℕ). HasLeft (counting s v) (carried_copies st.lists m) (left m)) same (left_same s (counting s v) (carried_copies st.lists q) (left q) refl refl refl (st.leaves q s low there))))
          (λ y. st.leaves r w l (sym (passed_there old new q s v h.slots low r l y) ∙ at));
      arrived = h.arrived ∙ arrived_more old.arrived (arrivals es) a st.arrived;
    } where
      arrived_more : (n : ℕ) (xs : List Arrival) (a : Arrival) → n ≡ length xs → n + 1 ≡ length (a ∷ xs)
      arrived_more n xs a e = omega arith
