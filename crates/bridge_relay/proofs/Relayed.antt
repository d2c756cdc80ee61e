-- A relayed frame, as an event.
use Rattle.std.proofs.Common.{◌≡◌, ℕ, suc, Bool, true, false, ◌+◌, ◌<◌, ◌≤◌, List, [], ◌∷◌, ◌++◌, length, arith, refl, ap, ◌∙◌, sym, subst, Option, Some, None}
use Rattle.std.specs.Prelude.{nat_eq, nat_lt, if◌then◌else◌, ◌&&◌, IfSome, All}
use Rattle.std.specs.Map.{lookup}
use Rattle.std.proofs.lemmas.Bool.Decides.{nat_tests}
use Rattle.std.proofs.lemmas.Option.{same_Some}
use Rattle.bridge_limits.proofs.Cases.{by_bool}
use Rattle.bridge_filter.specs.declared.FilterInput.{FilterInput}
use Rattle.bridge_filter.specs.declared.FilterPlan.{FilterPlan}
use Rattle.bridge_filter.specs.OwnEvents.{is_filter_number}
use Rattle.bridge_filter.specs.Counts.{filter_verdicts}
use Rattle.bridge_filter.specs.StandsFor as filter
use Rattle.bridge_filter.specs.Verdicts as verdicts
use Rattle.bridge_capture.specs.Grammar.{CapturedFrame}
use Rattle.bridge_forward.specs.Ports.{has_port}
use Rattle.bridge_config.specs.declared.ports.PortPlan.{PortPlan}
use Rattle.bridge_config.specs.Model.{Plan}
use Rattle.bridge_config.specs.Rules.{find_port, IsPort, IsPlan}
use Rattle.bridge_semantics.specs.declared.outcome.PortCount.{PortCount}
use Rattle.bridge_semantics.specs.declared.destination.Destination.TheVariants.{Forwarded}
use Rattle.bridge_semantics.specs.Events.{Arrival, Event, Arrived, Cleared, arrivals, with_input, arrival_input, filter_inputs, count_filter_frames, input_filter, arrival_filter, plan_police, police_steps, frame_destination}
use Rattle.bridge_semantics.specs.Offers.{CarriedFrame, Offer, port_offers, arrival_offer, destination_offer, step_offer, frame_step}
use Rattle.bridge_semantics.specs.Runs.{count_frames, is_malformed, is_nowhere, is_unfiltered}
use Rattle.bridge_relay.specs.declared.port_state.PortState.{PortState}
use Rattle.bridge_relay.specs.Recorders.{RecorderState}
use Rattle.bridge_relay.specs.Ports.{port_state, count_outputs, StartsNoEarlier}
use Rattle.bridge_relay.specs.RelayState.{RelayState, RelayStandsFor, IsSound, recorded_frames, event_frames}
use Rattle.bridge_relay.specs.RelayedFrames.{CarriesOffers, priority_offer, offers_to_set, offers_to_lower_ports, AwaitsCopies, IsOfferingSet}
use Rattle.bridge_relay.proofs.Offering.{carries_same}

-- A port found by number has this number, and its settings are in range.
pub port_is : {A : Type 0} (ports : List (PortPlan A)) (n : ℕ) (out : PortPlan A) → All IsPort ports → find_port ports n ≡ Some out → IsPort out × (out.number ≡ n)
port_is [] n out all h = absurd (cc)
port_is {A} (p ∷ ps) n out all h = by_bool (nat_eq p.number n)
    (λ e.
    let it : p ≡ out = same_Some p out (rw e at h) in
    let same : p.number ≡ n = grind (arith, nat_tests) in
    subst (λ (v : PortPlan A). IsPort v × (v.number ≡ n)) it (all 0 p (omega arith), same))
    (λ e. port_is ps n out (λ k d l. all (suc k) d (omega arith)) (rw e at h))

no_zero : (n : ℕ) → n + 0 ≡ n
no_zero n = omega arith

-- No port has been offered the frame yet.
pub offering_start : {G A : Type 0} (held : G → ℕ → Option ℕ) (b : RelayState G A) (set priority : ℕ) (x : CarriedFrame) → IsSound held b → StartsNoEarlier (held b.ports.agenda) x.at → b.earliest ≤ x.at → IfSome x.flow (AwaitsCopies b (count_outputs b.ports.slots set 16) x.own 1) → IsOfferingSet held b b set priority x 1
offering_start held b set priority x sound due early pending = record {
  sound = sound;
  due = due;
  plan = refl;
  police = refl;
  arrived = refl;
  early = early;
  left = count_outputs b.ports.slots set 16;
  rest = no_zero (count_outputs b.ports.slots set 16);
  pending = pending;
  ahead = λ q l. refl;
  there = λ q l. refl;
  verdicts = λ n t found. (t, found, refl);
  counted = λ q s l e. (s, e, record { frames = refl; malformed = refl; nowhere = refl; unfiltered = refl });
  carries = λ os left st. carries_same b.plan b os (offers_to_lower_ports set 1 priority x os) (λ r out e.
      let z = port_is b.plan.ports r out sound.rules.ports.each e in
      let low = z.0.number_from in
      let same = z.1 in
      let none : nat_lt r 1 ≡ false = (let l : 1 ≤ r = omega (arith, low, same) in grind (arith, nat_tests)) in
      first_none (has_port set r) (nat_lt r 1) (priority_offer out priority x ∷ os r out) (os r out) none) left st;
} where
  first_none : (a c : Bool) (xs ys : List Offer) → c ≡ false → (if a && c then xs else ys) ≡ ys
  first_none true c xs ys h = rw h refl
  first_none false c xs ys h = refl

-- Each port of the set has been offered the frame.
pub offering_done : {G A : Type 0} (held : G → ℕ → Option ℕ) (first now : RelayState G A) (set priority : ℕ) (x : CarriedFrame) → IsOfferingSet held first now set priority x 17 → (os : ℕ → PortPlan A → List Offer) (left : ℕ → List CapturedFrame) → CarriesOffers first.plan first os left → CarriesOffers first.plan now (offers_to_set set priority x os) left
offering_done {G} {A} held first now set priority x a os left st = carries_same first.plan now (offers_to_lower_ports set 17 priority x os) (offers_to_set set priority x os) (λ r out e.
    let rules : IsPlan first.plan = subst IsPlan a.plan a.sound.rules in
    let z = port_is first.plan.ports r out rules.ports.each e in
    let high = z.0.number_to in
    let same = z.1 in
    let all : nat_lt r 17 ≡ true = (let l : r < 17 = omega (arith, high, same) in grind (arith, nat_tests)) in
    all_of (has_port set r) (nat_lt r 17) (priority_offer out priority x ∷ os r out) (os r out) all) left (a.carries os left st) where
      all_of : (a c : Bool) (xs ys : List Offer) → c ≡ true → (if a then xs else ys) ≡ (if a && c then xs else ys)
      all_of true c xs ys h = rw h refl
      all_of false c xs ys h = refl

pub carries_of : {G A : Type 0} (p : Plan A) (b : RelayState G A) (es : List Event) (left : ℕ → List CapturedFrame) → RelayStandsFor p b es left → CarriesOffers p b (λ q out. port_offers p out es) left
carries_of p b es left st = record { leaves = st.leaves; lists = st.lists; others = st.others; each = st.each; offers = st.offers; told = st.told; sent = λ q s l at. (st.counts q s l at).sent; dropped = λ q s l at. (st.counts q s l at).dropped }

-- Holds if `c` has the exact counts of frames of port `q`.
pub record HasCounted {A : Type 0} (p : Plan A) (es : List Event) (q : ℕ) (c : PortCount) : Type 0 where
  pub frames : c.frames ≡ count_frames q (λ a. true) es
  pub malformed : c.malformed ≡ count_frames q (λ a. is_malformed (frame_destination p a)) es
  pub nowhere : c.nowhere ≡ count_frames q (λ a. is_nowhere (frame_destination p a)) es
  pub unfiltered : c.unfiltered ≡ count_frames q (is_unfiltered p) es

-- A relay stands for the events that its parts stand for.
pub stands_of : {G A : Type 0} (p : Plan A) (b : RelayState G A) (es : List Event) (os : ℕ → PortPlan A → List Offer) (left : ℕ → List CapturedFrame) → b.plan ≡ p → filter.StandsFor (plan_police p) b.police (filter_inputs p es) → CarriesOffers p b os left → ((q : ℕ) (out : PortPlan A) → find_port p.ports q ≡ Some out → os q out ≡ port_offers p out es) → ((n : ℕ) (t : RecorderState) → lookup (nat_eq n) b.tables ≡ Some t → recorded_frames t ≡ event_frames p n es) → ((q : ℕ) (s : PortState A) → 1 ≤ q → port_state b.ports q ≡ Some s → HasCounted p es q s.count) → b.arrived ≡ length (arrivals es) → RelayStandsFor p b es left
stands_of p b es os left plan police st same verdicts counted arrived = record {
  plan = plan;
  police = police;
  lists = st.lists;
  others = st.others;
  each = st.each;
  offers = λ q out e. st.offers q out e ∙ same q out e;
  verdicts = verdicts;
  told = st.told;
  counts = λ q s l at. record { frames = (counted q s l at).frames; malformed = (counted q s l at).malformed; nowhere = (counted q s l at).nowhere; unfiltered = (counted q s l at).unfiltered; sent = st.sent q s l at; dropped = st.dropped q s l at };
  leaves = st.leaves;
  arrived = arrived;
}

-- The offers of a frame with a set of egress ports.
pub offer_is : {A : Type 0} (p : Plan A) (out : PortPlan A) (q : ℕ) (a : Arrival) (es : List Event) (set : ℕ) (call : FilterInput) (s : verdicts.FilterStep) (os : List Offer) → frame_destination p a ≡ Forwarded set call → out.number ≡ q → frame_step p es call ≡ s → step_offer p out a es call.priority s ≡ os → arrival_offer p out a es ≡ (if has_port set q then os else [])
offer_is p out q a es set call s os way number step is =
    ap (destination_offer p out a es) way
    ∙ (ap (λ (n : ℕ). if has_port set n then step_offer p out a es call.priority (frame_step p es call) else []) number
    ∙ (ap (λ (v : verdicts.FilterStep). if has_port set q then step_offer p out a es call.priority v else []) step
    ∙ ap (λ (v : List Offer). if has_port set q then v else []) is))

-- A passed frame adds one offer to each port of its set.
pub passed_offers : {A : Type 0} (p : Plan A) (out : PortPlan A) (q : ℕ) (a : Arrival) (es : List Event) (set : ℕ) (call : FilterInput) (s : verdicts.FilterStep) (k : ℕ) (x : CarriedFrame) → frame_destination p a ≡ Forwarded set call → out.number ≡ q → frame_step p es call ≡ s → step_offer p out a es call.priority s ≡ priority_offer out k x ∷ [] → offers_to_set set k x (λ r v. port_offers p v es) q out ≡ port_offers p out (Arrived a ∷ es)
passed_offers p out q a es set call s k x way number step is = one_or_none (has_port set q) (priority_offer out k x) (port_offers p out es) ∙ sym (ap (λ (v : List Offer). v ++ port_offers p out es) (offer_is p out q a es set call s (priority_offer out k x ∷ []) way number step is)) where
  one_or_none : (b : Bool) (o : Offer) (os : List Offer) → (if b then o ∷ os else os) ≡ ((if b then o ∷ [] else []) ++ os)
  one_or_none true o os = refl
  one_or_none false o os = refl

-- A refused frame adds no offer.
pub kept_offers : {A : Type 0} (p : Plan A) (out : PortPlan A) (q : ℕ) (a : Arrival) (es : List Event) (set : ℕ) (call : FilterInput) (s : verdicts.FilterStep) → frame_destination p a ≡ Forwarded set call → out.number ≡ q → frame_step p es call ≡ s → step_offer p out a es call.priority s ≡ [] → port_offers p out es ≡ port_offers p out (Arrived a ∷ es)
kept_offers p out q a es set call s way number step is = none_of (has_port set q) (port_offers p out es) ∙ sym (ap (λ (v : List Offer). v ++ port_offers p out es) (offer_is p out q a es set call s [] way number step is)) where
  none_of : (b : Bool) (os : List Offer) → os ≡ ((if b then [] else []) ++ os)
  none_of true os = refl
  none_of false os = refl

-- FRAME NUMBERS WITHIN A FILTER

length_plus : {X : Type 0} (xs : List X) (b : Bool) (y : X) → length (xs ++ (if b then y ∷ [] else [])) ≡ (if b then 1 else 0) + length xs
length_plus [] true y = refl
length_plus [] false y = refl
length_plus (x ∷ xs) true y = let h = length_plus xs true y in omega (arith, h)
length_plus (x ∷ xs) false y = let h = length_plus xs false y in omega (arith, h)

none_more : (n : ℕ) → n ≡ 0 + n
none_more n = omega arith

judged_more : (p : verdicts.PolicePlans) (n : ℕ) (ss : List verdicts.FilterStep) (c : FilterInput) (o : Option (ℕ × FilterPlan)) → length (filter_verdicts n (verdicts.input_step p ss c o ∷ ss)) ≡ (if is_filter_number n o then 1 else 0) + length (filter_verdicts n ss)
judged_more p n ss c None = none_more (length (filter_verdicts n ss))
judged_more p n ss c (Some f) = length_plus (filter_verdicts n ss) (nat_eq f.0 n) (verdicts.frame_verdict p ss c f.0 f.1)

called_more : {A : Type 0} (p : Plan A) (n : ℕ) (cs : List verdicts.FilterEvent) (o : Option FilterInput) → length (filter_verdicts n (verdicts.filter_steps (plan_police p) (with_input o cs))) ≡ (if is_filter_number n (input_filter p o) then 1 else 0) + length (filter_verdicts n (verdicts.filter_steps (plan_police p) cs))
called_more p n cs None = none_more (length (filter_verdicts n (verdicts.filter_steps (plan_police p) cs)))
called_more p n cs (Some c) = judged_more (plan_police p) n (verdicts.filter_steps (plan_police p) cs) c (verdicts.frame_filter p.filters c)

-- A filter has one verdict for each of its frames.
pub own_count : {A : Type 0} (p : Plan A) (n : ℕ) (es : List Event) → length (filter_verdicts n (police_steps p es)) ≡ count_filter_frames p n es
own_count p n [] = refl
own_count p n (Arrived a ∷ es) = let h = own_count p n es in called_more p n (filter_inputs p es) (arrival_input p a) ∙ ap (λ (m : ℕ). (if is_filter_number n (arrival_filter p a) then 1 else 0) + m) h
own_count p n (Cleared v m ∷ es) = own_count p n es
