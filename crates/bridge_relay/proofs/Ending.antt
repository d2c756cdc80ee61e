-- The run that a relay stands for.
use Rattle.std.proofs.Common.{◌≡◌, ℕ, zero, suc, ◌≤◌, List, [], ◌∷◌, arith, refl, ap, sym, subst, Option, Some, None}
use Rattle.std.specs.Prelude.{slice_index_or}
use Rattle.std.proofs.lemmas.Option.{same_Some}
use Rattle.bridge_capture.specs.Grammar.{CapturedFrame}
use Rattle.bridge_frame.specs.Link.{transmission_time}
use Rattle.bridge_frame.specs.declared.Speed.{Speed}
use Rattle.bridge_port.specs.declared.item.Item.{Item}
use Rattle.bridge_port.specs.GateSchedule.{GateSchedule, opens, can_fit}
use Rattle.bridge_port.specs.Schedule.{Copy, IsLawful}
use Rattle.bridge_port.specs.MappedCopies.{map_copies, SameRooms}
use Rattle.bridge_port.specs.Solo.{IsFinished}
use Rattle.bridge_port.specs.StandsFor.{state_rules, IsNextStartTime, IsIdle}
use Rattle.bridge_port.proofs.Ports.{up_to, idle_whole}
use Rattle.bridge_port.proofs.Watched.{lawful_seen, whole_seen}
use Rattle.bridge_config.specs.declared.ports.PortPlan.{PortPlan}
use Rattle.bridge_config.specs.Model.{Plan}
use Rattle.bridge_config.specs.Rules.{find_port}
use Rattle.bridge_semantics.specs.declared.queued_frame.QueuedFrame.{QueuedFrame}
use Rattle.bridge_semantics.specs.Events.{Event}
use Rattle.bridge_semantics.specs.Offers.{CarriedFrame, carried_frame, egress_rules}
use Rattle.bridge_semantics.specs.Outputs.{IsOutput, ReachesTime, HasRun}
use Rattle.bridge_semantics.specs.Runs.{IsRun, AreFinished}
use Rattle.bridge_relay.specs.declared.port_state.PortState.{PortState}
use Rattle.bridge_relay.specs.Ports.{port_state, ArePortsSound, StartsNoEarlier}
use Rattle.bridge_relay.proofs.Porting.{not_late}
use Rattle.bridge_relay.specs.RelayState.{RelayState, RelayStandsFor, IsSound, carried_copies}
use Rattle.bridge_relay.specs.Ports.{MatchesPlan, IsMadeByPlan}
use Rattle.bridge_relay.proofs.Relayed.{port_is}

same_rooms : {X : Type 0} (room other : ℕ → ℕ) → ((c : ℕ) → room c ≡ other c) → (xs : List (Copy X)) → SameRooms room other xs
same_rooms room other h [] = tt
same_rooms room other h (x ∷ xs) = (h x.class, same_rooms room other h xs)

-- The copies of a port are lawful by the plan.
pub lawful_out : {A : Type 0} (out : PortPlan A) (s : PortState A) (h : ℕ) (xs : List (Copy (Item (QueuedFrame A)))) → IsMadeByPlan out s → IsLawful (state_rules s.port) h xs → IsLawful (egress_rules out) h (map_copies carried_frame xs)
lawful_out {A} out s h xs m l =
    let z = lawful_seen carried_frame (state_rules s.port) (λ x. transmission_time x.len out.speed) (λ c. slice_index_or out.rooms c 0) (λ x. ap (λ (v : Speed). transmission_time x.len v) (sym m.pace)) h xs (same_rooms (λ c. slice_index_or s.port.rooms c 0) (λ c. slice_index_or out.rooms c 0) (λ c. ap (λ (v : List ℕ). slice_index_or v c 0) m.rooms) xs) l in
    subst (λ (v : GateSchedule). IsLawful {X = CarriedFrame} (record { opens = opens v; ever = can_fit v; room = λ c. slice_index_or out.rooms c 0; occ = λ x. transmission_time x.len out.speed }) h (map_copies carried_frame xs)) m.list z

-- The relay's port for a port of the plan.
pub record Stood {G A : Type 0} (b : RelayState G A) (q : ℕ) (out : PortPlan A) : Type 0 where
  pub from : 1 ≤ q
  pub slot : PortState A
  pub there : port_state b.ports q ≡ Some slot
  pub made : IsMadeByPlan out slot

slot_of : {A : Type 0} (o : Option (PortPlan A)) (r : Option (PortState A)) (out : PortPlan A) → MatchesPlan o r → o ≡ Some out → (s : PortState A) × (r ≡ Some s) × IsMadeByPlan out s
slot_of None r out a e = absurd (cc)
slot_of (Some v) None out a e = absurd a
slot_of (Some v) (Some s) out a e = (s, refl, subst (λ (w : PortPlan _). IsMadeByPlan w s) (same_Some v out e) a)

pub stood : {G A : Type 0} (held : G → ℕ → Option ℕ) (p : Plan A) (b : RelayState G A) → b.plan ≡ p → IsSound held b → (q : ℕ) (out : PortPlan A) → find_port p.ports q ≡ Some out → Stood b q out
stood {G} {A} held p b same sound q out e =
    let at : find_port b.plan.ports q ≡ Some out = subst (λ (v : Plan A). find_port v.ports q ≡ Some out) (sym same) e in
    let is = port_is b.plan.ports q out sound.rules.ports.each at in
    let low = is.0.number_from in
    let number = is.1 in
    let from : 1 ≤ q = omega (arith, low, number) in
    let s = slot_of (find_port b.plan.ports q) (port_state b.ports q) out (sound.alike q from) at in
    record { from = from; slot = s.0; there = s.1; made = s.2 }

-- The run up to a time before which no start is due.
pub run_of : {G A : Type 0} (held : G → ℕ → Option ℕ) (p : Plan A) (b : RelayState G A) (es : List Event) (left : ℕ → List CapturedFrame) (h : ℕ) (st : RelayStandsFor p b es left) → IsSound held b → ArePortsSound held b.ports.slots b.ports.agenda → b.earliest ≤ h → StartsNoEarlier (held b.ports.agenda) h → IsRun p es (λ q. h) (carried_copies st.lists)
run_of {G} {A} held p b es left h st sound kept late due = record {
  offers = st.offers;
  lawful = λ q out e.
      let s = stood held p b st.plan sound q out e in
      let early = (sound.early q s.slot s.from s.there).0 in
      let calm = not_late s.slot.port h (held b.ports.agenda q) (kept.due q s.slot s.from s.there) (λ k at. due q k at) in
      lawful_out out s.slot h (st.lists q) s.made (up_to s.slot.port (st.lists q) h (st.each q s.slot s.from s.there) (omega (arith, early, late)) calm);
  others = λ q e. ap (map_copies carried_frame) (st.others q e);
}

-- The frames that have left the ports.
pub output_of : {G A : Type 0} (held : G → ℕ → Option ℕ) (p : Plan A) (b : RelayState G A) (es : List Event) (left : ℕ → List CapturedFrame) (st : RelayStandsFor p b es left) → IsSound held b → (q : ℕ) (out : PortPlan A) → find_port p.ports q ≡ Some out → IsOutput out.speed (carried_copies st.lists q) (left q)
output_of held p b es left st sound q out e =
    let s = stood held p b st.plan sound q out e in
    subst (λ (v : Speed). IsOutput v (carried_copies st.lists q) (left q)) s.made.speed (st.leaves q s.slot s.from s.there).output

pub reaches_of : {G A : Type 0} (held : G → ℕ → Option ℕ) (p : Plan A) (b : RelayState G A) (es : List Event) (left : ℕ → List CapturedFrame) (h : ℕ) → RelayStandsFor p b es left → IsSound held b → ArePortsSound held b.ports.slots b.ports.agenda → b.earliest ≤ h → StartsNoEarlier (held b.ports.agenda) h → ReachesTime p es h left
reaches_of held p b es left h st sound kept late due = record {
  lists = carried_copies st.lists;
  run = run_of held p b es left h st sound kept late due;
  output = output_of held p b es left st sound;
}

-- The time up to which a port has run; 0 for a missing port.
abbrev pub moment_of : {A : Type 0} → Option (PortState A) → ℕ
moment_of None = 0
moment_of (Some s) = s.port.earliest

moment_some : {A : Type 0} (o : Option (PortState A)) (s : PortState A) → o ≡ Some s → s.port.earliest ≡ moment_of o
moment_some o s e = ap moment_of (sym e)

moment_within : {A : Type 0} (o : Option (PortState A)) (t : ℕ) → ((s : PortState A) → o ≡ Some s → s.port.earliest ≤ t) → moment_of o ≤ t
moment_within None t h = omega arith
moment_within (Some s) t h = h s refl

moments_within : {G A : Type 0} (held : G → ℕ → Option ℕ) (b : RelayState G A) (t : ℕ) → IsSound held b → b.earliest ≤ t → (q : ℕ) → moment_of (port_state b.ports q) ≤ t
moments_within held b t sound late zero = moment_within (port_state b.ports 1) t (λ s e. let early = (sound.early 1 s (omega arith) e).0 in omega (arith, early, late))
moments_within held b t sound late (suc n) = moment_within (port_state b.ports (suc n)) t (λ s e. let early = (sound.early (suc n) s (omega arith) e).0 in omega (arith, early, late))

-- Each port has run up to its own time.
pub run_so_far : {G A : Type 0} (held : G → ℕ → Option ℕ) (p : Plan A) (b : RelayState G A) (es : List Event) (left : ℕ → List CapturedFrame) (st : RelayStandsFor p b es left) → IsSound held b → IsRun p es (λ q. moment_of (port_state b.ports q)) (carried_copies st.lists)
run_so_far {G} {A} held p b es left st sound = record {
  offers = st.offers;
  lawful = λ q out e.
      let s = stood held p b st.plan sound q out e in
      subst (λ (h : ℕ). IsLawful (egress_rules out) h (carried_copies st.lists q)) (moment_some (port_state b.ports q) s.slot s.there) (lawful_out out s.slot s.slot.port.earliest (st.lists q) s.made (st.each q s.slot s.from s.there).lawful);
  others = λ q e. ap (map_copies carried_frame) (st.others q e);
}

-- The run so far, while starts may be due.
pub ran_of : {G A : Type 0} (held : G → ℕ → Option ℕ) (p : Plan A) (b : RelayState G A) (es : List Event) (left : ℕ → List CapturedFrame) (until : Option ℕ) → RelayStandsFor p b es left → IsSound held b → ((t : ℕ) → until ≡ Some t → b.earliest ≤ t) → HasRun p es until left
ran_of {G} {A} held p b es left until st sound early = record {
  moments = λ q. moment_of (port_state b.ports q);
  lists = carried_copies st.lists;
  run = run_so_far held p b es left st sound;
  within = λ q t is. moments_within held b t sound (early t is) q;
  output = output_of held p b es left st sound;
}

whole_at : {G A : Type 0} (held : G → ℕ → Option ℕ) (p : Plan A) (b : RelayState G A) (es : List Event) (left : ℕ → List CapturedFrame) (st : RelayStandsFor p b es left) → IsSound held b → ArePortsSound held b.ports.slots b.ports.agenda → ((q : ℕ) → held b.ports.agenda q ≡ None) → (q : ℕ) (o : Option (PortPlan A)) → find_port p.ports q ≡ o → IsFinished (carried_copies st.lists q)
whole_at {G} {A} held p b es left st sound kept idle q None e = subst (λ (xs : List (Copy (Item (QueuedFrame A)))). IsFinished (map_copies carried_frame xs)) (sym (st.others q e)) tt
whole_at held p b es left st sound kept idle q (Some out) e =
    let s = stood held p b st.plan sound q out e in
    let none : IsIdle s.slot.port = subst (IsNextStartTime s.slot.port) (idle q) (kept.due q s.slot s.from s.there) in
    whole_seen carried_frame (st.lists q) (idle_whole s.slot.port (st.lists q) (st.each q s.slot s.from s.there) none)

-- If no start is due, no copy is queued.
pub whole_of : {G A : Type 0} (held : G → ℕ → Option ℕ) (p : Plan A) (b : RelayState G A) (es : List Event) (left : ℕ → List CapturedFrame) (st : RelayStandsFor p b es left) → IsSound held b → ArePortsSound held b.ports.slots b.ports.agenda → ((q : ℕ) → held b.ports.agenda q ≡ None) → AreFinished (carried_copies st.lists)
whole_of held p b es left st sound kept idle q = whole_at held p b es left st sound kept idle q (find_port p.ports q) refl

none_due : (o : Option ℕ) (h k : ℕ) → o ≡ None → o ≡ Some k → h ≤ k
none_due o h k e f = absurd (cc)

pub not_before_none : (held : ℕ → Option ℕ) (h : ℕ) → ((q : ℕ) → held q ≡ None) → StartsNoEarlier held h
not_before_none held h idle q k e = none_due (held q) h k (idle q) e
