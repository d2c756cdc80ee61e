-- The events that a relay stands for, over a start.
use Rattle.std.proofs.Common.{◌≡◌, ℕ, Bool, true, false, ◌+◌, ◌-◌, ◌≤◌, List, [], ◌∷◌, ◌++◌, arith, refl, ap, ◌∙◌, sym, subst, Option, Some, None}
use Rattle.std.specs.Prelude.{nat_eq, not, if◌then◌else◌, count_by}
use Rattle.std.specs.Map.{lookup}
use Rattle.std.proofs.lemmas.Bool.Decides.{nat_tests}
use Rattle.std.proofs.lemmas.Option.{same_Some}
use Rattle.bridge_limits.specs.Members.{IsMember}
use Rattle.bridge_capture.specs.Grammar.{CapturedFrame}
use Rattle.bridge_frame.specs.Link.{transmission_time}
use Rattle.bridge_frame.specs.declared.Speed.{Speed}
use Rattle.bridge_port.specs.declared.item.Item.{Item}
use Rattle.bridge_port.specs.Schedule.{Copy, StartsOldest, is_accepted}
use Rattle.bridge_port.specs.StandsFor.{StandsFor, HasStartedOldest, state_rules}
use Rattle.bridge_port.specs.MappedCopies.{map_copies, map_copy as port_seen}
use Rattle.bridge_port.proofs.Members.{begun_there}
use Rattle.bridge_port.proofs.Watched.{begun_seen}
use Rattle.bridge_config.specs.declared.ports.PortPlan.{PortPlan}
use Rattle.bridge_config.specs.Model.{Plan}
use Rattle.bridge_config.specs.Rules.{find_port}
use Rattle.bridge_semantics.specs.declared.queued_frame.QueuedFrame.{QueuedFrame}
use Rattle.bridge_semantics.specs.declared.outcome.Departure.{Departure}
use Rattle.bridge_semantics.specs.declared.outcome.PortCount.{PortCount}
use Rattle.bridge_semantics.specs.Events.{Event}
use Rattle.bridge_semantics.specs.Offers.{CarriedFrame, carried_frame, port_offers, copy_offers}
use Rattle.bridge_semantics.specs.Outputs.{departed_frame}
use Rattle.bridge_limits.specs.Members.{IsOrdered}
use Rattle.bridge_limits.proofs.Cases.{by_bool}
use Rattle.bridge_limits.proofs.Options.{none_some}
use Rattle.bridge_semantics.specs.Runs.{DepartsEarlier, HasCopyRecord, IsPortCopy, IsPortCount}
use Rattle.bridge_relay.specs.declared.port_state.PortState.{PortState}
use Rattle.bridge_relay.specs.declared.port_state.StartedFrame as slot
use Rattle.bridge_relay.specs.PortStates.{started_port}
use Rattle.bridge_relay.specs.Recorders.{RecorderState, update_if_some, with_departure}
use Rattle.bridge_relay.specs.Ports.{PortsState, nth_port, port_state, HasStarted}
use Rattle.bridge_relay.specs.RelayState.{RelayState, HasLeft, RelayStandsFor, IsSound, recorded_frames, is_filter_number, carried_copies}
use Rattle.bridge_relay.specs.Ports.{MatchesPlan, IsMadeByPlan}
use Rattle.bridge_relay.proofs.Porting.{below, set_here, set_there}
use Rattle.bridge_relay.proofs.Sound.{changed}
use Rattle.bridge_relay.proofs.Leaving.{left_begun}
use Rattle.bridge_relay.proofs.Telling.{IsBegunAt, IsDone, dated, told_other, told_more, offered_same, counted_same, start_after, in_seen}

-- The lists with `xs` as the list of port `q`.
abbrev pub put : {X : Type 0} → ℕ → List X → (ℕ → List X) → ℕ → List X
put q xs lists r = if nat_eq r q then xs else lists r

pub put_same : {X : Type 0} (q : ℕ) (xs : List X) (lists : ℕ → List X) (r : ℕ) → nat_eq r q ≡ true → put q xs lists r ≡ xs
put_same q xs lists r e = rw e refl

pub put_other : {X : Type 0} (q : ℕ) (xs : List X) (lists : ℕ → List X) (r : ℕ) → nat_eq r q ≡ false → put q xs lists r ≡ lists r
put_other q xs lists r e = rw e refl

pub out_of : {A : Type 0} (o : Option (PortPlan A)) (s : PortState A) → MatchesPlan o (Some s) → (out : PortPlan A) × (o ≡ Some out) × IsMadeByPlan out s
out_of None s a = absurd a
out_of (Some out) s a = (out, refl, a)

now_same : {G A : Type 0} (old new : PortsState G A) (q : ℕ) (s : PortState A) (k : ℕ) (b : slot.StartedFrame A) → HasStarted old new q s k b → (r : ℕ) (v : PortState A) → nat_eq r q ≡ true → port_state new r ≡ Some v → started_port s k b.class b.item ≡ v
now_same {G} {A} old new q s k b h r v e at =
    let now : PortState A = started_port s k b.class b.item in
    let same : q ≡ r = grind (arith, nat_tests) in
    let at_now : port_state new q ≡ Some now = ap (λ (z : List (Option (PortState A))). nth_port z q) h.slots ∙ set_here old.slots q (Some now) (below old.slots q s h.there) in
    same_Some now v (sym at_now ∙ subst (λ (m : ℕ). port_state new m ≡ Some v) (sym same) at)

now_other : {G A : Type 0} (old new : PortsState G A) (q : ℕ) (s : PortState A) (k : ℕ) (b : slot.StartedFrame A) → HasStarted old new q s k b → (r : ℕ) → 1 ≤ r → nat_eq r q ≡ false → port_state new r ≡ port_state old r
now_other {G} {A} old new q s k b h r l e = ap (λ (z : List (Option (PortState A))). nth_port z r) h.slots ∙ set_there old.slots r q (Some (started_port s k b.class b.item)) l h.from e

flow_is : (flow : Option ℕ) (n : ℕ) → is_filter_number flow n ≡ true → flow ≡ Some n
flow_is None n e = absurd (cc)
flow_is (Some m) n e = let z : m ≡ n = grind (arith, nat_tests) in ap Some z

flow_not : (flow : Option ℕ) (n : ℕ) → is_filter_number flow n ≡ false → flow ≡ Some n → ⊥
flow_not None n e h = cc
flow_not (Some m) n e h = let z : m ≡ n = same_Some m n h in let w : nat_eq m n ≡ true = grind (arith, nat_tests) in let v : true ≡ false = sym w ∙ e in cc

if_true : (b : Bool) (x y : RecorderState) (t : RecorderState) → b ≡ true → t ≡ (if b then x else y) → t ≡ x
if_true b x y t e h = rw e at h

if_false : (b : Bool) (x y : RecorderState) (t : RecorderState) → b ≡ false → t ≡ (if b then x else y) → t ≡ y
if_false b x y t e h = rw e at h

verdicts_by : (b : Bool) (t : RecorderState) (d : Departure) (n : ℕ) → recorded_frames (if b then with_departure t d n else t) ≡ recorded_frames t
verdicts_by true t d n = refl
verdicts_by false t d n = refl

counted : {A : Type 0} (p : Plan A) (es : List Event) (q : ℕ) (xs ys : List (Copy CarriedFrame)) (c : PortCount) → count_by (λ x. is_accepted x.fate) ys ≡ count_by (λ x. is_accepted x.fate) xs → count_by (λ x. not (is_accepted x.fate)) ys ≡ count_by (λ x. not (is_accepted x.fate)) xs → IsPortCount p es q xs c → IsPortCount p es q ys c
counted p es q xs ys c sent dropped k = record { frames = k.frames; malformed = k.malformed; nowhere = k.nowhere; unfiltered = k.unfiltered; sent = k.sent ∙ sym sent; dropped = k.dropped ∙ sym dropped }

-- A filter's record of copies, over a start.
told_by : {A : Type 0} (p : Plan A) (n q c k : ℕ) (item : CarriedFrame) (old new : ℕ → List (Copy CarriedFrame)) (out : PortPlan A) (d : Departure) (delay : ℕ) (was t : RecorderState) → IsBegunAt q c k item old new → (item.flow ≡ Some n → IsDone p n q k item out d delay) → ((y : Copy CarriedFrame) → IsMember y (new q) → y.at ≡ y.item.at) → t ≡ (if is_filter_number item.flow n then with_departure was d delay else was) → IsOrdered DepartsEarlier t.departures → HasCopyRecord p n (IsPortCopy old) was.departures was.drops was.delay → HasCopyRecord p n (IsPortCopy new) t.departures t.drops t.delay
told_by {A} p n q c k item old new out d delay was t h done dates is rise told = by_bool (is_filter_number item.flow n)
    (λ e.
    let it : t ≡ with_departure was d delay = if_true (is_filter_number item.flow n) (with_departure was d delay) was t e is in
    subst (λ (v : RecorderState). HasCopyRecord p n (IsPortCopy new) v.departures v.drops v.delay) (sym it)
    (told_more p n q c k item old new out d delay h (done (flow_is item.flow n e)) dates was.departures was.drops was.delay (subst (λ (v : RecorderState). IsOrdered DepartsEarlier v.departures) it rise) told))
    (λ e.
    let it : t ≡ was = if_false (is_filter_number item.flow n) (with_departure was d delay) was t e is in
    subst (λ (v : RecorderState). HasCopyRecord p n (IsPortCopy new) v.departures v.drops v.delay) (sym it)
    (told_other p n q c k item old new h (flow_not item.flow n e) was.departures was.drops was.delay told))

-- After a start, the relay stands for the same events.
pub stands_started : {G A : Type 0} (held : G → ℕ → Option ℕ) (old : RelayState G A) (ports : PortsState G A) (tables : List (ℕ × RecorderState)) (earliest q k : ℕ) (s : PortState A) (c : slot.StartedFrame A) (d : Departure) (delay : ℕ) → IsSound held old → IsSound held (record old { ports = ports; tables = tables; earliest = earliest }) → HasStarted old.ports ports q s k c → d.own ≡ c.item.load.own → d.port ≡ q → d.start ≡ k → d.done ≡ c.done → delay ≡ c.done - c.item.load.at → tables ≡ update_if_some c.item.load.flow (λ t. with_departure t d delay) old.tables → (p : Plan A) (es : List Event) (left more : ℕ → List CapturedFrame) → ((r : ℕ) → more r ≡ (if nat_eq r q then left r ++ departed_frame s.speed k (carried_frame c.item) ∷ [] else left r)) → RelayStandsFor p old es left → RelayStandsFor p (record old { ports = ports; tables = tables; earliest = earliest }) es more
stands_started {G} {A} held old ports tables earliest q k s c d delay sound sound_new h own port start done delay_is told p es left more grown st =
    let now : PortState A = started_port s k c.class c.item in
    let b : HasStartedOldest now.port c.class k c.item (st.lists q) = h.stands (st.lists q) (st.each q s h.from h.there) in
    let lists : ℕ → List (Copy (Item (QueuedFrame A))) = put q b.after st.lists in
    let itself : nat_eq q q ≡ true = grind (arith, nat_tests) in
    let o = out_of (find_port old.plan.ports q) s (subst (MatchesPlan (find_port old.plan.ports q)) h.there (sound.alike q h.from)) in
    let out : PortPlan A = o.0 in
    let planned : find_port p.ports q ≡ Some out = subst (λ (v : Plan A). find_port v.ports q ≡ Some out) st.plan o.1 in
    let at : IsBegunAt q c.class k (carried_frame c.item) (carried_copies st.lists) (carried_copies lists) = record {
      place = b.place;
      begun = subst (λ (z : List (Copy (Item (QueuedFrame A)))). StartsOldest c.class k b.place (carried_frame c.item) (carried_copies st.lists q) (map_copies carried_frame z)) (sym (put_same q b.after st.lists q itself)) (begun_seen carried_frame c.class k b.place c.item (st.lists q) b.after b.begun);
      others = λ r e. ap (map_copies carried_frame) (put_other q b.after st.lists r e);
    } in
    let pace : s.port.speed ≡ s.speed = o.2.pace ∙ sym o.2.speed in
    let offers_now : (r : ℕ) (v : PortPlan A) → find_port p.ports r ≡ Some v → copy_offers (carried_copies lists r) ≡ port_offers p v es = λ r v e. offered_same q c.class k (carried_frame c.item) (carried_copies st.lists) (carried_copies lists) at r ∙ st.offers r v e in
    let dates : (y : Copy CarriedFrame) → IsMember y (carried_copies lists q) → y.at ≡ y.item.at = dated p out es (carried_copies lists q) (offers_now q out planned) in
    let copy = begun_there c.class k b.place c.item (st.lists q) b.after b.begun in
    let copied : Copy (Item (QueuedFrame A)) = copy.0 in
    let late : copied.at ≤ k = start_after (state_rules now.port) now.port.earliest b.after b.stands.lawful.starts copy.0 k copy.1 copy.2 in
    let date : copied.at ≡ c.item.load.at = dates (port_seen carried_frame copied) (subst (λ (z : List (Copy (Item (QueuedFrame A)))). IsMember (port_seen carried_frame copied) (map_copies carried_frame z)) (sym (put_same q b.after st.lists q itself)) (in_seen carried_frame b.after copy.0 copy.1)) ∙ ap (λ (v : Item (QueuedFrame A)). v.load.at) copy.3 in
    let took : c.done ≡ k + transmission_time c.item.len out.speed = h.done ∙ ap (λ (v : Speed). k + transmission_time c.item.len v) o.2.speed in
    let sum : delay + c.item.load.at ≡ d.done = omega arith in
    record {
      plan = st.plan;
      police = st.police;
      lists = lists;
      others = λ r e. by_bool (nat_eq r q)
          (λ y. absurd (let same : q ≡ r = grind (arith, nat_tests) in none_some (find_port p.ports r) out e (subst (λ (m : ℕ). find_port p.ports m ≡ Some out) same planned)))
          (λ y. put_other q b.after st.lists r y ∙ st.others r e);
      each = λ r v l there. by_bool (nat_eq r q)
          (λ y. subst (λ (w : PortState A). StandsFor w.port (lists r)) (now_same old.ports ports q s k c h r v y there) (subst (StandsFor now.port) (sym (put_same q b.after st.lists r y)) b.stands))
          (λ y. subst (StandsFor v.port) (sym (put_other q b.after st.lists r y)) (st.each r v l (sym (now_other old.ports ports q s k c h r l y) ∙ there)));
      offers = offers_now;
      verdicts = λ n t found.
          let r = changed c.item.load.flow (λ (v : RecorderState). with_departure v d delay) old.tables n t (subst (λ (z : List (ℕ × RecorderState)). lookup (nat_eq n) z ≡ Some t) told found) in
          ap recorded_frames r.is ∙ (verdicts_by (is_filter_number c.item.load.flow n) r.was d delay ∙ st.verdicts n r.was r.there);
      told = λ n t found.
          let r = changed c.item.load.flow (λ (v : RecorderState). with_departure v d delay) old.tables n t (subst (λ (z : List (ℕ × RecorderState)). lookup (nat_eq n) z ≡ Some t) told found) in
          told_by p n q c.class k (carried_frame c.item) (carried_copies st.lists) (carried_copies lists) out d delay r.was t at
          (λ f. record { flow = f; there = planned; own = own; port = port; start = start; done = done ∙ took; sum = sum })
          dates r.is (sound_new.each n t found).departures (st.told n r.was r.there);
      counts = λ r v l there. counted p es r (carried_copies st.lists r) (carried_copies lists r) v.count (counted_same (λ z. z) q c.class k (carried_frame c.item) (carried_copies st.lists) (carried_copies lists) at r) (counted_same not q c.class k (carried_frame c.item) (carried_copies st.lists) (carried_copies lists) at r) (by_bool (nat_eq r q)
          (λ y.
          let same : q ≡ r = grind (arith, nat_tests) in
          subst (λ (w : PortState A). IsPortCount p es r (carried_copies st.lists r) w.count) (now_same old.ports ports q s k c h r v y there) (subst (λ (m : ℕ). IsPortCount p es m (carried_copies st.lists m) s.count) same (st.counts q s h.from h.there)))
          (λ y. st.counts r v l (sym (now_other old.ports ports q s k c h r l y) ∙ there)));
      leaves = λ r v l there. by_bool (nat_eq r q)
          (λ y.
          let same : q ≡ r = grind (arith, nat_tests) in
          let is_more : left q ++ departed_frame s.speed k (carried_frame c.item) ∷ [] ≡ more r = subst (λ (m : ℕ). left q ++ departed_frame s.speed k (carried_frame c.item) ∷ [] ≡ more m) same (sym (one_true (nat_eq q q) (left q ++ departed_frame s.speed k (carried_frame c.item) ∷ []) (left q) (more q) itself (grown q))) in
          subst (λ (w : PortState A). HasLeft w (carried_copies lists r) (more r)) (now_same old.ports ports q s k c h r v y there)
          (subst (HasLeft now (carried_copies lists r)) is_more
          (subst (λ (m : ℕ). HasLeft now (carried_copies lists m) (left q ++ departed_frame s.speed k (carried_frame c.item) ∷ [])) same
          (left_begun s now c.class k b.place (carried_frame c.item) (carried_copies st.lists q) (carried_copies lists q) (left q) at.begun refl (ap (λ (v : Speed). k + transmission_time c.item.len v) pace) refl h.next.free (st.leaves q s h.from h.there)))))
          (λ y.
          let is_left : left r ≡ more r = sym (one_false (nat_eq r q) (left r ++ departed_frame s.speed k (carried_frame c.item) ∷ []) (left r) (more r) y (grown r)) in
          subst (HasLeft v (carried_copies lists r)) is_left
          (subst (λ (z : List (Copy CarriedFrame)). HasLeft v z (left r)) (sym (at.others r y)) (st.leaves r v l (sym (now_other old.ports ports q s k c h r l y) ∙ there))));
      arrived = st.arrived;
    } where
      one_true : (b : Bool) (x y z : List CapturedFrame) → b ≡ true → z ≡ (if b then x else y) → z ≡ x
      one_true b x y z e h = rw e at h

      one_false : (b : Bool) (x y z : List CapturedFrame) → b ≡ false → z ≡ (if b then x else y) → z ≡ y
      one_false b x y z e h = rw e at h
