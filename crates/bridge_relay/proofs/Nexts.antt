-- The next start of a relay is the next start of its schedules.
use Rattle.std.proofs.Common.{◌≡◌, ℕ, Bool, true, false, ◌+◌, ◌<◌, ◌≤◌, List, [], ◌∷◌, ◌++◌, arith, refl, ap, ◌∙◌, sym, subst, inl, inr, Option, Some, None}
use Rattle.std.specs.Prelude.{◌&&◌, if◌then◌else◌, nat_eq, nat_le, nat_lt}
use Rattle.std.proofs.lemmas.Bool.{ltb-true, ltb-false}
use Rattle.std.proofs.lemmas.Bool.Decides.{nat_tests}
use Rattle.std.proofs.lemmas.Option.{same_Some, none-some}
use Rattle.bridge_limits.proofs.Cases.{by_bool}
use Rattle.bridge_limits.proofs.Lists.{heads}
use Rattle.bridge_limits.proofs.Options.{none_some, none_of}
use Rattle.bridge_capture.specs.Grammar.{CapturedFrame}
use Rattle.bridge_cycle.specs.Fits.{Fits}
use Rattle.bridge_events.specs.Least.{IsLeast}
use Rattle.bridge_frame.specs.Link.{transmission_time}
use Rattle.bridge_frame.specs.declared.Speed.{Speed}
use Rattle.bridge_port.specs.declared.item.Item.{Item}
use Rattle.bridge_port.specs.GateSchedule.{GateSchedule, opens, lists_open}
use Rattle.bridge_port.specs.Schedule.{Copy, IsLawful, PortRules, queue_head, is_link_free, is_queued, queued_items}
use Rattle.bridge_port.specs.MappedCopies.{map_copies}
use Rattle.bridge_port.specs.StandsFor.{IsNextStartTime, IsNextStart, StandsFor, class_queue, state_rules}
use Rattle.bridge_port.proofs.Ports.{idle_whole, nil_cons, up_to}
use Rattle.bridge_port.proofs.Starts.{front, queue_begun}
use Rattle.bridge_port.proofs.Watched.{whole_seen}
use Rattle.bridge_config.specs.declared.ports.PortPlan.{PortPlan}
use Rattle.bridge_config.specs.Model.{Plan}
use Rattle.bridge_config.specs.Rules.{find_port}
use Rattle.bridge_semantics.specs.declared.queued_frame.QueuedFrame.{QueuedFrame}
use Rattle.bridge_semantics.specs.Events.{Event}
use Rattle.bridge_semantics.specs.NextStarts.{AreNextStarts, HasNextStart, IsNextBridgeStart, IsNextPortStart, ReachesStart, SendsHead, StartsNext, time_reached}
use Rattle.bridge_semantics.specs.Offers.{CarriedFrame, carried_frame, egress_rules}
use Rattle.bridge_semantics.specs.Runs.{IsRun}
use Rattle.bridge_relay.specs.declared.port_state.StartedFrame as slot
use Rattle.bridge_relay.specs.declared.port_state.PortState.{PortState}
use Rattle.bridge_relay.specs.Ports.{PortsState, MatchesPlan, ArePortsSound, HasStarted, HasLaterStarts, IsMadeByPlan, port_state}
use Rattle.bridge_relay.specs.Recorders.{RecorderState}
use Rattle.bridge_relay.proofs.Porting.{not_late}
use Rattle.bridge_relay.specs.RelayState.{RelayState, IsSound, RelayStandsFor, carried_copies}
use Rattle.bridge_relay.proofs.Ending.{lawful_out, moment_of, not_before_none, output_of, run_of, run_so_far, stood, whole_of}
use Rattle.bridge_relay.proofs.Sound.{early_started}
use Rattle.bridge_relay.proofs.Standing.{out_of}

-- THE RUN AT A START

-- Holds if exactly the starts before the start of port `port` at time `k` are made.
pub record AreMadeBefore {G A : Type 0} (held : G → ℕ → Option ℕ) (b : RelayState G A) (port k : ℕ) : Type 0 where
  pub early : (q : ℕ) (s : PortState A) → 1 ≤ q → port_state b.ports q ≡ Some s → (s.port.earliest ≤ k + 1) × (port ≤ q → s.port.earliest ≤ k)
  pub later : (q u : ℕ) → held b.ports.agenda q ≡ Some u → (k ≤ u) × (q < port → k + 1 ≤ u)

-- The least due start is the next one.
pub made_at : {G A : Type 0} (held : G → ℕ → Option ℕ) (b : RelayState G A) (d : ℕ × ℕ) → IsSound held b → IsLeast (held b.ports.agenda) (Some d) → AreMadeBefore held b d.0 d.1
made_at held b d sound least = record {
  early = λ q s l at. sound.in_turn q d.0 d.1 s l at least.0;
  later = λ q u h. elim (least.1 q u h) [
    | inl x ↦ (omega (arith, x), λ z. omega (arith, x))
    | inr x ↦ (let e = x.0 in omega (arith, e), λ z. let y = x.1 in absurd (omega (arith, y, z)))
  ];
}

-- After this start, exactly the starts up to and including it are made.
pub made_after : {G A : Type 0} (held : G → ℕ → Option ℕ) (old : RelayState G A) (ports : PortsState G A) (tables : List (ℕ × RecorderState)) (earliest q k : ℕ) (s : PortState A) (c : slot.StartedFrame A) → IsSound held old → HasStarted old.ports ports q s k c → 1 ≤ q → held old.ports.agenda q ≡ Some k → HasLaterStarts (held ports.agenda) q k → AreMadeBefore held (record old { ports = ports; tables = tables; earliest = earliest }) (q + 1) k
made_after held old ports tables earliest q k s c sound h low due later = record {
  early = early_started held old ports q k s c sound h low due;
  later = λ r u e. elim (later r u e) [
    | inl x ↦ (omega (arith, x), λ z. omega (arith, x))
    | inr x ↦ (let y = x.0 in omega (arith, y), λ z. let y = x.1 in absurd (omega (arith, y, z)))
  ];
}

up_below : (k port q : ℕ) → nat_lt q port ≡ true → k + 1 ≡ time_reached k port q
up_below k port q e = rw e refl

up_from : (k port q : ℕ) → nat_lt q port ≡ false → k ≡ time_reached k port q
up_from k port q e = rw e refl

run_before : {G A : Type 0} (held : G → ℕ → Option ℕ) (p : Plan A) (b : RelayState G A) (es : List Event) (left : ℕ → List CapturedFrame) (port k : ℕ) (st : RelayStandsFor p b es left) → IsSound held b → ArePortsSound held b.ports.slots b.ports.agenda → AreMadeBefore held b port k → IsRun p es (time_reached k port) (carried_copies st.lists)
run_before {G} {A} held p b es left port k st sound kept made = record {
  offers = st.offers;
  lawful = λ q out e.
      let s = stood held p b st.plan sound q out e in
      let early = made.early q s.slot s.from s.there in
      by_bool (nat_lt q port)
      (λ y.
      let calm = not_late s.slot.port (k + 1) (held b.ports.agenda q) (kept.due q s.slot s.from s.there) (λ u at. (made.later q u at).1 (ltb-true q port y)) in
      subst (λ (h : ℕ). IsLawful (egress_rules out) h (carried_copies st.lists q)) (up_below k port q y) (lawful_out out s.slot (k + 1) (st.lists q) s.made (up_to s.slot.port (st.lists q) (k + 1) (st.each q s.slot s.from s.there) early.0 calm)))
      (λ y.
      let calm = not_late s.slot.port k (held b.ports.agenda q) (kept.due q s.slot s.from s.there) (λ u at. (made.later q u at).0) in
      subst (λ (h : ℕ). IsLawful (egress_rules out) h (carried_copies st.lists q)) (up_from k port q y) (lawful_out out s.slot k (st.lists q) s.made (up_to s.slot.port (st.lists q) k (st.each q s.slot s.from s.there) (early.1 (ltb-false q port y)) calm)));
  others = λ q e. ap (map_copies carried_frame) (st.others q e);
}

-- The run after a start.
pub reaches_start : {G A : Type 0} (held : G → ℕ → Option ℕ) (p : Plan A) (b : RelayState G A) (es : List Event) (left : ℕ → List CapturedFrame) (port k : ℕ) → RelayStandsFor p b es left → IsSound held b → ArePortsSound held b.ports.slots b.ports.agenda → AreMadeBefore held b (port + 1) k → ReachesStart p es k port left
reaches_start held p b es left port k st sound kept made = record {
  lists = carried_copies st.lists;
  run = run_before held p b es left (port + 1) k st sound kept made;
  output = output_of held p b es left st sound;
}

-- THE HEAD OF A QUEUE

abbrev each_seen : {X Y : Type 0} → (X → Y) → List X → List Y
each_seen g [] = []
each_seen g (x ∷ xs) = g x ∷ each_seen g xs

pushed_seen : {X Y : Type 0} (g : X → Y) (b : Bool) (x : X) (xs : List X) → each_seen g xs ++ (if b then g x ∷ [] else []) ≡ each_seen g (xs ++ (if b then x ∷ [] else []))
pushed_seen g true x [] = refl
pushed_seen g false x [] = refl
pushed_seen {X} {Y} g b x (y ∷ xs) = ap (λ (ys : List Y). g y ∷ ys) (pushed_seen g b x xs)

queue_seen : {X Y : Type 0} (g : X → Y) (c : ℕ) (xs : List (Copy X)) → queued_items c (map_copies g xs) ≡ each_seen g (queued_items c xs)
queue_seen g c [] = refl
queue_seen g c (x ∷ xs) = rw (queue_seen g c xs) (pushed_seen g (nat_eq x.class c && is_queued x.fate) x.item (queued_items c xs))

free_seen : {X Y : Type 0} (g : X → Y) (r : PortRules X) (v : PortRules Y) → ((x : X) → v.occ (g x) ≡ r.occ x) → (u : ℕ) (xs : List (Copy X)) → is_link_free v u (map_copies g xs) ≡ is_link_free r u xs
free_seen g r v h u [] = refl
free_seen g r v h u (x ∷ xs) = rw (h x.item, free_seen g r v h u xs) refl

fits_out : {A : Type 0} (out : PortPlan A) (s : PortState A) → IsMadeByPlan out s → (d n k : ℕ) → Fits (opens s.port.list d) (transmission_time n s.port.speed) k → Fits (lists_open out.list d) (transmission_time n out.speed) k
fits_out out s m d n k f = subst (λ (v : GateSchedule). Fits (opens v d) (transmission_time n out.speed) k) m.list (subst (λ (v : Speed). Fits (opens s.port.list d) (transmission_time n v) k) m.pace f)

fits_in : {A : Type 0} (out : PortPlan A) (s : PortState A) → IsMadeByPlan out s → (d n k : ℕ) → Fits (lists_open out.list d) (transmission_time n out.speed) k → Fits (opens s.port.list d) (transmission_time n s.port.speed) k
fits_in out s m d n k f = subst (λ (v : Speed). Fits (opens s.port.list d) (transmission_time n v) k) (sym m.pace) (subst (λ (v : GateSchedule). Fits (opens v d) (transmission_time n out.speed) k) (sym m.list) f)

-- No head of a higher class fits.
highest_of : {A : Type 0} (s : PortState A) (k c : ℕ) (x : Item (QueuedFrame A)) → IsNextStart s.port k c x → (d : ℕ) (y : CarriedFrame) (rest : List CarriedFrame) (q : List (Item (QueuedFrame A))) → class_queue s.port d ≡ q → y ∷ rest ≡ each_seen carried_frame q → Fits (opens s.port.list d) (transmission_time y.len s.port.speed) k → d ≤ c
highest_of s k c x n d y rest [] e j f = absurd (cc)
highest_of {A} s k c x n d y rest (z ∷ q) e j f =
    let same : y ≡ carried_frame z = heads y (carried_frame z) rest (each_seen carried_frame q) j in
    n.highest d z q e (subst (λ (v : CarriedFrame). Fits (opens s.port.list d) (transmission_time v.len s.port.speed) k) same f)

-- The port's next start is the next start of its schedule.
starts_next : {A : Type 0} (out : PortPlan A) (s : PortState A) (k c : ℕ) (x : Item (QueuedFrame A)) (xs : List (Copy (Item (QueuedFrame A)))) → IsMadeByPlan out s → StandsFor s.port xs → IsNextStart s.port k c x → StartsNext out (map_copies carried_frame xs) k c (carried_frame x)
starts_next {A} out s k c x xs m st n =
    let ys : List (Copy CarriedFrame) = map_copies carried_frame xs in
    let law : IsLawful (egress_rules out) k ys = lawful_out out s k xs m (up_to s.port xs k st n.after n.least) in
    let queues : (d : ℕ) → queued_items d ys ≡ each_seen carried_frame (class_queue s.port d) = λ d. queue_seen carried_frame d xs ∙ ap (each_seen carried_frame) (st.queues d) in
    let first : queued_items c ys ≡ carried_frame x ∷ each_seen carried_frame n.rest = queues c ∙ ap (each_seen carried_frame) n.is_head in
    let on_time : nat_le s.port.free k ≡ true = let z = n.free in grind (arith, nat_tests) in
    elim (front (egress_rules out) c k k k ys (omega arith) law.starts law.offers) [
      | inl b ↦ absurd (nil_cons (carried_frame x) (each_seen carried_frame n.rest) (sym b.empty ∙ first))
      | inr w ↦
          let same : w.item ≡ carried_frame x = heads w.item (carried_frame x) (queued_items c w.after) (each_seen carried_frame n.rest) (sym (queue_begun c k w.place w.item ys w.after w.begun) ∙ first) in
          record {
            lawful = law;
            free = free_seen carried_frame (state_rules s.port) (egress_rules out) (λ y. ap (λ (v : Speed). transmission_time y.len v) (sym m.pace)) k xs ∙ (st.link k n.after ∙ on_time);
            place = w.place;
            is_head = subst (λ (z : CarriedFrame). queue_head c k ys ≡ Some (w.place, z)) same w.is_head;
            fits = fits_out out s m c x.len k n.fits;
            highest = λ d y h fits. elim (front (egress_rules out) d k k k ys (omega arith) law.starts law.offers) [
              | inl b ↦ absurd (none-some y (sym b.no_head ∙ h))
              | inr v ↦
                  let one : (v.place, v.item) ≡ y = same_Some (v.place, v.item) y (sym v.is_head ∙ h) in
                  let item : y.1 ≡ v.item = ap (λ (z : ℕ × CarriedFrame). z.1) (sym one) in
                  let fit : Fits (lists_open out.list d) (transmission_time v.item.len out.speed) k = subst (λ (z : CarriedFrame). Fits (lists_open out.list d) (transmission_time z.len out.speed) k) item fits in
                  highest_of s k c x n d v.item (queued_items d v.after) (class_queue s.port d) refl (sym (queue_begun d k v.place v.item ys v.after v.begun) ∙ queues d) (fits_in out s m d v.item.len k fit)
            ];
          }
    ]

-- The due start of a port, or none.
next_of : {A : Type 0} (out : PortPlan A) (s : PortState A) (xs : List (Copy (Item (QueuedFrame A)))) (o : Option ℕ) → IsMadeByPlan out s → StandsFor s.port xs → IsNextStartTime s.port o → IsNextPortStart out (map_copies carried_frame xs) o
next_of out s xs None m st idle = whole_seen carried_frame xs (idle_whole s.port xs st idle)
next_of out s xs (Some k) m st due = (due.0, carried_frame due.1, starts_next out s k due.0 due.1 xs m st due.2)

-- THE NEXT START OF A RELAY

-- The head that the next start sends.
pub sends_head : {G A : Type 0} (held : G → ℕ → Option ℕ) (p : Plan A) (b : RelayState G A) (es : List Event) (left : ℕ → List CapturedFrame) (port k c done : ℕ) (s : PortState A) (x : Item (QueuedFrame A)) → RelayStandsFor p b es left → IsSound held b → ArePortsSound held b.ports.slots b.ports.agenda → AreMadeBefore held b port k → 1 ≤ port → port_state b.ports port ≡ Some s → IsNextStart s.port k c x → done ≡ k + transmission_time x.len s.speed → SendsHead p es left port c k (record { time = done; len = x.len; octets = x.load.octets.items })
sends_head {G} {A} held p b es left port k c done s x st sound kept made low there next till =
    let o = out_of (find_port b.plan.ports port) s (subst (MatchesPlan (find_port b.plan.ports port)) there (sound.alike port low)) in
    let out : PortPlan A = o.0 in
    let is : HasNextStart p es left port k c (carried_frame x) = record {
      lists = carried_copies st.lists;
      run = run_before held p b es left port k st sound kept made;
      output = output_of held p b es left st sound;
      out = out;
      planned = subst (λ (v : Plan A). find_port v.ports port ≡ Some out) st.plan o.1;
      starts = starts_next out s k c x (st.lists port) o.2 (st.each port s low there) next;
    } in
    record {
      item = carried_frame x;
      next = is;
      is = ap (λ (t : ℕ). record { time = t; len = x.len; octets = x.load.octets.items }) (till ∙ ap (λ (v : Speed). k + transmission_time x.len v) o.2.speed);
    }

-- The due start of a relay is its next start.
pub next_after : {G A : Type 0} (held : G → ℕ → Option ℕ) (p : Plan A) (b : RelayState G A) (es : List Event) (left : ℕ → List CapturedFrame) (o : Option (ℕ × ℕ)) → RelayStandsFor p b es left → IsSound held b → ArePortsSound held b.ports.slots b.ports.agenda → IsLeast (held b.ports.agenda) o → IsNextBridgeStart p es left o
next_after held p b es left None st sound kept idle = record {
  moments = λ q. b.earliest;
  lists = carried_copies st.lists;
  run = run_of held p b es left b.earliest st sound kept (omega arith) (not_before_none (held b.ports.agenda) b.earliest idle);
  whole = whole_of held p b es left st sound kept idle;
  output = output_of held p b es left st sound;
}
next_after {G} {A} held p b es left (Some d) st sound kept least =
    let there = kept.others d.0 d.1 least.0 in
    let s : PortState A = there.1.0 in
    let due : IsNextStartTime s.port (Some d.1) = subst (IsNextStartTime s.port) least.0 (kept.due d.0 s there.0 there.1.1) in
    let sends = sends_head held p b es left d.0 d.1 due.0 (d.1 + transmission_time due.1.len s.speed) s due.1 st sound kept (made_at held b d sound least) there.0 there.1.1 due.2 refl in
    (due.0, sends.item, sends.next)

-- The due start of each port is its next start.
pub are_next : {G A : Type 0} (held : G → ℕ → Option ℕ) (p : Plan A) (b : RelayState G A) (es : List Event) (left : ℕ → List CapturedFrame) → RelayStandsFor p b es left → IsSound held b → ArePortsSound held b.ports.slots b.ports.agenda → AreNextStarts p es left (held b.ports.agenda)
are_next {G} {A} held p b es left st sound kept = record {
  moments = λ q. moment_of (port_state b.ports q);
  lists = carried_copies st.lists;
  run = run_so_far held p b es left st sound;
  output = output_of held p b es left st sound;
  each = λ q out e.
      let s = stood held p b st.plan sound q out e in
      next_of out s.slot (st.lists q) (held b.ports.agenda q) s.made (st.each q s.slot s.from s.there) (kept.due q s.slot s.from s.there);
  others = λ q e. none_of (held b.ports.agenda q) (λ k h.
      let there = kept.others q k h in
      let s : PortState A = there.1.0 in
      let o = out_of (find_port b.plan.ports q) s (subst (MatchesPlan (find_port b.plan.ports q)) there.1.1 (sound.alike q there.0)) in
      none_some (find_port p.ports q) o.0 e (subst (λ (v : Plan A). find_port v.ports q ≡ Some o.0) st.plan o.1));
}
