-- Starts and offers keep a relay's state consistent.
use Rattle.std.proofs.Common.{◌≡◌, ℕ, Bool, true, false, ◌+◌, ◌-◌, ◌<◌, ◌≤◌, List, [], ◌∷◌, length, arith, refl, ap, ◌∙◌, sym, subst, inl, inr, Option, Some, None, slice_set, slice_index_or}
use Rattle.std.specs.Prelude.{if◌then◌else◌, nat_eq, nat_lt, IsTrue, max, ◌⊎◌, ◌&&◌, is_none, sum_by, IfSome, Result}
use Rattle.std.specs.Map.{lookup}
use Rattle.std.proofs.lemmas.Bool.Decides.{nat_tests}
use Rattle.bridge_limits.specs.Members.{IsMember}
use Rattle.bridge_filter.specs.Plans.{is_listed}
use Rattle.bridge_config.specs.declared.ports.PortPlan.{PortPlan}
use Rattle.bridge_config.specs.Rules.{find_port}
use Rattle.bridge_semantics.specs.declared.queued_frame.QueuedFrame.{QueuedFrame}
use Rattle.bridge_semantics.specs.declared.outcome.Departure.{Departure}
use Rattle.bridge_limits.proofs.Members.{in_push, rising_push}
use Rattle.bridge_limits.proofs.Cases.{by_bool}
use Rattle.bridge_limits.proofs.Options.{some_of}
use Rattle.bridge_semantics.specs.Runs.{DepartsEarlier, DropsEarlier}
use Rattle.bridge_relay.specs.declared.port_state.PortState.{PortState}
use Rattle.bridge_relay.specs.declared.port_state.StartedFrame.{StartedFrame}
use Rattle.bridge_port.specs.declared.item.Item.{Item}
use Rattle.bridge_port.specs.declared.item.Refusal.{Refusal}
use Rattle.bridge_port.specs.StandsFor.{count_queued, offer_refusal}
use Rattle.std.proofs.lemmas.List.Sums.{sum_by-set}
use Rattle.std.proofs.lemmas.Option.{same_Some}
use Rattle.bridge_semantics.specs.declared.outcome.Dropped.{Dropped}
use Rattle.bridge_relay.specs.PortStates.{started_port, offered_port, count_copy, refusal_result}
use Rattle.bridge_relay.specs.Recorders.{RecorderState, update_number, update_if_some, with_departure, with_room, with_drop, recorders_with_answer, OwesCopy, CanReserve}
use Rattle.bridge_relay.specs.Ports.{PortsState, nth_port, port_state, count_outputs, HasStarted, HasOffered, HasLaterStarts, StartsNoEarlier}
use Rattle.bridge_relay.specs.RelayState.{RelayState, IsRecorderSound, IsSound, AwaitsCopy, is_filter_unknown, count_port_items, count_all_items, is_filter_item, is_filter_number, is_item_invalid}
use Rattle.bridge_relay.specs.Ports.{MatchesPlan}
use Rattle.bridge_relay.specs.RelayedFrames.{HasOfferedCopy}
use Rattle.bridge_filter.specs.declared.FilterPlan.{FilterPlan}
use Rattle.bridge_relay.proofs.Porting.{below, set_here, set_there}
use Rattle.bridge_relay.proofs.Advancing.{count_started}

-- A value of a list by number, after the value of one number has changed.
pub record IsChangedFrom {X : Type 0} (old : List (ℕ × X)) (flow : Option ℕ) (f : X → X) (n : ℕ) (y : X) : Type 0 where
  pub was : X
  pub there : lookup (nat_eq n) old ≡ Some was
  pub is : y ≡ (if is_filter_number flow n then f was else was)

change_found : {X : Type 0} (m : ℕ) (f : X → X) (xs : List (ℕ × X)) (n : ℕ) (y : X) → lookup (nat_eq n) (update_number m f xs) ≡ Some y → IsChangedFrom xs (Some m) f n y
change_found m f [] n y h = absurd (cc)
change_found {X} m f (e ∷ xs) n y h = by_bool (nat_eq m e.0)
    (λ t.
    let k : lookup (nat_eq n) ((e.0, f e.1) ∷ xs) ≡ Some y = rw t at h in
    by_bool (nat_eq n e.0)
    (λ u.
    let same : nat_eq m n ≡ true = grind (arith, nat_tests) in
    let it : f e.1 ≡ y = same_Some (f e.1) y (rw u at k) in
    record { was = e.1; there = rw u refl; is = rw same (sym it) })
    (λ u.
    let apart : nat_eq m n ≡ false = by_bool (nat_eq m n) (λ w. absurd (let z : nat_eq n e.0 ≡ true = grind (arith, nat_tests) in let v : true ≡ false = sym z ∙ u in cc)) (λ w. w) in
    let it : lookup (nat_eq n) xs ≡ Some y = rw u at k in
    record { was = y; there = rw u it; is = rw apart refl }))
    (λ t.
    let k : lookup (nat_eq n) (e ∷ update_number m f xs) ≡ Some y = rw t at h in
    by_bool (nat_eq n e.0)
    (λ u.
    let apart : nat_eq m n ≡ false = by_bool (nat_eq m n) (λ w. absurd (let z : nat_eq m e.0 ≡ true = grind (arith, nat_tests) in let v : true ≡ false = sym z ∙ t in cc)) (λ w. w) in
    let it : e.1 ≡ y = same_Some e.1 y (rw u at k) in
    record { was = e.1; there = rw u refl; is = rw apart (sym it) })
    (λ u.
    let r = change_found m f xs n y (rw u at k) in
    record { was = r.was; there = rw u r.there; is = r.is }))

pub changed : {X : Type 0} (flow : Option ℕ) (f : X → X) (xs : List (ℕ × X)) (n : ℕ) (y : X) → lookup (nat_eq n) (update_if_some flow f xs) ≡ Some y → IsChangedFrom xs flow f n y
changed None f xs n y h = record { was = y; there = h; is = refl }
changed (Some m) f xs n y h = change_found m f xs n y h

change_there : {X : Type 0} (m : ℕ) (f : X → X) (xs : List (ℕ × X)) (n : ℕ) → is_listed n (update_number m f xs) ≡ is_listed n xs
change_there m f [] n = refl
change_there {X} m f (e ∷ xs) n = by_bool (nat_eq m e.0)
    (λ t. by_bool (nat_eq n e.0) (λ u. rw (t, u) refl) (λ u. rw (t, u) refl))
    (λ t. by_bool (nat_eq n e.0) (λ u. rw (t, u) refl) (λ u. rw (t, u) (change_there m f xs n)))

pub changed_there : {X : Type 0} (flow : Option ℕ) (f : X → X) (xs : List (ℕ × X)) (n : ℕ) → is_listed n (update_if_some flow f xs) ≡ is_listed n xs
changed_there None f xs n = refl
changed_there (Some m) f xs n = change_there m f xs n

alike_started : {A : Type 0} (o : Option (PortPlan A)) (s : PortState A) (k c : ℕ) (x : _) → MatchesPlan o (Some s) → MatchesPlan o (Some (started_port s k c x))
alike_started None s k c x a = absurd a
alike_started (Some out) s k c x a = record { speed = a.speed; vid = a.vid; priority = a.priority; classes = a.classes; pace = a.pace; list = a.list; rooms = a.rooms }

before_held : (a b c d e f : ℕ) → ((a < c) ⊎ ((a ≡ c) × (b < d))) → ((c < e) ⊎ ((c ≡ e) × (d < f))) → (a < e) ⊎ ((a ≡ e) × (b < f))
before_held a b c d e f h k = elim h [
  | inl x ↦ elim k [ inl y ↦ inl (omega arith) | inr y ↦ (let z = y.0 in inl (omega arith)) ]
  | inr x ↦ elim k [ inl y ↦ (let z = x.0 in inl (omega arith)) | inr y ↦ (let z = x.0 in let w = y.0 in let u = x.1 in let v = y.1 in inr (omega arith, omega arith)) ]
]

less_by : (b : Bool) (c d m owed : ℕ) → c ≡ (if b then 1 else 0) + d → c ≤ owed → m ≡ (if b then owed - 1 else owed) → d ≤ m
less_by true c d m owed h k e = omega arith
less_by false c d m owed h k e = omega arith

owed_of : (b : Bool) (t : RecorderState) (d : Departure) (n : ℕ) → (if b then with_departure t d n else t).owed ≡ (if b then t.owed - 1 else t.owed)
owed_of true t d n = refl
owed_of false t d n = refl

kept_by : {G A : Type 0} (held : G → ℕ → Option ℕ) (old new : RelayState G A) (n q k : ℕ) (b : Bool) (t : RecorderState) (d : Departure) (delay : ℕ) → IsRecorderSound held old n t → count_all_items (is_filter_item n) old.ports ≡ (if b then 1 else 0) + count_all_items (is_filter_item n) new.ports → d.start ≡ k → d.port ≡ q → held old.ports.agenda q ≡ Some k → HasLaterStarts (held new.ports.agenda) q k → new.arrived ≡ old.arrived → old.earliest ≤ new.earliest → k < new.earliest → IsRecorderSound held new n (if b then with_departure t d delay else t)
kept_by {G} {A} held old new n q k true t d delay kept fewer start port due later same onward past = record {
  covered = let c = kept.covered in omega arith;
  few = let f = kept.few in omega arith;
  departures = rising_push DepartsEarlier t.departures d kept.departures (λ x i. let z = (kept.left x i).1 q k due in subst (λ (m : ℕ). (x.start < m) ⊎ ((x.start ≡ m) × (x.port < d.port))) (sym start) (subst (λ (m : ℕ). (x.start < k) ⊎ ((x.start ≡ k) × (x.port < m))) (sym port) z));
  left = λ x i. elim (in_push x d t.departures i) [
    | inl l ↦ (let z = kept.left x l in ((let y = z.0 in omega arith), λ r u h. before_held x.start x.port k q u r (z.1 q k due) (later r u h)))
    | inr e ↦ (
      (let s : x.start ≡ k = ap (λ (v : Departure). v.start) e ∙ start in omega arith),
      λ r u h. subst (λ (m : ℕ). (m < u) ⊎ ((m ≡ u) × (x.port < r))) (sym (ap (λ (v : Departure). v.start) e ∙ start)) (subst (λ (m : ℕ). (k < u) ⊎ ((k ≡ u) × (m < r))) (sym (ap (λ (v : Departure). v.port) e ∙ port)) (later r u h)),
    )
  ];
  drops = kept.drops;
  dropped = kept.dropped;
}
kept_by {G} {A} held old new n q k false t d delay kept fewer start port due later same onward past = record {
  covered = let c = kept.covered in omega arith;
  few = let f = kept.few in omega arith;
  departures = kept.departures;
  left = λ x i. let z = kept.left x i in ((let y = z.0 in omega arith), λ r u h. before_held x.start x.port k q u r (z.1 q k due) (later r u h));
  drops = kept.drops;
  dropped = kept.dropped;
}

-- After a start, each port has started up to it, in the order of starts.
pub early_started : {G A : Type 0} (held : G → ℕ → Option ℕ) (old : RelayState G A) (ports : PortsState G A) (q k : ℕ) (s : PortState A) (c : StartedFrame A) → IsSound held old → HasStarted old.ports ports q s k c → 1 ≤ q → held old.ports.agenda q ≡ Some k → (p : ℕ) (r : PortState A) → 1 ≤ p → port_state ports p ≡ Some r → (r.port.earliest ≤ k + 1) × (q + 1 ≤ p → r.port.earliest ≤ k)
early_started {G} {A} held old ports q k s c sound h low due p r l at =
    let now : PortState A = started_port s k c.class c.item in
    let at_now : port_state ports q ≡ Some now = ap (λ (z : List (Option (PortState A))). nth_port z q) h.slots ∙ set_here old.ports.slots q (Some now) (below old.ports.slots q s h.there) in
    by_bool (nat_eq p q)
    (λ y.
    let same : q ≡ p = grind (arith, nat_tests) in
    let is : now ≡ r = same_Some now r (sym at_now ∙ subst (λ (m : ℕ). port_state ports m ≡ Some r) (sym same) at) in
    subst (λ (v : PortState A). (v.port.earliest ≤ k + 1) × (q + 1 ≤ p → v.port.earliest ≤ k)) is (omega arith, λ z. absurd (omega (arith, same, z))))
    (λ y.
    let other : port_state ports p ≡ port_state old.ports p = ap (λ (z : List (Option (PortState A))). nth_port z p) h.slots ∙ set_there old.ports.slots p q (Some now) l low y in
    let was = sound.in_turn p q k r l (sym other ∙ at) due in
    (was.0, λ z. was.1 (omega (arith, z))))

in_turn_after : (held : ℕ → Option ℕ) (q k e p : ℕ) → HasLaterStarts held q k → (e ≤ k + 1) × (q + 1 ≤ p → e ≤ k) → (r u : ℕ) → held r ≡ Some u → (e ≤ u + 1) × (r ≤ p → e ≤ u)
in_turn_after held q k e p later early r u h =
    let a = early.0 in
    elim (later r u h) [
      | inl x ↦ (omega (arith, a, x), λ z. omega (arith, a, x))
      | inr x ↦ (let y = x.0 in omega (arith, a, y), λ z. let y = x.0 in let w = x.1 in let m = early.1 (omega (arith, z, w)) in omega (arith, m, y))
    ]

-- A start keeps the relay's state consistent.
pub sound_started : {G A : Type 0} (held : G → ℕ → Option ℕ) (old : RelayState G A) (ports : PortsState G A) (tables : List (ℕ × RecorderState)) (earliest q k : ℕ) (s : PortState A) (c : StartedFrame A) (d : Departure) (delay : ℕ) → IsSound held old → HasStarted old.ports ports q s k c → 1 ≤ q → held old.ports.agenda q ≡ Some k → HasLaterStarts (held ports.agenda) q k → d.start ≡ k → d.port ≡ q → tables ≡ update_if_some c.item.load.flow (λ t. with_departure t d delay) old.tables → earliest ≡ max old.earliest (k + 1) → IsSound held (record old { ports = ports; tables = tables; earliest = earliest })
sound_started {G} {A} held old ports tables earliest q k s c d delay sound h low due later start port told moved =
    let now : PortState A = started_port s k c.class c.item in
    let there = below old.ports.slots q s h.there in
    let new : RelayState G A = record old { ports = ports; tables = tables; earliest = earliest } in
    let at_now : port_state ports q ≡ Some now = ap (λ (z : List (Option (PortState A))). nth_port z q) h.slots ∙ set_here old.ports.slots q (Some now) there in
    record {
      rules = sound.rules;
      acceptable = sound.acceptable;
      identified = sound.identified;
      filters = sound.filters;
      gates = sound.gates;
      meters = sound.meters;
      asked = let a = sound.asked in omega arith;
      few = sound.few;
      alike = λ p l. by_bool (nat_eq p q)
          (λ y.
          let same : q ≡ p = grind (arith, nat_tests) in
          subst (λ (m : ℕ). MatchesPlan (find_port old.plan.ports m) (port_state ports m)) same
          (subst (MatchesPlan (find_port old.plan.ports q)) (sym at_now) (alike_started (find_port old.plan.ports q) s k c.class c.item (subst (MatchesPlan (find_port old.plan.ports q)) h.there (sound.alike q low)))))
          (λ y.
          let other : port_state ports p ≡ port_state old.ports p = ap (λ (z : List (Option (PortState A))). nth_port z p) h.slots ∙ set_there old.ports.slots p q (Some now) l low y in
          subst (MatchesPlan (find_port old.plan.ports p)) (sym other) (sound.alike p l));
      early = λ p r l at. by_bool (nat_eq p q)
          (λ y.
          let same : q ≡ p = grind (arith, nat_tests) in
          let is : now ≡ r = same_Some now r (sym at_now ∙ subst (λ (m : ℕ). port_state ports m ≡ Some r) (sym same) at) in
          let was = sound.early q s low h.there in
          let few = was.1 in
          subst (λ (v : PortState A). (v.port.earliest ≤ earliest) × (v.port.offered ≤ old.arrived)) is (omega arith, few))
          (λ y.
          let other : port_state ports p ≡ port_state old.ports p = ap (λ (z : List (Option (PortState A))). nth_port z p) h.slots ∙ set_there old.ports.slots p q (Some now) l low y in
          let was = sound.early p r l (sym other ∙ at) in
          let soon = was.0 in
          (omega arith, was.1));
      in_turn = λ p r u v l at e. in_turn_after (held ports.agenda) q k v.port.earliest p later (early_started held old ports q k s c sound h low due p v l at) r u e;
      frames = λ p r l at. by_bool (nat_eq p q)
          (λ y.
          let same : q ≡ p = grind (arith, nat_tests) in
          let is : now ≡ r = same_Some now r (sym at_now ∙ subst (λ (m : ℕ). port_state ports m ≡ Some r) (sym same) at) in
          subst (λ (v : PortState A). v.count.frames ≤ old.arrived) is (sound.frames q s low h.there))
          (λ y. sound.frames p r l (sym (ap (λ (z : List (Option (PortState A))). nth_port z p) h.slots ∙ set_there old.ports.slots p q (Some now) l low y) ∙ at));
      right = let z = count_started old.ports ports q s k c h (is_item_invalid old.plan.filters) in let w = sound.right in omega arith;
      there = λ n i. subst (λ (z : List (ℕ × RecorderState)). IsTrue (is_listed n z)) (sym told) (subst IsTrue (sym (changed_there c.item.load.flow (λ t. with_departure t d delay) old.tables n)) (sound.there n i));
      each = λ n t found.
          let r = changed c.item.load.flow (λ (t : RecorderState). with_departure t d delay) old.tables n t (subst (λ (z : List (ℕ × RecorderState)). lookup (nat_eq n) z ≡ Some t) told found) in
          subst (IsRecorderSound held new n) (sym r.is) (kept_by held old new n q k (is_filter_number c.item.load.flow n) r.was d delay (sound.each n r.was r.there) (count_started old.ports ports q s k c h (is_filter_item n)) start port due later refl (omega arith) (omega arith));
    }

-- AN OFFER

offered_alike : {A : Type 0} (o : Option (PortPlan A)) (s : PortState A) (t c : ℕ) (x : _) → MatchesPlan o (Some s) → MatchesPlan o (Some (offered_port s t c x))
offered_alike None s t c x a = absurd a
offered_alike (Some out) s t c x a = record { speed = a.speed; vid = a.vid; priority = a.priority; classes = a.classes; pace = a.pace; list = a.list; rooms = a.rooms }

pub count_offered : {G A : Type 0} (old new : PortsState G A) (q : ℕ) (s : PortState A) (t c : ℕ) (x : Item (QueuedFrame A)) (result : Result (Unit {0}) Refusal) → port_state old q ≡ Some s → HasOffered old new q s t c x result → (f : Item (QueuedFrame A) → Bool) → count_all_items f new ≡ (if is_none (offer_refusal s.port c x) && f x then 1 else 0) + count_all_items f old
count_offered {G} {A} old new q s t c x result there h f =
    let now : Option (PortState A) = Some (offered_port s t c x) in
    let low = below old.slots q s there in
    let sum = sum_by-set (count_port_items f) old.slots (q - 1) now None low in
    let was : count_port_items f (slice_index_or old.slots (q - 1) None) ≡ count_queued f s.port = ap (count_port_items f) there in
    let set : count_all_items f new ≡ sum_by (count_port_items f) (slice_set old.slots (q - 1) now) = ap (sum_by (count_port_items f)) h.slots in
    let more = h.counts f in
    omega arith

not_wrong : (b w : Bool) (m n : ℕ) → w ≡ false → m ≡ (if b && w then 1 else 0) + n → n ≡ 0 → m ≡ 0
not_wrong true true m n h k e = absurd (cc)
not_wrong true false m n h k e = omega arith
not_wrong false w m n h k e = omega arith

awaited_is : {G A : Type 0} (b : RelayState G A) (flow : Option ℕ) (n own q : ℕ) → is_filter_number flow n ≡ true → IfSome flow (λ m. AwaitsCopy b m own q) → AwaitsCopy b n own q
awaited_is b None n own q h a = absurd (cc)
awaited_is b (Some m) n own q h a = let e : m ≡ n = grind (arith, nat_tests) in subst (λ (k : ℕ). AwaitsCopy b k own q) e a

left_later : {G A : Type 0} (held : G → ℕ → Option ℕ) (old new : RelayState G A) (n : ℕ) (t : RecorderState) → IsRecorderSound held old n t → StartsNoEarlier (held new.ports.agenda) new.earliest → old.earliest ≤ new.earliest → (d : Departure) → IsMember d t.departures → (d.start < new.earliest) × ((q k : ℕ) → held new.ports.agenda q ≡ Some k → (d.start < k) ⊎ ((d.start ≡ k) × (d.port < q)))
left_later held old new n t kept calm onward d i = let z = (kept.left d i).0 in (omega arith, λ q k h. let y = calm q k h in inl (omega arith))

-- A filter other than the frame's filter.
kept_other : {G A : Type 0} (held : G → ℕ → Option ℕ) (old new : RelayState G A) (n : ℕ) (t : RecorderState) → IsRecorderSound held old n t → count_all_items (is_filter_item n) new.ports ≡ count_all_items (is_filter_item n) old.ports → StartsNoEarlier (held new.ports.agenda) new.earliest → new.arrived ≡ old.arrived → old.earliest ≤ new.earliest → IsRecorderSound held new n t
kept_other held old new n t kept counts calm same onward = record {
  covered = let c = kept.covered in omega arith;
  few = let f = kept.few in omega arith;
  departures = kept.departures;
  left = left_later held old new n t kept calm onward;
  drops = kept.drops;
  dropped = kept.dropped;
}

-- The frame's filter, if the copy is queued.
kept_queued : {G A : Type 0} (held : G → ℕ → Option ℕ) (old new : RelayState G A) (n own q : ℕ) (t : RecorderState) → lookup (nat_eq n) old.tables ≡ Some t → AwaitsCopy old n own q → IsRecorderSound held old n t → count_all_items (is_filter_item n) new.ports ≡ 1 + count_all_items (is_filter_item n) old.ports → StartsNoEarlier (held new.ports.agenda) new.earliest → new.arrived ≡ old.arrived → old.earliest ≤ new.earliest → IsRecorderSound held new n t
kept_queued held old new n own q t there a kept counts calm same onward =
    let it : a.table ≡ t = same_Some a.table t (sym a.there ∙ there) in
    let spare : count_all_items (is_filter_item n) old.ports + 1 ≤ t.owed = subst (λ (v : RecorderState). count_all_items (is_filter_item n) old.ports + 1 ≤ v.owed) it a.spare in
    record {
      covered = omega arith;
      few = let f = kept.few in omega arith;
      departures = kept.departures;
      left = left_later held old new n t kept calm onward;
      drops = kept.drops;
      dropped = kept.dropped;
    }

-- The frame's filter, if the copy is dropped.
kept_dropped : {G A : Type 0} (held : G → ℕ → Option ℕ) (old new : RelayState G A) (n own q : ℕ) (t : RecorderState) (r : Refusal) → lookup (nat_eq n) old.tables ≡ Some t → AwaitsCopy old n own q → IsRecorderSound held old n t → count_all_items (is_filter_item n) new.ports ≡ count_all_items (is_filter_item n) old.ports → StartsNoEarlier (held new.ports.agenda) new.earliest → new.arrived ≡ old.arrived → old.earliest ≤ new.earliest → IsRecorderSound held new n (with_drop t (record { own = own; port = q; refusal = r }))
kept_dropped held old new n own q t r there a kept counts calm same onward =
    let it : a.table ≡ t = same_Some a.table t (sym a.there ∙ there) in
    let spare : count_all_items (is_filter_item n) old.ports + 1 ≤ t.owed = subst (λ (v : RecorderState). count_all_items (is_filter_item n) old.ports + 1 ≤ v.owed) it a.spare in
    let later = subst (λ (v : RecorderState). (d : Dropped) → IsMember d v.drops → (d.own < own) ⊎ ((d.own ≡ own) × (d.port < q))) it a.later in
    let heard : own ≤ length t.verdicts = subst (λ (v : RecorderState). own ≤ length v.verdicts) it a.heard in
    let d : Dropped = record { own = own; port = q; refusal = r } in
    record {
      covered = omega arith;
      few = let f = kept.few in omega arith;
      departures = kept.departures;
      left = left_later held old new n t kept calm onward;
      drops = rising_push DropsEarlier t.drops d kept.drops later;
      dropped = λ x i. elim (in_push x d t.drops i) [ inl l ↦ kept.dropped x l | inr e ↦ subst (λ (v : Dropped). v.own ≤ length t.verdicts) (sym e) heard ];
    }

if_kept : {G A : Type 0} (held : G → ℕ → Option ℕ) (b : RelayState G A) (n : ℕ) (test : Bool) (x y : RecorderState) → (test ≡ true → IsRecorderSound held b n x) → (test ≡ false → IsRecorderSound held b n y) → IsRecorderSound held b n (if test then x else y)
if_kept held b n true x y h k = h refl
if_kept held b n false x y h k = k refl

each_offered : {G A : Type 0} (held : G → ℕ → Option ℕ) (old new : RelayState G A) (n q own : ℕ) (flow : Option ℕ) (o : Option Refusal) (t : RecorderState) → IsSound held old → new.tables ≡ recorders_with_answer old.tables flow own q (refusal_result o) → lookup (nat_eq n) new.tables ≡ Some t → IfSome flow (λ m. AwaitsCopy old m own q) → count_all_items (is_filter_item n) new.ports ≡ (if is_none o && is_filter_number flow n then 1 else 0) + count_all_items (is_filter_item n) old.ports → StartsNoEarlier (held new.ports.agenda) new.earliest → new.arrived ≡ old.arrived → old.earliest ≤ new.earliest → IsRecorderSound held new n t
each_offered {G} {A} held old new n q own flow None t sound told found awaits counts calm same onward =
    let there : lookup (nat_eq n) old.tables ≡ Some t = subst (λ (z : List (ℕ × RecorderState)). lookup (nat_eq n) z ≡ Some t) told found in
    let kept = sound.each n t there in
    by_bool (is_filter_number flow n)
    (λ y. kept_queued held old new n own q t there (awaited_is old flow n own q y awaits) kept (rw y at counts) calm same onward)
    (λ y. kept_other held old new n t kept (let z = rw y at counts in omega (arith, z)) calm same onward)
each_offered {G} {A} held old new n q own flow (Some r) t sound told found awaits counts calm same onward =
    let c = changed flow (λ (v : RecorderState). with_drop v (record { own = own; port = q; refusal = r })) old.tables n t (subst (λ (z : List (ℕ × RecorderState)). lookup (nat_eq n) z ≡ Some t) told found) in
    let kept = sound.each n c.was c.there in
    let still : count_all_items (is_filter_item n) new.ports ≡ count_all_items (is_filter_item n) old.ports = omega (arith, counts) in
    subst (IsRecorderSound held new n) (sym c.is) (if_kept held new n (is_filter_number flow n) (with_drop c.was (record { own = own; port = q; refusal = r })) c.was
    (λ y. kept_dropped held old new n own q c.was r c.there (awaited_is old flow n own q y awaits) kept still calm same onward)
    (λ y. kept_other held old new n c.was kept still calm same onward))

answer_there : (tables : List (ℕ × RecorderState)) (flow : Option ℕ) (own q : ℕ) (o : Option Refusal) (n : ℕ) → is_listed n (recorders_with_answer tables flow own q (refusal_result o)) ≡ is_listed n tables
answer_there tables flow own q None n = refl
answer_there tables flow own q (Some r) n = changed_there flow (λ (v : RecorderState). with_drop v (record { own = own; port = q; refusal = r })) tables n

frames_same : {A : Type 0} (s : PortState A) (o : Option Refusal) → (count_copy s.count o).frames ≡ s.count.frames
frames_same s None = refl
frames_same s (Some r) = refl

-- An offer keeps the relay's state consistent.
pub sound_offered : {G A : Type 0} (held : G → ℕ → Option ℕ) (old : RelayState G A) (ports : PortsState G A) (tables : List (ℕ × RecorderState)) (q t c : ℕ) (s : PortState A) (x : Item (QueuedFrame A)) (answer : Result (Unit {0}) Refusal) → IsSound held old → port_state old.ports q ≡ Some s → HasOffered old.ports ports q s t c x answer → 1 ≤ q → StartsNoEarlier (held ports.agenda) t → old.earliest ≤ t → s.port.offered < old.arrived → is_item_invalid old.plan.filters x ≡ false → IfSome x.load.flow (λ m. AwaitsCopy old m x.load.own q) → tables ≡ recorders_with_answer old.tables x.load.flow x.load.own q answer → IsSound held (record old { ports = ports; tables = tables; earliest = t })
sound_offered {G} {A} held old ports tables q t c s x answer sound there h low calm onward fresh right awaits told =
    let now : PortState A = offered_port s t c x in
    let place = below old.ports.slots q s there in
    let new : RelayState G A = record old { ports = ports; tables = tables; earliest = t } in
    let at_now : port_state ports q ≡ Some now = ap (λ (z : List (Option (PortState A))). nth_port z q) h.slots ∙ set_here old.ports.slots q (Some now) place in
    let noted : tables ≡ recorders_with_answer old.tables x.load.flow x.load.own q (refusal_result (offer_refusal s.port c x)) = told ∙ ap (recorders_with_answer old.tables x.load.flow x.load.own q) h.answer in
    let early : (p : ℕ) (r : PortState A) → 1 ≤ p → port_state ports p ≡ Some r → (r.port.earliest ≤ t) × (r.port.offered ≤ old.arrived) = λ p r l at. by_bool (nat_eq p q)
    (λ y.
    let same : q ≡ p = grind (arith, nat_tests) in
    let is : now ≡ r = same_Some now r (sym at_now ∙ subst (λ (m : ℕ). port_state ports m ≡ Some r) (sym same) at) in
    subst (λ (v : PortState A). (v.port.earliest ≤ t) × (v.port.offered ≤ old.arrived)) is (omega arith, omega arith))
    (λ y.
    let other : port_state ports p ≡ port_state old.ports p = ap (λ (z : List (Option (PortState A))). nth_port z p) h.slots ∙ set_there old.ports.slots p q (Some now) l low y in
    let was = sound.early p r l (sym other ∙ at) in
    let soon = was.0 in
    (omega arith, was.1)) in
    record {
      rules = sound.rules;
      acceptable = sound.acceptable;
      identified = sound.identified;
      filters = sound.filters;
      gates = sound.gates;
      meters = sound.meters;
      asked = let a = sound.asked in omega arith;
      few = sound.few;
      alike = λ p l. by_bool (nat_eq p q)
          (λ y.
          let same : q ≡ p = grind (arith, nat_tests) in
          subst (λ (m : ℕ). MatchesPlan (find_port old.plan.ports m) (port_state ports m)) same
          (subst (MatchesPlan (find_port old.plan.ports q)) (sym at_now) (offered_alike (find_port old.plan.ports q) s t c x (subst (MatchesPlan (find_port old.plan.ports q)) there (sound.alike q low)))))
          (λ y.
          let other : port_state ports p ≡ port_state old.ports p = ap (λ (z : List (Option (PortState A))). nth_port z p) h.slots ∙ set_there old.ports.slots p q (Some now) l low y in
          subst (MatchesPlan (find_port old.plan.ports p)) (sym other) (sound.alike p l));
      early = early;
      in_turn = λ p r k v l at e. let a = (early p v l at).0 in let b = calm r k e in (omega (arith, a, b), λ z. omega (arith, a, b));
      frames = λ p r l at. by_bool (nat_eq p q)
          (λ y.
          let same : q ≡ p = grind (arith, nat_tests) in
          let is : now ≡ r = same_Some now r (sym at_now ∙ subst (λ (m : ℕ). port_state ports m ≡ Some r) (sym same) at) in
          subst (λ (v : PortState A). v.count.frames ≤ old.arrived) is (subst (λ (n : ℕ). n ≤ old.arrived) (sym (frames_same s (offer_refusal s.port c x))) (sound.frames q s low there)))
          (λ y. sound.frames p r l (sym (ap (λ (z : List (Option (PortState A))). nth_port z p) h.slots ∙ set_there old.ports.slots p q (Some now) l low y) ∙ at));
      right = not_wrong (is_none (offer_refusal s.port c x)) (is_item_invalid old.plan.filters x) (count_all_items (is_item_invalid old.plan.filters) ports) (count_all_items (is_item_invalid old.plan.filters) old.ports) right (count_offered old.ports ports q s t c x answer there h (is_item_invalid old.plan.filters)) sound.right;
      there = λ n i. subst (λ (z : List (ℕ × RecorderState)). IsTrue (is_listed n z)) (sym noted) (subst IsTrue (sym (answer_there old.tables x.load.flow x.load.own q (offer_refusal s.port c x) n)) (sound.there n i));
      each = λ n v found. each_offered held old new n q x.load.own x.load.flow (offer_refusal s.port c x) v sound noted found awaits (count_offered old.ports ports q s t c x answer there h (is_filter_item n)) calm refl onward;
    }

pub owes_awaited : {G A : Type 0} (b : RelayState G A) (flow : Option ℕ) (own q : ℕ) → IfSome flow (λ n. AwaitsCopy b n own q) → IfSome flow (OwesCopy b.tables)
owes_awaited b None own q a = tt
owes_awaited b (Some n) own q a = let s = a.spare in (a.table, a.there, omega arith)

pub right_of : {A : Type 0} (filters : List (ℕ × FilterPlan)) (x : Item (QueuedFrame A)) → is_filter_unknown filters x.load.flow ≡ false → length x.load.octets.items ≤ x.len → is_item_invalid filters x ≡ false
right_of filters x stray short = let y : nat_lt x.len (length x.load.octets.items) ≡ false = grind (arith, nat_tests) in rw (stray, y) refl

pub has_offered_to : {G A : Type 0} (old : RelayState G A) (ports : PortsState G A) (tables : List (ℕ × RecorderState)) (q c : ℕ) (s : PortState A) (x : Item (QueuedFrame A)) (answer : Result (Unit {0}) Refusal) → port_state old.ports q ≡ Some s → HasOffered old.ports ports q s x.load.at c x answer → tables ≡ recorders_with_answer old.tables x.load.flow x.load.own q answer → HasOfferedCopy old (record old { ports = ports; tables = tables; earliest = x.load.at }) q s c x
has_offered_to old ports tables q c s x answer there h told = record {
  slots = h.slots;
  tables = told ∙ ap (recorders_with_answer old.tables x.load.flow x.load.own q) h.answer;
  plan = refl;
  police = refl;
  arrived = refl;
  earliest = refl;
  stands = λ xs st. h.stands xs st;
  counts = count_offered old.ports ports q s x.load.at c x answer there h;
}

-- RESERVED CAPACITY

promised_kept : {G A : Type 0} (held : G → ℕ → Option ℕ) (old new : RelayState G A) (n k : ℕ) (test : Bool) (t : RecorderState) → IsRecorderSound held old n t → k ≤ 16 → new.ports ≡ old.ports → new.arrived ≡ old.arrived + 1 → new.earliest ≡ old.earliest → IsRecorderSound held new n (if test then with_room t k else t)
promised_kept {G} {A} held old new n k true t kept few ports arrived earliest = record {
  covered = subst (λ (p : PortsState G A). count_all_items (is_filter_item n) p ≤ t.owed + k) (sym ports) (let c = kept.covered in omega arith);
  few = let f = kept.few in omega arith;
  departures = kept.departures;
  left = λ d i. let z = kept.left d i in ((let y = z.0 in omega arith), subst (λ (p : PortsState G A). (q u : ℕ) → held p.agenda q ≡ Some u → (d.start < u) ⊎ ((d.start ≡ u) × (d.port < q))) (sym ports) z.1);
  drops = kept.drops;
  dropped = kept.dropped;
}
promised_kept {G} {A} held old new n k false t kept few ports arrived earliest = record {
  covered = subst (λ (p : PortsState G A). count_all_items (is_filter_item n) p ≤ t.owed) (sym ports) kept.covered;
  few = let f = kept.few in omega arith;
  departures = kept.departures;
  left = λ d i. let z = kept.left d i in ((let y = z.0 in omega arith), subst (λ (p : PortsState G A). (q u : ℕ) → held p.agenda q ≡ Some u → (d.start < u) ⊎ ((d.start ≡ u) × (d.port < q))) (sym ports) z.1);
  drops = kept.drops;
  dropped = kept.dropped;
}

-- A reservation for one more frame keeps the relay's state consistent.
pub sound_promised : {G A : Type 0} (held : G → ℕ → Option ℕ) (old : RelayState G A) (tables : List (ℕ × RecorderState)) (filter : Option ℕ) (k : ℕ) → IsSound held old → old.arrived < 16000000 → k ≤ 16 → tables ≡ update_if_some filter (λ t. with_room t k) old.tables → IsSound held (record old { arrived = old.arrived + 1; tables = tables })
sound_promised {G} {A} held old tables filter k sound few small told =
    let new : RelayState G A = record old { arrived = old.arrived + 1; tables = tables } in
    record {
      rules = sound.rules;
      acceptable = sound.acceptable;
      identified = sound.identified;
      filters = sound.filters;
      gates = sound.gates;
      meters = sound.meters;
      asked = sound.asked;
      few = let f = sound.few.0 in (omega arith, omega arith);
      alike = sound.alike;
      early = λ q s l at. let e = sound.early q s l at in (e.0, let z = e.1 in omega arith);
      in_turn = sound.in_turn;
      frames = λ q s l at. let z = sound.frames q s l at in omega arith;
      right = sound.right;
      there = λ n i. subst (λ (z : List (ℕ × RecorderState)). IsTrue (is_listed n z)) (sym told) (subst IsTrue (sym (changed_there filter (λ (t : RecorderState). with_room t k) old.tables n)) (sound.there n i));
      each = λ n t found.
          let r = changed filter (λ (v : RecorderState). with_room v k) old.tables n t (subst (λ (z : List (ℕ × RecorderState)). lookup (nat_eq n) z ≡ Some t) told found) in
          subst (IsRecorderSound held new n) (sym r.is) (promised_kept held old new n k (is_filter_number filter n) r.was (sound.each n r.was r.there) small refl refl refl);
    }

pub may_promise : {G A : Type 0} (held : G → ℕ → Option ℕ) (b : RelayState G A) (filter : Option ℕ) (k : ℕ) → IsSound held b → k ≤ 16 → IfSome filter (λ n. IsTrue (is_listed n b.plan.filters)) → IfSome filter (CanReserve b.tables k)
may_promise held b None k sound small there = tt
may_promise held b (Some n) k sound small there =
    let t = some_of (lookup (nat_eq n) b.tables) (sound.there n there) in
    let few = (sound.each n t.0 t.1).few in
    let all = sound.few.1 in
    (t.0, t.1, omega arith)

pub promised_state : {G A : Type 0} (old now : RelayState G A) (tables : List (ℕ × RecorderState)) (filter : Option ℕ) (k set : ℕ) → old ≡ now → tables ≡ update_if_some filter (λ t. with_room t k) old.tables → k ≡ count_outputs old.ports.slots set 16 → record old { arrived = old.arrived + 1; tables = tables } ≡ record now { arrived = now.arrived + 1; tables = update_if_some filter (λ t. with_room t (count_outputs now.ports.slots set 16)) now.tables }
promised_state {G} {A} old now tables filter k set view told count = subst (λ (v : RelayState G A). record old { arrived = old.arrived + 1; tables = tables } ≡ record v { arrived = v.arrived + 1; tables = update_if_some filter (λ t. with_room t (count_outputs v.ports.slots set 16)) v.tables }) view (ap (λ (z : List (ℕ × RecorderState)). record old { arrived = old.arrived + 1; tables = z }) (told ∙ ap (λ (n : ℕ). update_if_some filter (λ t. with_room t n) old.tables) count))
