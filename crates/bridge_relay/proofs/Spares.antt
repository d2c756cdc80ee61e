-- Capacity that is reserved for a frame.
use Rattle.std.proofs.Common.{◌≡◌, ℕ, zero, suc, Bool, true, false, ◌+◌, ◌-◌, ◌<◌, ◌≤◌, List, length, arith, refl, ap, ◌∙◌, sym, subst, inl, Option, Some, None}
use Rattle.std.specs.Prelude.{nat_eq, if◌then◌else◌, ◌&&◌, IfSome, IsTrue, Vec, max}
use Rattle.std.specs.Map.{lookup}
use Rattle.std.proofs.lemmas.Bool.Decides.{nat_tests}
use Rattle.std.proofs.lemmas.Option.{same_Some}
use Rattle.bridge_limits.proofs.Cases.{by_bool}
use Rattle.bridge_limits.proofs.Options.{some_of}
use Rattle.bridge_limits.proofs.Lists.{one_longer}
use Rattle.bridge_capture.specs.Grammar.{CapturedFrame}
use Rattle.bridge_filter.specs.declared.FilterInput.{FilterInput}
use Rattle.bridge_filter.specs.declared.Ruling.{Ruling}
use Rattle.bridge_filter.specs.Plans.{is_listed}
use Rattle.bridge_forward.specs.Ports.{has_port}
use Rattle.bridge_port.specs.Schedule.{Copy}
use Rattle.bridge_config.specs.declared.ports.PortPlan.{PortPlan}
use Rattle.bridge_config.specs.Model.{Plan}
use Rattle.bridge_semantics.specs.Events.{Event}
use Rattle.bridge_semantics.specs.Offers.{CarriedFrame, Offer}
use Rattle.bridge_semantics.specs.Runs.{HasCopyRecord, IsPortCopy}
use Rattle.bridge_relay.specs.declared.port_state.PortState.{PortState}
use Rattle.bridge_relay.specs.Recorders.{RecorderState, update_if_some, with_verdict, with_room, without_room, AwaitsVerdict, OwesCopies}
use Rattle.bridge_relay.specs.Ports.{nth_port, port_state, is_output, count_outputs, is_present as is_port}
use Rattle.bridge_relay.specs.RelayState.{RelayState, IsSound, IsRecorderSound, OwesSpareCopies, RelayStandsFor, recorded_frames, count_all_items, is_filter_number, is_filter_unknown, is_filter_item, carried_copies}
use Rattle.bridge_relay.specs.RelayedFrames.{CarriesOffers, HasCopies, HasPoliced, HasUncountedFrame, AwaitsCopies, IsOfferingSet, CanRelay, ruling_ingress, ingress_origin, relay_before_frame, relay_with_release}
use Rattle.bridge_relay.proofs.Sound.{changed, changed_there}
use Rattle.bridge_relay.proofs.Passing.{counting, passed_here, passed_there, count_passed}
use Rattle.bridge_relay.proofs.Porting.{below, set_here}
use Rattle.bridge_relay.proofs.Offering.{change_finds}
use Rattle.bridge_relay.proofs.Policed.{IsAfter}

-- THE RESERVATION

abbrev pub promising : {G A : Type 0} → RelayState G A → Option ℕ → ℕ → RelayState G A
promising b filter k = record b { arrived = b.arrived + 1; tables = update_if_some filter (λ t. with_room t k) b.tables }

verdicts_promised : (b : Bool) (t : RecorderState) (k : ℕ) → recorded_frames (if b then with_room t k else t) ≡ recorded_frames t
verdicts_promised true t k = refl
verdicts_promised false t k = refl

told_promised : {A : Type 0} (p : Plan A) (lists : ℕ → List (Copy CarriedFrame)) (n : ℕ) (b : Bool) (t : RecorderState) (k : ℕ) → HasCopyRecord p n (IsPortCopy lists) t.departures t.drops t.delay → HasCopyRecord p n (IsPortCopy lists) (if b then with_room t k else t).departures (if b then with_room t k else t).drops (if b then with_room t k else t).delay
told_promised p lists n true t k h = h
told_promised p lists n false t k h = h

one_more_less : (n : ℕ) → n ≡ n + 1 - 1
one_more_less n = omega arith

-- A reservation keeps the events that the relay stands for.
pub stands_promised : {G A : Type 0} (p : Plan A) (b : RelayState G A) (filter : Option ℕ) (k : ℕ) (es : List Event) (left : ℕ → List CapturedFrame) → RelayStandsFor p b es left → RelayStandsFor p (relay_before_frame (promising b filter k)) es left
stands_promised {G} {A} p b filter k es left st = record {
  plan = st.plan;
  police = st.police;
  lists = st.lists;
  others = st.others;
  each = st.each;
  offers = st.offers;
  verdicts = λ n t found.
      let c = changed filter (λ (v : RecorderState). with_room v k) b.tables n t found in
      ap recorded_frames c.is ∙ (verdicts_promised (is_filter_number filter n) c.was k ∙ st.verdicts n c.was c.there);
  told = λ n t found.
      let c = changed filter (λ (v : RecorderState). with_room v k) b.tables n t found in
      subst (λ (v : RecorderState). HasCopyRecord p n (IsPortCopy (carried_copies st.lists)) v.departures v.drops v.delay) (sym c.is) (told_promised p (carried_copies st.lists) n (is_filter_number filter n) c.was k (st.told n c.was c.there));
  counts = st.counts;
  leaves = st.leaves;
  arrived = sym (one_more_less b.arrived) ∙ st.arrived;
}

pub fresh_promised : {G A : Type 0} (held : G → ℕ → Option ℕ) (b : RelayState G A) (filter : Option ℕ) (k : ℕ) → IsSound held b → HasUncountedFrame (promising b filter k)
fresh_promised held b filter k sound = record {
  calls = let f = sound.few.0 in omega arith;
  frames = λ q s l at. let f = sound.frames q s l at in omega arith;
  offered = λ q s l at. let f = (sound.early q s l at).1 in omega arith;
}

pub spare_promised : {G A : Type 0} (held : G → ℕ → Option ℕ) (b : RelayState G A) (filter : Option ℕ) (k : ℕ) → IsSound held b → IfSome filter (λ n. IsTrue (is_listed n b.plan.filters)) → IfSome filter (OwesSpareCopies (promising b filter k) k)
spare_promised held b None k sound there = tt
spare_promised held b (Some n) k sound there =
    let t = some_of (lookup (nat_eq n) b.tables) (sound.there n there) in
    let c = (sound.each n t.0 t.1).covered in
    (with_room t.0 k, change_finds n (λ (v : RecorderState). with_room v k) b.tables t.0 t.1, omega (arith, c))

pub open_promised : {G A : Type 0} (held : G → ℕ → Option ℕ) (b : RelayState G A) (filter : Option ℕ) (k : ℕ) → IsSound held b → IfSome filter (λ n. IsTrue (is_listed n b.plan.filters)) → IfSome filter (AwaitsVerdict (promising b filter k).tables)
open_promised held b None k sound there = tt
open_promised held b (Some n) k sound there =
    let t = some_of (lookup (nat_eq n) b.tables) (sound.there n there) in
    (with_room t.0 k, change_finds n (λ (v : RecorderState). with_room v k) b.tables t.0 t.1, refl)

-- AFTER POLICING

outs_alike : {A : Type 0} (xs ys : List (Option (PortState A))) (set n : ℕ) → ((q : ℕ) → 1 ≤ q → is_port (nth_port xs q) ≡ is_port (nth_port ys q)) → count_outputs xs set n ≡ count_outputs ys set n
outs_alike xs ys set zero same = refl
outs_alike xs ys set (suc n) same =
    let h = outs_alike xs ys set n same in
    let e : is_output xs set (n + 1) ≡ is_output ys set (n + 1) = ap (λ (b : Bool). has_port set (n + 1) && b) (same (n + 1) (omega arith)) in
    ap (λ (m : ℕ). m + (if is_output xs set (n + 1) then 1 else 0)) h ∙ ap (λ (b : Bool). count_outputs ys set n + (if b then 1 else 0)) e

at_now : {G A : Type 0} (old new : RelayState G A) (q : ℕ) (s : PortState A) (c : FilterInput) (r : Option Ruling) → HasPoliced old new q s c r → port_state old.ports q ≡ Some s → port_state new.ports q ≡ Some (counting s (ruling_ingress r))
at_now {G} {A} old new q s c r h there = ap (λ (z : List (Option (PortState A))). nth_port z q) h.slots ∙ set_here old.ports.slots q (Some (counting s (ruling_ingress r))) (below old.ports.slots q s there)

there_ruled : {G A : Type 0} (old new : RelayState G A) (q : ℕ) (s : PortState A) (c : FilterInput) (r : Option Ruling) → HasPoliced old new q s c r → port_state old.ports q ≡ Some s → 1 ≤ q → (k : ℕ) → 1 ≤ k → is_port (port_state new.ports k) ≡ is_port (port_state old.ports k)
there_ruled {G} {A} old new q s c r h there low k l = by_bool (nat_eq k q)
    (λ y.
    let is : q ≡ k = grind (arith, nat_tests) in
    subst (λ (m : ℕ). is_port (port_state new.ports m) ≡ is_port (port_state old.ports m)) is (ap is_port (at_now old new q s c r h there) ∙ sym (ap is_port there)))
    (λ y. ap is_port (passed_there old new q s (ruling_ingress r) h.slots low k l y))

pub outs_ruled : {G A : Type 0} (old new : RelayState G A) (q : ℕ) (s : PortState A) (c : FilterInput) (r : Option Ruling) (set n : ℕ) → HasPoliced old new q s c r → port_state old.ports q ≡ Some s → 1 ≤ q → count_outputs new.ports.slots set n ≡ count_outputs old.ports.slots set n
outs_ruled old new q s c r set n h there low = outs_alike new.ports.slots old.ports.slots set n (there_ruled old new q s c r h there low)

pub copies_ruled : {G A : Type 0} (old new : RelayState G A) (q : ℕ) (s : PortState A) (c : FilterInput) (r : Option Ruling) (set k : ℕ) (octets : List ℕ) (copies : List (Vec ℕ A)) → HasPoliced old new q s c r → port_state old.ports q ≡ Some s → 1 ≤ q → HasCopies old.ports.slots set k octets copies → HasCopies new.ports.slots set k octets copies
copies_ruled old new q s c r set k octets copies h there low i =
    let a = outs_ruled old new q s c r set (k - 1) h there low in
    let b = outs_ruled old new q s c r set 16 h there low in
    let count = i.count in
    record { count = ap (λ (m : ℕ). length copies + m + 1) a ∙ (count ∙ ap (λ (m : ℕ). max 1 m) (sym b)); alike = i.alike }

pub pending_ruled : {G A : Type 0} (held : G → ℕ → Option ℕ) (old new : RelayState G A) (q : ℕ) (s : PortState A) (c : FilterInput) (r : Ruling) (k own : ℕ) → IsSound held old → HasPoliced old new q s c (Some r) → port_state old.ports q ≡ Some s → OwesSpareCopies old k r.filter → ((t : RecorderState) → lookup (nat_eq r.filter) old.tables ≡ Some t → own ≡ length t.verdicts + 1) → AwaitsCopies new k own 1 r.filter
pending_ruled held old new q s c r k own sound h there spare numbered =
    let t = spare.0 in
    let is = numbered t spare.1 in
    let grown = one_longer t.verdicts r.verdict in
    record {
      table = with_verdict t r.verdict (ingress_origin q c.at);
      there = subst (λ (z : List (ℕ × RecorderState)). lookup (nat_eq r.filter) z ≡ Some (with_verdict t r.verdict (ingress_origin q c.at))) (sym h.tables) (change_finds r.filter (λ (v : RecorderState). with_verdict v r.verdict (ingress_origin q c.at)) old.tables t spare.1);
      spare = let z = spare.2 in let y = count_passed old new q s (ruling_ingress (Some r)) h.slots there (is_filter_item r.filter) in omega (arith, z, y);
      heard = omega (arith, is, grown);
      later = λ d i. let z = (sound.each r.filter t spare.1).dropped d i in inl (omega (arith, z, is));
    }

pub may_relay_ruled : {G A : Type 0} (held : G → ℕ → Option ℕ) (old new : RelayState G A) (q : ℕ) (s : PortState A) (c : FilterInput) (r : Option Ruling) (x : CarriedFrame) → IsSound held old → HasUncountedFrame old → HasPoliced old new q s c r → port_state old.ports q ≡ Some s → 1 ≤ q → is_filter_unknown old.plan.filters x.flow ≡ false → x.len ≤ 9216 → length x.octets ≤ x.len → x.at < 4000000000000000000 → CanRelay new x
may_relay_ruled {G} {A} held old new q s c r x sound fresh h there low right short within range = record {
  fresh = λ k w l at. by_bool (nat_eq k q)
      (λ y. let f = fresh.offered q s low there in let same = h.arrived in subst (λ (z : PortState A). z.port.offered < new.arrived) (passed_here old new q s (ruling_ingress r) h.slots there k w y at) (omega (arith, f, same)))
      (λ y. let f = fresh.offered k w l (sym (passed_there old new q s (ruling_ingress r) h.slots low k l y) ∙ at) in let same = h.arrived in omega (arith, f, same));
  right = subst (λ (p : Plan A). is_filter_unknown p.filters x.flow ≡ false) (sym h.plan) right;
  short = (short, within);
  range = range;
  few = let f = sound.few.1 in let same = h.arrived in omega (arith, f, same);
}

pub after_offering : {G A : Type 0} (held : G → ℕ → Option ℕ) (first now : RelayState G A) (set priority : ℕ) (x : CarriedFrame) (k : ℕ) → IsOfferingSet held first now set priority x k → IsAfter first now
after_offering held first now set priority x k a = record { plan = a.plan; police = a.police; arrived = a.arrived; verdicts = a.verdicts; counted = a.counted }

-- A FRAME THAT NO PORT IS OFFERED

pub owes_spare : {G A : Type 0} (b : RelayState G A) (own k n : ℕ) → AwaitsCopies b k own 1 n → OwesCopies b.tables k n
owes_spare b own k n h = (h.table, h.there, let z = h.spare in omega (arith, z))

kept_released : {G A : Type 0} (held : G → ℕ → Option ℕ) (b : RelayState G A) (m k n : ℕ) (e : Bool) (t : RecorderState) → IsRecorderSound held b n t → (e ≡ true → count_all_items (is_filter_item n) b.ports + k ≤ t.owed) → IsRecorderSound held (relay_with_release b m k) n (if e then without_room t k else t)
kept_released held b m k n true t h spare = record { covered = (let z = spare refl in omega (arith, z)); few = (let f = h.few in omega (arith, f)); departures = h.departures; left = h.left; drops = h.drops; dropped = h.dropped }
kept_released held b m k n false t h spare = record { covered = h.covered; few = h.few; departures = h.departures; left = h.left; drops = h.drops; dropped = h.dropped }

pub sound_released : {G A : Type 0} (held : G → ℕ → Option ℕ) (b : RelayState G A) (own k n : ℕ) → IsSound held b → AwaitsCopies b k own 1 n → IsSound held (relay_with_release b n k)
sound_released {G} {A} held b own k n sound pending = record {
  rules = sound.rules;
  acceptable = sound.acceptable;
  identified = sound.identified;
  filters = sound.filters;
  gates = sound.gates;
  meters = sound.meters;
  asked = sound.asked;
  few = sound.few;
  alike = sound.alike;
  early = sound.early;
  in_turn = sound.in_turn;
  frames = sound.frames;
  right = sound.right;
  there = λ m i. subst IsTrue (sym (changed_there (Some n) (λ (t : RecorderState). without_room t k) b.tables m)) (sound.there m i);
  each = λ m t found.
      let c = changed (Some n) (λ (v : RecorderState). without_room v k) b.tables m t found in
      subst (IsRecorderSound held (relay_with_release b n k) m) (sym c.is) (kept_released held b n k m (nat_eq n m) c.was (sound.each m c.was c.there) (λ e.
      let same : n ≡ m = grind (arith, nat_tests) in
      let is : pending.table ≡ c.was = same_Some pending.table c.was (sym pending.there ∙ subst (λ (z : ℕ). lookup (nat_eq z) b.tables ≡ Some c.was) (sym same) c.there) in
      subst (λ (z : ℕ). count_all_items (is_filter_item z) b.ports + k ≤ c.was.owed) same (subst (λ (v : RecorderState). count_all_items (is_filter_item n) b.ports + k ≤ v.owed) is pending.spare)));
}

told_released : {A : Type 0} (p : Plan A) (lists : ℕ → List (Copy CarriedFrame)) (n : ℕ) (b : Bool) (t : RecorderState) (k : ℕ) → HasCopyRecord p n (IsPortCopy lists) t.departures t.drops t.delay → HasCopyRecord p n (IsPortCopy lists) (if b then without_room t k else t).departures (if b then without_room t k else t).drops (if b then without_room t k else t).delay
told_released p lists n true t k h = h
told_released p lists n false t k h = h

verdicts_released : (b : Bool) (t : RecorderState) (k : ℕ) → recorded_frames (if b then without_room t k else t) ≡ recorded_frames t
verdicts_released true t k = refl
verdicts_released false t k = refl

pub carries_released : {G A : Type 0} (p : Plan A) (b : RelayState G A) (n k : ℕ) (os : ℕ → PortPlan A → List Offer) (left : ℕ → List CapturedFrame) → CarriesOffers p b os left → CarriesOffers p (relay_with_release b n k) os left
carries_released p b n k os left st = record {
  lists = st.lists;
  others = st.others;
  each = st.each;
  offers = st.offers;
  told = λ m t found.
      let c = changed (Some n) (λ (v : RecorderState). without_room v k) b.tables m t found in
      subst (λ (v : RecorderState). HasCopyRecord p m (IsPortCopy (carried_copies st.lists)) v.departures v.drops v.delay) (sym c.is) (told_released p (carried_copies st.lists) m (nat_eq n m) c.was k (st.told m c.was c.there));
  sent = st.sent;
  dropped = st.dropped;
  leaves = st.leaves;
}

pub after_released : {G A : Type 0} (b : RelayState G A) (n k : ℕ) → IsAfter b (relay_with_release b n k)
after_released b n k = record {
  plan = refl;
  police = refl;
  arrived = refl;
  verdicts = λ m t found.
      let c = changed (Some n) (λ (v : RecorderState). without_room v k) b.tables m t found in
      (c.was, c.there, ap recorded_frames c.is ∙ verdicts_released (nat_eq n m) c.was k);
  counted = λ q s l at. (s, at, record { frames = refl; malformed = refl; nowhere = refl; unfiltered = refl });
}
