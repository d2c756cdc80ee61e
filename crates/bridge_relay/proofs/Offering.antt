-- A frame is offered to one port after another.
use Rattle.std.proofs.Common.{◌≡◌, ℕ, zero, suc, Bool, true, false, ◌+◌, ◌-◌, ◌<◌, ◌≤◌, List, [], ◌∷◌, ◌++◌, length, arith, refl, ap, ◌∙◌, sym, subst, inl, inr, Option, Some, None}
use Rattle.std.specs.Prelude.{nat_eq, nat_lt, not, if◌then◌else◌, slice_index, count_by, ◌⊎◌, ◌&&◌, is_none, IfSome, Vec, max}
use Rattle.std.specs.Map.{lookup}
use Rattle.std.proofs.lemmas.Bool.Decides.{nat_tests}
use Rattle.bridge_limits.specs.Members.{IsMember}
use Rattle.std.proofs.lemmas.Bool.{cases_lt}
use Rattle.std.proofs.lemmas.Option.{same_Some}
use Rattle.bridge_capture.specs.Grammar.{CapturedFrame}
use Rattle.bridge_forward.specs.Ports.{has_port}
use Rattle.bridge_port.specs.declared.item.Item.{Item}
use Rattle.bridge_port.specs.declared.item.Refusal.{Refusal}
use Rattle.bridge_port.specs.declared.item.Refusal.TheVariants as refusal
use Rattle.bridge_port.specs.Schedule.{Fate, Queued, Copy, is_accepted}
use Rattle.bridge_port.specs.StandsFor.{StandsFor, offered_copy, refusal_fate, offer_refusal}
use Rattle.bridge_port.specs.MappedCopies.{map_copies}
use Rattle.bridge_port.proofs.Keeping.{count_cons}
use Rattle.bridge_port.proofs.Members.{not_started}
use Rattle.bridge_config.specs.declared.ports.PortPlan.{PortPlan}
use Rattle.bridge_config.specs.Model.{Plan}
use Rattle.bridge_config.specs.Rules.{find_port}
use Rattle.bridge_semantics.specs.declared.queued_frame.QueuedFrame.{QueuedFrame}
use Rattle.bridge_semantics.specs.declared.outcome.Departure.{Departure}
use Rattle.bridge_semantics.specs.declared.outcome.Dropped.{Dropped}
use Rattle.bridge_semantics.specs.declared.outcome.PortCount.{PortCount}
use Rattle.bridge_semantics.specs.Offers.{CarriedFrame, carried_frame, Offer, copy_offers, leaving_octets}
use Rattle.bridge_limits.specs.Members.{IsOrdered}
use Rattle.bridge_limits.proofs.Members.{in_left, in_push, in_end}
use Rattle.bridge_limits.proofs.Cases.{by_bool, left_false}
use Rattle.bridge_limits.proofs.Lists.{one_longer}
use Rattle.bridge_limits.proofs.Options.{none_some}
use Rattle.bridge_semantics.specs.Runs.{DropsEarlier, IsFilterDrop, IsFilterDelay, IsGreatestNumber, HasCopyRecord, IsPortCopy, drop_fate}
use Rattle.bridge_relay.specs.declared.port_state.PortState.{PortState}
use Rattle.bridge_relay.specs.PortStates.{offered_port, count_copy, refusal_result}
use Rattle.bridge_relay.specs.Recorders.{RecorderState, update_number, with_drop, recorders_with_answer}
use Rattle.bridge_relay.specs.Ports.{nth_port, port_state, is_output, count_outputs, is_present, StartsNoEarlier}
use Rattle.bridge_relay.specs.RelayState.{RelayState, HasLeft, IsSound, AwaitsCopy, recorded_frames, is_filter_number, is_filter_item, count_all_items, carried_copies}
use Rattle.bridge_relay.specs.Ports.{MatchesPlan}
use Rattle.bridge_relay.specs.RelayedFrames.{AreSameFrameCounts, HasOfferedCopy, CarriesOffers, priority_offer, offers_to_lower_ports, AwaitsCopies, IsOfferingSet, HasCopies, leaving_frame}
use Rattle.bridge_relay.proofs.Porting.{below, set_here, set_there}
use Rattle.bridge_relay.proofs.Outs.{outs_next}
use Rattle.bridge_relay.proofs.Sound.{changed}
use Rattle.bridge_relay.proofs.Standing.{put, put_same, put_other, out_of}
use Rattle.bridge_relay.proofs.Leaving.{left_pushed}

-- NUMBERS OF PORTS IN A SET

pub outs_up : {A : Type 0} (slots : List (Option (PortState A))) (set a m : ℕ) → count_outputs slots set a ≤ count_outputs slots set (m + a)
outs_up slots set a zero = let e : a ≡ 0 + a = omega arith in subst (λ (m : ℕ). count_outputs slots set a ≤ count_outputs slots set m) e (omega arith)
outs_up slots set a (suc m) =
    let h = outs_up slots set a m in
    let e : suc (m + a) ≡ suc m + a = omega arith in
    let l : count_outputs slots set a ≤ count_outputs slots set (m + a) + (if is_output slots set (m + a + 1) then 1 else 0) = omega (arith, h) in
    subst (λ (n : ℕ). count_outputs slots set a ≤ count_outputs slots set n) e l

pub outs_le : {A : Type 0} (slots : List (Option (PortState A))) (set a b : ℕ) → a ≤ b → count_outputs slots set a ≤ count_outputs slots set b
outs_le slots set a b l = let e : (b - a) + a ≡ b = omega arith in subst (λ (n : ℕ). count_outputs slots set a ≤ count_outputs slots set n) e (outs_up slots set a (b - a))

-- ONE MORE COPY AT ONE PORT

pub record IsPushedAt (q : ℕ) (x : Copy CarriedFrame) (old new : ℕ → List (Copy CarriedFrame)) : Type 0 where
  pub pushed : new q ≡ x ∷ old q
  pub others : (r : ℕ) → nat_eq r q ≡ false → new r ≡ old r

lies_in : (q : ℕ) (x : Copy CarriedFrame) (old new : ℕ → List (Copy CarriedFrame)) → IsPushedAt q x old new → (r : ℕ) (y : Copy CarriedFrame) → IsMember y (old r) → IsMember y (new r)
lies_in q x old new h r y i = by_bool (nat_eq r q)
    (λ e.
    let same : r ≡ q = grind (arith, nat_tests) in
    subst (λ (n : ℕ). IsMember y (new n)) (sym same) (subst (IsMember y) (sym h.pushed) (inr (subst (λ (n : ℕ). IsMember y (old n)) same i))))
    (λ e. subst (IsMember y) (sym (h.others r e)) i)

lies_of : (q : ℕ) (x : Copy CarriedFrame) (old new : ℕ → List (Copy CarriedFrame)) → IsPushedAt q x old new → (r : ℕ) (y : Copy CarriedFrame) → IsMember y (new r) → IsMember y (old r) ⊎ ((r ≡ q) × (y ≡ x))
lies_of q x old new h r y i = by_bool (nat_eq r q)
    (λ e.
    let same : r ≡ q = grind (arith, nat_tests) in
    let j : IsMember y (x ∷ old q) = subst (IsMember y) h.pushed (subst (λ (n : ℕ). IsMember y (new n)) same i) in
    elim j [ inl k ↦ inr (same, k) | inr l ↦ inl (subst (λ (n : ℕ). IsMember y (old n)) (sym same) l) ])
    (λ e. inl (subst (IsMember y) (h.others r e) i))

fate_same : (r : Refusal) → refusal_fate (Some r) ≡ drop_fate r
fate_same refusal.NeverFits = refl
fate_same refusal.Full = refl

fates_apart : (r s : Refusal) → drop_fate r ≡ drop_fate s → r ≡ s
fates_apart refusal.NeverFits refusal.NeverFits e = refl
fates_apart refusal.NeverFits refusal.Full e = absurd (cc)
fates_apart refusal.Full refusal.NeverFits e = absurd (cc)
fates_apart refusal.Full refusal.Full e = refl

queued_not : (r : Refusal) → Queued ≡ drop_fate r → ⊥
queued_not refusal.NeverFits e = cc
queued_not refusal.Full e = cc

greatest_same : (P Q : ℕ → Type 0) (o : Option ℕ) → ((m : ℕ) → P m → Q m) → ((m : ℕ) → Q m → P m) → IsGreatestNumber P o → IsGreatestNumber Q o
greatest_same P Q None to from g = λ m x. g m (from m x)
greatest_same P Q (Some n) to from g = (to n g.0, λ m x. g.1 m (from m x))

same_dropped : (a b : Dropped) → a.own ≡ b.own → a.port ≡ b.port → a.refusal ≡ b.refusal → a ≡ b
same_dropped a b o p r = ap (λ (v : ℕ). record { own = v; port = a.port; refusal = a.refusal }) o ∙ (ap (λ (v : ℕ). record { own = b.own; port = v; refusal = a.refusal }) p ∙ ap (λ (v : Refusal). record { own = b.own; port = b.port; refusal = v }) r)

-- A new copy that isn't a drop of this filter keeps the filter's drops.
told_pushed : {A : Type 0} (p : Plan A) (n q : ℕ) (x : Copy CarriedFrame) (o : Option Refusal) (old new : ℕ → List (Copy CarriedFrame)) → IsPushedAt q x old new → x.fate ≡ refusal_fate o → ((d : Dropped) → d.port ≡ q → x.item.flow ≡ Some n → x.fate ≡ drop_fate d.refusal → ⊥) → (ds : List Departure) (rs : List Dropped) (delay : Option ℕ) → HasCopyRecord p n (IsPortCopy old) ds rs delay → HasCopyRecord p n (IsPortCopy new) ds rs delay
told_pushed {A} p n q x o old new h fate none ds rs delay t = record {
  departures_rise = t.departures_rise;
  departures_are = λ d. (
    (λ i. let z = (t.departures_are d).0 i in record { out = z.out; copy = z.copy; at = z.at; lies = lies_in q x old new h d.port z.copy z.lies; flow = z.flow; own = z.own; started = z.started; done = z.done }),
    (λ z. (t.departures_are d).1 (record { out = z.out; copy = z.copy; at = z.at; lies = elim (lies_of q x old new h d.port z.copy z.lies) [ inl l ↦ l | inr l ↦ absurd (not_started o d.start (sym fate ∙ (ap (λ (v : Copy CarriedFrame). v.fate) (sym l.1) ∙ z.started))) ]; flow = z.flow; own = z.own; started = z.started; done = z.done })),
  );
  drops_rise = t.drops_rise;
  drops_are = λ d. (
    (λ i. let z = (t.drops_are d).0 i in record { copy = z.copy; lies = lies_in q x old new h d.port z.copy z.lies; flow = z.flow; own = z.own; refused = z.refused }),
    (λ z. (t.drops_are d).1 (record { copy = z.copy; lies = elim (lies_of q x old new h d.port z.copy z.lies) [ inl l ↦ l | inr l ↦ absurd (none d l.0 (ap (λ (v : Copy CarriedFrame). v.item.flow) (sym l.1) ∙ z.flow) (ap (λ (v : Copy CarriedFrame). v.fate) (sym l.1) ∙ z.refused)) ]; flow = z.flow; own = z.own; refused = z.refused })),
  );
  longest = greatest_same (IsFilterDelay p n (IsPortCopy old)) (IsFilterDelay p n (IsPortCopy new)) delay
      (λ m z. record { port = z.port; out = z.out; copy = z.copy; start = z.start; at = z.at; lies = lies_in q x old new h z.port z.copy z.lies; flow = z.flow; started = z.started; delay = z.delay })
      (λ m z. record { port = z.port; out = z.out; copy = z.copy; start = z.start; at = z.at; lies = elim (lies_of q x old new h z.port z.copy z.lies) [ inl l ↦ l | inr l ↦ absurd (not_started o z.start (sym fate ∙ (ap (λ (v : Copy CarriedFrame). v.fate) (sym l.1) ∙ z.started))) ]; flow = z.flow; started = z.started; delay = z.delay })
      t.longest;
}

-- A new copy that was dropped adds a drop to its filter's record.
told_dropped : {A : Type 0} (p : Plan A) (n q : ℕ) (x : Copy CarriedFrame) (r : Refusal) (old new : ℕ → List (Copy CarriedFrame)) → IsPushedAt q x old new → x.fate ≡ drop_fate r → x.item.flow ≡ Some n → (ds : List Departure) (rs : List Dropped) (delay : Option ℕ) → IsOrdered DropsEarlier (rs ++ (record { own = x.item.own; port = q; refusal = r }) ∷ []) → HasCopyRecord p n (IsPortCopy old) ds rs delay → HasCopyRecord p n (IsPortCopy new) ds (rs ++ (record { own = x.item.own; port = q; refusal = r }) ∷ []) delay
told_dropped {A} p n q x r old new h fate flow ds rs delay rise t =
    let d0 : Dropped = record { own = x.item.own; port = q; refusal = r } in
    let fate_o : x.fate ≡ refusal_fate (Some r) = fate ∙ sym (fate_same r) in
    let here : IsMember x (new q) = subst (IsMember x) (sym h.pushed) (inl refl) in
    record {
      departures_rise = t.departures_rise;
      departures_are = λ d. (
        (λ i. let z = (t.departures_are d).0 i in record { out = z.out; copy = z.copy; at = z.at; lies = lies_in q x old new h d.port z.copy z.lies; flow = z.flow; own = z.own; started = z.started; done = z.done }),
        (λ z. (t.departures_are d).1 (record { out = z.out; copy = z.copy; at = z.at; lies = elim (lies_of q x old new h d.port z.copy z.lies) [ inl l ↦ l | inr l ↦ absurd (not_started (Some r) d.start (sym fate_o ∙ (ap (λ (v : Copy CarriedFrame). v.fate) (sym l.1) ∙ z.started))) ]; flow = z.flow; own = z.own; started = z.started; done = z.done })),
      );
      drops_rise = rise;
      drops_are = λ d. (
        (λ i. elim (in_push d d0 rs i) [
          | inl l ↦ (let z = (t.drops_are d).0 l in record { copy = z.copy; lies = lies_in q x old new h d.port z.copy z.lies; flow = z.flow; own = z.own; refused = z.refused })
          | inr e ↦ subst (IsFilterDrop p n (IsPortCopy new)) (sym e) (record { copy = x; lies = here; flow = flow; own = refl; refused = fate })
        ]),
        (λ z. elim (lies_of q x old new h d.port z.copy z.lies) [
          | inl l ↦ in_left d rs (d0 ∷ []) ((t.drops_are d).1 (record { copy = z.copy; lies = l; flow = z.flow; own = z.own; refused = z.refused }))
          | inr l ↦ (
              let own : d.own ≡ d0.own = sym z.own ∙ ap (λ (v : Copy CarriedFrame). v.item.own) l.1 in
              let why : d.refusal ≡ r = fates_apart d.refusal r (sym z.refused ∙ (ap (λ (v : Copy CarriedFrame). v.fate) l.1 ∙ fate)) in
              subst (λ (v : Dropped). IsMember v (rs ++ d0 ∷ [])) (sym (same_dropped d d0 own l.0 why)) (in_end d0 rs))
        ]),
      );
      longest = greatest_same (IsFilterDelay p n (IsPortCopy old)) (IsFilterDelay p n (IsPortCopy new)) delay
          (λ m z. record { port = z.port; out = z.out; copy = z.copy; start = z.start; at = z.at; lies = lies_in q x old new h z.port z.copy z.lies; flow = z.flow; started = z.started; delay = z.delay })
          (λ m z. record { port = z.port; out = z.out; copy = z.copy; start = z.start; at = z.at; lies = elim (lies_of q x old new h z.port z.copy z.lies) [ inl l ↦ l | inr l ↦ absurd (not_started (Some r) z.start (sym fate_o ∙ (ap (λ (v : Copy CarriedFrame). v.fate) (sym l.1) ∙ z.started))) ]; flow = z.flow; started = z.started; delay = z.delay })
          t.longest;
    }

flow_is : (flow : Option ℕ) (n : ℕ) → is_filter_number flow n ≡ true → flow ≡ Some n
flow_is None n e = absurd (cc)
flow_is (Some m) n e = let z : m ≡ n = grind (arith, nat_tests) in ap Some z

flow_not : (flow : Option ℕ) (n : ℕ) → is_filter_number flow n ≡ false → flow ≡ Some n → ⊥
flow_not None n e h = cc
flow_not (Some m) n e h = let z : m ≡ n = same_Some m n h in let w : nat_eq m n ≡ true = grind (arith, nat_tests) in let v : true ≡ false = sym w ∙ e in cc

if_true : (b : Bool) (x y : RecorderState) (t : RecorderState) → b ≡ true → t ≡ (if b then x else y) → t ≡ x
if_true b x y t e h = rw e at h

if_false : (b : Bool) (x y : RecorderState) (t : RecorderState) → b ≡ false → t ≡ (if b then x else y) → t ≡ y
if_false b x y t e h = rw e at h

-- The recorders after the answer to an offer.
told_answered : {A : Type 0} (p : Plan A) (n q : ℕ) (x : Copy CarriedFrame) (o : Option Refusal) (old new : ℕ → List (Copy CarriedFrame)) (was now : List (ℕ × RecorderState)) (t : RecorderState) → IsPushedAt q x old new → x.fate ≡ refusal_fate o → now ≡ recorders_with_answer was x.item.flow x.item.own q (refusal_result o) → lookup (nat_eq n) now ≡ Some t → IsOrdered DropsEarlier t.drops → ((v : RecorderState) → lookup (nat_eq n) was ≡ Some v → HasCopyRecord p n (IsPortCopy old) v.departures v.drops v.delay) → HasCopyRecord p n (IsPortCopy new) t.departures t.drops t.delay
told_answered {A} p n q x None old new was now t h fate noted found rise told =
    told_pushed p n q x None old new h fate (λ d at f e. queued_not d.refusal (sym fate ∙ e)) t.departures t.drops t.delay (told t (subst (λ (z : List (ℕ × RecorderState)). lookup (nat_eq n) z ≡ Some t) noted found))
told_answered {A} p n q x (Some r) old new was now t h fate noted found rise told =
    let d0 : Dropped = record { own = x.item.own; port = q; refusal = r } in
    let c = changed x.item.flow (λ (v : RecorderState). with_drop v d0) was n t (subst (λ (z : List (ℕ × RecorderState)). lookup (nat_eq n) z ≡ Some t) noted found) in
    by_bool (is_filter_number x.item.flow n)
    (λ e.
    let it : t ≡ with_drop c.was d0 = if_true (is_filter_number x.item.flow n) (with_drop c.was d0) c.was t e c.is in
    subst (λ (v : RecorderState). HasCopyRecord p n (IsPortCopy new) v.departures v.drops v.delay) (sym it)
    (told_dropped p n q x r old new h (fate ∙ fate_same r) (flow_is x.item.flow n e) c.was.departures c.was.drops c.was.delay (subst (λ (v : RecorderState). IsOrdered DropsEarlier v.drops) it rise) (told c.was c.there)))
    (λ e.
    let it : t ≡ c.was = if_false (is_filter_number x.item.flow n) (with_drop c.was d0) c.was t e c.is in
    subst (λ (v : RecorderState). HasCopyRecord p n (IsPortCopy new) v.departures v.drops v.delay) (sym it)
    (told_pushed p n q x (Some r) old new h fate (λ d at f k. flow_not x.item.flow n e f) c.was.departures c.was.drops c.was.delay (told c.was c.there)))

-- The counts of a port with one more copy.
sent_more : {A : Type 0} (s : PortState A) (o : Option Refusal) (x : Copy CarriedFrame) (xs : List (Copy CarriedFrame)) → x.fate ≡ refusal_fate o → s.count.sent ≡ count_by (λ y. is_accepted y.fate) xs → (count_copy s.count o).sent ≡ count_by (λ y. is_accepted y.fate) (x ∷ xs)
sent_more s None x xs e h = let z = count_cons (λ y. is_accepted y.fate) x xs in let v : ◌≡◌ {A = ℕ} (if is_accepted x.fate then 1 else 0) 1 = ap (λ (f : Fate). if is_accepted f then 1 else 0) e in omega (arith, z, v, h)
sent_more s (Some refusal.NeverFits) x xs e h = let z = count_cons (λ y. is_accepted y.fate) x xs in let v : ◌≡◌ {A = ℕ} (if is_accepted x.fate then 1 else 0) 0 = ap (λ (f : Fate). if is_accepted f then 1 else 0) e in omega (arith, z, v, h)
sent_more s (Some refusal.Full) x xs e h = let z = count_cons (λ y. is_accepted y.fate) x xs in let v : ◌≡◌ {A = ℕ} (if is_accepted x.fate then 1 else 0) 0 = ap (λ (f : Fate). if is_accepted f then 1 else 0) e in omega (arith, z, v, h)

dropped_more : {A : Type 0} (s : PortState A) (o : Option Refusal) (x : Copy CarriedFrame) (xs : List (Copy CarriedFrame)) → x.fate ≡ refusal_fate o → s.count.dropped ≡ count_by (λ y. not (is_accepted y.fate)) xs → (count_copy s.count o).dropped ≡ count_by (λ y. not (is_accepted y.fate)) (x ∷ xs)
dropped_more s None x xs e h = let z = count_cons (λ y. not (is_accepted y.fate)) x xs in let v : ◌≡◌ {A = ℕ} (if not (is_accepted x.fate) then 1 else 0) 0 = ap (λ (f : Fate). if not (is_accepted f) then 1 else 0) e in omega (arith, z, v, h)
dropped_more s (Some refusal.NeverFits) x xs e h = let z = count_cons (λ y. not (is_accepted y.fate)) x xs in let v : ◌≡◌ {A = ℕ} (if not (is_accepted x.fate) then 1 else 0) 1 = ap (λ (f : Fate). if not (is_accepted f) then 1 else 0) e in omega (arith, z, v, h)
dropped_more s (Some refusal.Full) x xs e h = let z = count_cons (λ y. not (is_accepted y.fate)) x xs in let v : ◌≡◌ {A = ℕ} (if not (is_accepted x.fate) then 1 else 0) 1 = ap (λ (f : Fate). if not (is_accepted f) then 1 else 0) e in omega (arith, z, v, h)

offered_here : {G A : Type 0} (old new : RelayState G A) (q c : ℕ) (s : PortState A) (x : Item (QueuedFrame A)) → HasOfferedCopy old new q s c x → port_state old.ports q ≡ Some s → port_state new.ports q ≡ Some (offered_port s x.load.at c x)
offered_here {G} {A} old new q c s x h there = ap (λ (z : List (Option (PortState A))). nth_port z q) h.slots ∙ set_here old.ports.slots q (Some (offered_port s x.load.at c x)) (below old.ports.slots q s there)

offered_there : {G A : Type 0} (old new : RelayState G A) (q c : ℕ) (s : PortState A) (x : Item (QueuedFrame A)) → HasOfferedCopy old new q s c x → 1 ≤ q → (r : ℕ) → 1 ≤ r → nat_eq r q ≡ false → port_state new.ports r ≡ port_state old.ports r
offered_there {G} {A} old new q c s x h low r l e = ap (λ (z : List (Option (PortState A))). nth_port z r) h.slots ∙ set_there old.ports.slots r q (Some (offered_port s x.load.at c x)) l low e

-- The copies at the ports after an offer.
pub carries_offered : {G A : Type 0} (held : G → ℕ → Option ℕ) (p : Plan A) (old new : RelayState G A) (q c : ℕ) (s : PortState A) (x : Item (QueuedFrame A)) → old.plan ≡ p → IsSound held old → IsSound held new → HasOfferedCopy old new q s c x → port_state old.ports q ≡ Some s → 1 ≤ q → (os ps : ℕ → PortPlan A → List Offer) → ((r : ℕ) (out : PortPlan A) → nat_eq r q ≡ false → find_port p.ports r ≡ Some out → ps r out ≡ os r out) → ((out : PortPlan A) → find_port p.ports q ≡ Some out → ps q out ≡ (record { at = x.load.at; class = c; item = carried_frame x }) ∷ os q out) → (left : ℕ → List CapturedFrame) → CarriesOffers p old os left → CarriesOffers p new ps left
carries_offered {G} {A} held p old new q c s x plan sound sound_new h there low os ps others_are here_is left st =
    let o : Option Refusal = offer_refusal s.port c x in
    let copy : Copy (Item (QueuedFrame A)) = offered_copy s.port x.load.at c x in
    let lists : ℕ → List (Copy (Item (QueuedFrame A))) = put q (copy ∷ st.lists q) st.lists in
    let itself : nat_eq q q ≡ true = grind (arith, nat_tests) in
    let at_now = offered_here old new q c s x h there in
    let out = out_of (find_port old.plan.ports q) s (subst (MatchesPlan (find_port old.plan.ports q)) there (sound.alike q low)) in
    let planned : find_port p.ports q ≡ Some out.0 = subst (λ (v : Plan A). find_port v.ports q ≡ Some out.0) plan out.1 in
    let one : Copy CarriedFrame = record { at = x.load.at; class = c; item = carried_frame x; fate = refusal_fate o } in
    let at : IsPushedAt q one (carried_copies st.lists) (carried_copies lists) = record {
      pushed = ap (map_copies carried_frame) (put_same q (copy ∷ st.lists q) st.lists q itself);
      others = λ r e. ap (map_copies carried_frame) (put_other q (copy ∷ st.lists q) st.lists r e);
    } in
    let is_now : (r : ℕ) (v : PortState A) → nat_eq r q ≡ true → port_state new.ports r ≡ Some v → offered_port s x.load.at c x ≡ v = λ r v y e. (let same : q ≡ r = grind (arith, nat_tests) in same_Some (offered_port s x.load.at c x) v (sym at_now ∙ subst (λ (m : ℕ). port_state new.ports m ≡ Some v) (sym same) e)) in
    record {
      lists = lists;
      others = λ r e. by_bool (nat_eq r q)
          (λ y. absurd (let same : q ≡ r = grind (arith, nat_tests) in none_some (find_port p.ports r) out.0 e (subst (λ (m : ℕ). find_port p.ports m ≡ Some out.0) same planned)))
          (λ y. put_other q (copy ∷ st.lists q) st.lists r y ∙ st.others r e);
      each = λ r v l e. by_bool (nat_eq r q)
          (λ y. subst (λ (w : PortState A). StandsFor w.port (lists r)) (is_now r v y e) (subst (StandsFor (offered_port s x.load.at c x).port) (sym (put_same q (copy ∷ st.lists q) st.lists r y)) (h.stands (st.lists q) (st.each q s low there))))
          (λ y. subst (StandsFor v.port) (sym (put_other q (copy ∷ st.lists q) st.lists r y)) (st.each r v l (sym (offered_there old new q c s x h low r l y) ∙ e)));
      offers = λ r v e. by_bool (nat_eq r q)
          (λ y.
          let same : q ≡ r = grind (arith, nat_tests) in
          let back : find_port p.ports q ≡ Some v = subst (λ (m : ℕ). find_port p.ports m ≡ Some v) (sym same) e in
          subst (λ (m : ℕ). copy_offers (carried_copies lists m) ≡ ps m v) same (ap copy_offers at.pushed ∙ (ap (λ (z : List Offer). (record { at = x.load.at; class = c; item = carried_frame x }) ∷ z) (st.offers q v back) ∙ sym (here_is v back))))
          (λ y. ap copy_offers (at.others r y) ∙ (st.offers r v e ∙ sym (others_are r v y e)));
      told = λ n t found. told_answered p n q one o (carried_copies st.lists) (carried_copies lists) old.tables new.tables t at refl h.tables found (sound_new.each n t found).drops (λ v e. st.told n v e);
      sent = λ r v l e. by_bool (nat_eq r q)
          (λ y.
          let same : q ≡ r = grind (arith, nat_tests) in
          subst (λ (w : PortState A). w.count.sent ≡ count_by (λ z. is_accepted z.fate) (carried_copies lists r)) (is_now r v y e) (subst (λ (m : ℕ). (count_copy s.count o).sent ≡ count_by (λ z. is_accepted z.fate) (carried_copies lists m)) same (subst (λ (z : List (Copy CarriedFrame)). (count_copy s.count o).sent ≡ count_by (λ w. is_accepted w.fate) z) (sym at.pushed) (sent_more s o one (carried_copies st.lists q) refl (st.sent q s low there)))))
          (λ y. st.sent r v l (sym (offered_there old new q c s x h low r l y) ∙ e) ∙ ap (λ (z : List (Copy CarriedFrame)). count_by (λ w. is_accepted w.fate) z) (sym (at.others r y)));
      dropped = λ r v l e. by_bool (nat_eq r q)
          (λ y.
          let same : q ≡ r = grind (arith, nat_tests) in
          subst (λ (w : PortState A). w.count.dropped ≡ count_by (λ z. not (is_accepted z.fate)) (carried_copies lists r)) (is_now r v y e) (subst (λ (m : ℕ). (count_copy s.count o).dropped ≡ count_by (λ z. not (is_accepted z.fate)) (carried_copies lists m)) same (subst (λ (z : List (Copy CarriedFrame)). (count_copy s.count o).dropped ≡ count_by (λ w. not (is_accepted w.fate)) z) (sym at.pushed) (dropped_more s o one (carried_copies st.lists q) refl (st.dropped q s low there)))))
          (λ y. st.dropped r v l (sym (offered_there old new q c s x h low r l y) ∙ e) ∙ ap (λ (z : List (Copy CarriedFrame)). count_by (λ w. not (is_accepted w.fate)) z) (sym (at.others r y)));
      leaves = λ r v l e. by_bool (nat_eq r q)
          (λ y.
          let same : q ≡ r = grind (arith, nat_tests) in
          subst (λ (w : PortState A). HasLeft w (carried_copies lists r) (left r)) (is_now r v y e) (subst (λ (m : ℕ). HasLeft (offered_port s x.load.at c x) (carried_copies lists m) (left m)) same (subst (λ (z : List (Copy CarriedFrame)). HasLeft (offered_port s x.load.at c x) z (left q)) (sym at.pushed) (left_pushed s (offered_port s x.load.at c x) one (carried_copies st.lists q) (left q) refl refl refl (not_started o) (st.leaves q s low there)))))
          (λ y. subst (λ (z : List (Copy CarriedFrame)). HasLeft v z (left r)) (sym (at.others r y)) (st.leaves r v l (sym (offered_there old new q c s x h low r l y) ∙ e)));
    }

-- Offers may be replaced by offers that are equal on the ports of the plan.
pub carries_same : {G A : Type 0} (p : Plan A) (b : RelayState G A) (os ps : ℕ → PortPlan A → List Offer) → ((r : ℕ) (out : PortPlan A) → find_port p.ports r ≡ Some out → ps r out ≡ os r out) → (left : ℕ → List CapturedFrame) → CarriesOffers p b os left → CarriesOffers p b ps left
carries_same p b os ps same left st = record { leaves = st.leaves; lists = st.lists; others = st.others; each = st.each; offers = λ q out e. st.offers q out e ∙ sym (same q out e); told = st.told; sent = st.sent; dropped = st.dropped }

-- ENTRIES THAT A RECORDER OWES

pub change_finds : {X : Type 0} (n : ℕ) (f : X → X) (xs : List (ℕ × X)) (x : X) → lookup (nat_eq n) xs ≡ Some x → lookup (nat_eq n) (update_number n f xs) ≡ Some (f x)
change_finds n f [] x h = absurd (cc)
change_finds {X} n f (e ∷ xs) x h = by_bool (nat_eq n e.0)
    (λ t. let it : e.1 ≡ x = same_Some e.1 x (rw t at h) in rw (t, t) (ap (λ (v : X). Some (f v)) it))
    (λ t. let it : lookup (nat_eq n) xs ≡ Some x = rw t at h in rw (t, t) (change_finds n f xs x it))

pending_answered : {G A : Type 0} (old new : RelayState G A) (n own q left : ℕ) (o : Option Refusal) → new.tables ≡ recorders_with_answer old.tables (Some n) own q (refusal_result o) → count_all_items (is_filter_item n) new.ports ≡ (if is_none o then 1 else 0) + count_all_items (is_filter_item n) old.ports → 1 ≤ left → AwaitsCopies old left own q n → AwaitsCopies new (left - 1) own (q + 1) n
pending_answered old new n own q left None noted counts low p = record {
  table = p.table;
  there = subst (λ (z : List (ℕ × RecorderState)). lookup (nat_eq n) z ≡ Some p.table) (sym noted) p.there;
  spare = let z = p.spare in omega arith;
  heard = p.heard;
  later = λ d i. elim (p.later d i) [ inl l ↦ inl l | inr l ↦ (let z = l.1 in inr (l.0, omega arith)) ];
}
pending_answered old new n own q left (Some r) noted counts low p =
    let d0 : Dropped = record { own = own; port = q; refusal = r } in
    record {
      table = with_drop p.table d0;
      there = subst (λ (z : List (ℕ × RecorderState)). lookup (nat_eq n) z ≡ Some (with_drop p.table d0)) (sym noted) (change_finds n (λ (t : RecorderState). with_drop t d0) old.tables p.table p.there);
      spare = let z = p.spare in omega arith;
      heard = p.heard;
      later = λ d i. elim (in_push d d0 p.table.drops i) [
        | inl j ↦ elim (p.later d j) [ inl l ↦ inl l | inr l ↦ (let z = l.1 in inr (l.0, omega arith)) ]
        | inr e ↦ inr (ap (λ (v : Dropped). v.own) e, (let z : d.port ≡ q = ap (λ (v : Dropped). v.port) e in omega arith))
      ];
    }

and_true : (b c : Bool) → c ≡ true → ◌≡◌ {A = ℕ} (if b && c then 1 else 0) (if b then 1 else 0)
and_true true c h = rw h refl
and_true false c h = refl

pending_offered : {G A : Type 0} (old new : RelayState G A) (flow : Option ℕ) (own q left : ℕ) (o : Option Refusal) → new.tables ≡ recorders_with_answer old.tables flow own q (refusal_result o) → ((n : ℕ) → count_all_items (is_filter_item n) new.ports ≡ (if is_none o && is_filter_number flow n then 1 else 0) + count_all_items (is_filter_item n) old.ports) → 1 ≤ left → IfSome flow (AwaitsCopies old left own q) → IfSome flow (AwaitsCopies new (left - 1) own (q + 1))
pending_offered old new None own q left o noted counts low p = tt
pending_offered old new (Some n) own q left o noted counts low p =
    let itself : nat_eq n n ≡ true = grind (arith, nat_tests) in
    pending_answered old new n own q left o noted (counts n ∙ ap (λ (m : ℕ). m + count_all_items (is_filter_item n) old.ports) (and_true (is_none o) (nat_eq n n) itself)) low p

pending_later : {G A : Type 0} (b : RelayState G A) (flow : Option ℕ) (own q left : ℕ) → IfSome flow (AwaitsCopies b left own q) → IfSome flow (AwaitsCopies b left own (q + 1))
pending_later b None own q left p = tt
pending_later b (Some n) own q left p = record { table = p.table; there = p.there; spare = p.spare; heard = p.heard; later = λ d i. elim (p.later d i) [ inl l ↦ inl l | inr l ↦ (let z = l.1 in inr (l.0, omega arith)) ] }

pub awaited_by : {G A : Type 0} (b : RelayState G A) (flow : Option ℕ) (own q left : ℕ) → 1 ≤ left → IfSome flow (AwaitsCopies b left own q) → IfSome flow (λ n. AwaitsCopy b n own q)
awaited_by b None own q left low p = tt
awaited_by b (Some n) own q left low p = record { table = p.table; there = p.there; spare = (let z = p.spare in omega arith); heard = p.heard; later = p.later }

-- ONE PORT AFTER ANOTHER

-- The answer to an offer keeps the verdicts.
answered_verdicts : (old new : List (ℕ × RecorderState)) (flow : Option ℕ) (own port : ℕ) (o : Option Refusal) (n : ℕ) (t : RecorderState) → new ≡ recorders_with_answer old flow own port (refusal_result o) → lookup (nat_eq n) new ≡ Some t → (w : RecorderState) × (lookup (nat_eq n) old ≡ Some w) × (recorded_frames t ≡ recorded_frames w)
answered_verdicts old new flow own port None n t h found = (t, subst (λ (z : List (ℕ × RecorderState)). lookup (nat_eq n) z ≡ Some t) h found, refl)
answered_verdicts old new flow own port (Some r) n t h found =
    let d : Dropped = record { own = own; port = port; refusal = r } in
    let c = changed flow (λ (v : RecorderState). with_drop v d) old n t (subst (λ (z : List (ℕ × RecorderState)). lookup (nat_eq n) z ≡ Some t) h found) in
    (c.was, c.there, ap recorded_frames c.is ∙ either (is_filter_number flow n) c.was d) where
      either : (b : Bool) (v : RecorderState) (d : Dropped) → recorded_frames (if b then with_drop v d else v) ≡ recorded_frames v
      either true v d = refl
      either false v d = refl

count_copied : (c : PortCount) (o : Option Refusal) → AreSameFrameCounts (count_copy c o) c
count_copied c None = record { frames = refl; malformed = refl; nowhere = refl; unfiltered = refl }
count_copied c (Some r) = record { frames = refl; malformed = refl; nowhere = refl; unfiltered = refl }

count_joined : (a b c : PortCount) → AreSameFrameCounts a b → AreSameFrameCounts b c → AreSameFrameCounts a c
count_joined a b c h k = record { frames = h.frames ∙ k.frames; malformed = h.malformed ∙ k.malformed; nowhere = h.nowhere ∙ k.nowhere; unfiltered = h.unfiltered ∙ k.unfiltered }

pub and_left : (a b : Bool) → (a && b) ≡ true → a ≡ true
and_left true b h = refl
and_left false b h = h

pub and_right : (a b : Bool) → (a && b) ≡ true → b ≡ true
and_right true b h = h
and_right false b h = absurd (cc)

pub some_there : {X : Type 0} (o : Option X) → is_present o ≡ true → (x : X) × (o ≡ Some x)
some_there None h = absurd (cc)
some_there (Some x) h = (x, refl)

there_alike : {A : Type 0} (o : Option (PortPlan A)) (s : Option (PortState A)) (out : PortPlan A) → MatchesPlan o s → o ≡ Some out → is_present s ≡ true
there_alike None s out a h = absurd (cc)
there_alike (Some v) None out a h = absurd a
there_alike (Some v) (Some s) out a h = refl

lt_next : (r k : ℕ) → nat_eq r k ≡ false → nat_lt r (k + 1) ≡ nat_lt r k
lt_next r k e = by_bool (nat_lt r k)
    (λ y. let l : r < k = grind (arith, nat_tests) in let m : r < k + 1 = omega arith in let z : nat_lt r (k + 1) ≡ true = grind (arith, nat_tests) in z ∙ sym y)
    (λ y. by_bool (nat_lt r (k + 1))
    (λ w. absurd (let l : r < k + 1 = grind (arith, nat_tests) in let m : k ≤ r = grind (arith, nat_tests) in let same : r ≡ k = omega arith in let z : nat_eq r k ≡ true = grind (arith, nat_tests) in let v : true ≡ false = sym z ∙ e in cc))
    (λ w. w ∙ sym y))

pub goes_first : {G A : Type 0} (held : G → ℕ → Option ℕ) (first now : RelayState G A) (set priority : ℕ) (x : CarriedFrame) (k : ℕ) → IsOfferingSet held first now set priority x k → 1 ≤ k → is_output now.ports.slots set k ≡ is_output first.ports.slots set k
goes_first held first now set priority x k a low = ap (λ (b : Bool). has_port set k && b) (a.there k low)

offers_skip : {A : Type 0} (set k priority : ℕ) (x : CarriedFrame) (os : ℕ → PortPlan A → List Offer) (r : ℕ) (out : PortPlan A) → nat_eq r k ≡ false → offers_to_lower_ports set (k + 1) priority x os r out ≡ offers_to_lower_ports set k priority x os r out
offers_skip set k priority x os r out e = ap (λ (b : Bool). if has_port set r && b then priority_offer out priority x ∷ os r out else os r out) (lt_next r k e)

offers_none : {A : Type 0} (set k priority : ℕ) (x : CarriedFrame) (os : ℕ → PortPlan A → List Offer) (r : ℕ) (out : PortPlan A) → has_port set r ≡ false → offers_to_lower_ports set k priority x os r out ≡ os r out
offers_none set k priority x os r out e = rw e refl

offers_here : {A : Type 0} (set k priority : ℕ) (x : CarriedFrame) (os : ℕ → PortPlan A → List Offer) (out : PortPlan A) → has_port set k ≡ true → offers_to_lower_ports set (k + 1) priority x os k out ≡ priority_offer out priority x ∷ offers_to_lower_ports set k priority x os k out
offers_here set k priority x os out e =
    let up : nat_lt k (k + 1) ≡ true = (let l : k < k + 1 = omega arith in grind (arith, nat_tests)) in
    let no : nat_lt k k ≡ false = grind (arith, nat_tests) in
    rw (e, up, no) refl

pub offering_skip : {G A : Type 0} (held : G → ℕ → Option ℕ) (first now : RelayState G A) (set priority : ℕ) (x : CarriedFrame) (k : ℕ) → IsOfferingSet held first now set priority x k → 1 ≤ k → is_output first.ports.slots set k ≡ false → IsOfferingSet held first now set priority x (k + 1)
offering_skip {G} {A} held first now set priority x k a low none =
    let step = outs_next first.ports.slots set k low in
    let zero_is : ◌≡◌ {A = ℕ} (if is_output first.ports.slots set k then 1 else 0) 0 = ap (λ (b : Bool). if b then 1 else 0) none in
    let back : k ≡ k + 1 - 1 = omega arith in
    let rest = a.rest in
    record {
      sound = a.sound;
      due = a.due;
      plan = a.plan;
      police = a.police;
      arrived = a.arrived;
      early = a.early;
      left = a.left;
      rest = subst (λ (m : ℕ). a.left + count_outputs first.ports.slots set m ≡ count_outputs first.ports.slots set 16) back (omega (arith, step, zero_is, rest));
      pending = pending_later now x.flow x.own k a.left a.pending;
      ahead = λ q l. a.ahead q (omega arith);
      there = a.there;
      verdicts = a.verdicts;
      counted = a.counted;
      carries = λ os left st. carries_same first.plan now (offers_to_lower_ports set k priority x os) (offers_to_lower_ports set (k + 1) priority x os) (λ r out e. by_bool (nat_eq r k)
          (λ y.
          let same : r ≡ k = grind (arith, nat_tests) in
          let at : find_port now.plan.ports k ≡ Some out = subst (λ (m : ℕ). find_port now.plan.ports m ≡ Some out) same (subst (λ (v : Plan A). find_port v.ports r ≡ Some out) (sym a.plan) e) in
          let is_in : is_present (port_state first.ports k) ≡ true = sym (a.there k low) ∙ there_alike (find_port now.plan.ports k) (port_state now.ports k) out (a.sound.alike k low) at in
          let not_in : has_port set r ≡ false = subst (λ (m : ℕ). has_port set m ≡ false) (sym same) (left_false (has_port set k) (is_present (port_state first.ports k)) none is_in) in
          offers_none set (k + 1) priority x os r out not_in ∙ sym (offers_none set k priority x os r out not_in))
          (λ y. offers_skip set k priority x os r out y)) left (a.carries os left st);
    }

pub offering_up : {G A : Type 0} (held : G → ℕ → Option ℕ) (first now : RelayState G A) (set priority : ℕ) (x : CarriedFrame) (k m : ℕ) → IsOfferingSet held first now set priority x k → 1 ≤ k → ((q : ℕ) → k ≤ q → q < m + k → is_output first.ports.slots set q ≡ false) → IsOfferingSet held first now set priority x (m + k)
offering_up held first now set priority x k zero a low none = let e : k ≡ 0 + k = omega arith in subst (IsOfferingSet held first now set priority x) e a
offering_up held first now set priority x k (suc m) a low none =
    let e : m + k + 1 ≡ suc m + k = omega arith in
    subst (IsOfferingSet held first now set priority x) e (offering_skip held first now set priority x (m + k) (offering_up held first now set priority x k m a low (λ q l u. none q l (omega arith))) (omega arith) (none (m + k) (omega arith) (omega arith)))

pub left_some : {G A : Type 0} (held : G → ℕ → Option ℕ) (first now : RelayState G A) (set priority : ℕ) (x : CarriedFrame) (k : ℕ) (a : IsOfferingSet held first now set priority x k) → 1 ≤ k → k ≤ 16 → is_output first.ports.slots set k ≡ true → 1 ≤ a.left
left_some held first now set priority x k a low high goes =
    let step = outs_next first.ports.slots set k low in
    let one_is : ◌≡◌ {A = ℕ} (if is_output first.ports.slots set k then 1 else 0) 1 = ap (λ (b : Bool). if b then 1 else 0) goes in
    let all = outs_le first.ports.slots set k 16 high in
    let rest = a.rest in
    omega (arith, step, one_is, all, rest)

same_offer : {A : Type 0} (out : PortPlan A) (s : PortState A) (priority : ℕ) (x y : CarriedFrame) (at : ℕ) → s.classes ≡ out.classes → y ≡ x → at ≡ y.at → priority_offer out priority x ≡ record { at = at; class = slice_index s.classes priority; item = y }
same_offer {A} out s priority x y at classes e date = ap (λ (v : CarriedFrame). priority_offer out priority v) (sym e) ∙ (ap (λ (m : ℕ). record { at = m; class = slice_index out.classes priority; item = y }) (sym date) ∙ ap (λ (v : List ℕ). record { at = at; class = slice_index v priority; item = y }) (sym classes))

pub offering_more : {G A : Type 0} (held : G → ℕ → Option ℕ) (first now new : RelayState G A) (set priority : ℕ) (x : CarriedFrame) (k : ℕ) (s : PortState A) (item : Item (QueuedFrame A)) → IsOfferingSet held first now set priority x k → 1 ≤ k → k ≤ 16 → is_output now.ports.slots set k ≡ true → port_state now.ports k ≡ Some s → carried_frame item ≡ x → HasOfferedCopy now new k s (slice_index s.classes priority) item → IsSound held new → StartsNoEarlier (held new.ports.agenda) item.load.at → IsOfferingSet held first new set priority x (k + 1)
offering_more {G} {A} held first now new set priority x k s item a low high goes_now there carries_x h sound calm =
    let goes : is_output first.ports.slots set k ≡ true = sym (goes_first held first now set priority x k a low) ∙ goes_now in
    let some = left_some held first now set priority x k a low high goes in
    let step = outs_next first.ports.slots set k low in
    let one_is : ◌≡◌ {A = ℕ} (if is_output first.ports.slots set k then 1 else 0) 1 = ap (λ (b : Bool). if b then 1 else 0) goes in
    let back : k ≡ k + 1 - 1 = omega arith in
    let rest = a.rest in
    let at : item.load.at ≡ x.at = ap (λ (v : CarriedFrame). v.at) carries_x in
    let flow : item.load.flow ≡ x.flow = ap (λ (v : CarriedFrame). v.flow) carries_x in
    let own : item.load.own ≡ x.own = ap (λ (v : CarriedFrame). v.own) carries_x in
    let out = out_of (find_port now.plan.ports k) s (subst (MatchesPlan (find_port now.plan.ports k)) there (a.sound.alike k low)) in
    let in_set : has_port set k ≡ true = and_left (has_port set k) (is_present (port_state first.ports k)) goes in
    let noted : new.tables ≡ recorders_with_answer now.tables x.flow x.own k (refusal_result (offer_refusal s.port (slice_index s.classes priority) item)) = h.tables ∙ (ap (λ (f : Option ℕ). recorders_with_answer now.tables f item.load.own k (refusal_result (offer_refusal s.port (slice_index s.classes priority) item))) flow ∙ ap (λ (n : ℕ). recorders_with_answer now.tables x.flow n k (refusal_result (offer_refusal s.port (slice_index s.classes priority) item))) own) in
    record {
      sound = sound;
      due = subst (StartsNoEarlier (held new.ports.agenda)) at calm;
      plan = h.plan ∙ a.plan;
      police = h.police ∙ a.police;
      arrived = h.arrived ∙ a.arrived;
      early = let e = h.earliest in omega arith;
      left = a.left - 1;
      rest = subst (λ (m : ℕ). a.left - 1 + count_outputs first.ports.slots set m ≡ count_outputs first.ports.slots set 16) back (omega (arith, step, one_is, rest, some));
      pending = pending_offered now new x.flow x.own k a.left (offer_refusal s.port (slice_index s.classes priority) item) noted
          (λ n. h.counts (is_filter_item n) ∙ ap (λ (f : Option ℕ). (if is_none (offer_refusal s.port (slice_index s.classes priority) item) && is_filter_number f n then 1 else 0) + count_all_items (is_filter_item n) now.ports) flow)
          some a.pending;
      ahead = λ q l. offered_there now new k (slice_index s.classes priority) s item h low q (omega arith) (by_bool (nat_eq q k) (λ y. absurd (let same : q ≡ k = grind (arith, nat_tests) in omega arith)) (λ y. y)) ∙ a.ahead q (omega arith);
      there = λ q l. by_bool (nat_eq q k)
          (λ y.
          let same : k ≡ q = grind (arith, nat_tests) in
          let now_at : is_present (port_state new.ports k) ≡ is_present (port_state now.ports k) = ap is_present (offered_here now new k (slice_index s.classes priority) s item h there) ∙ sym (ap is_present there) in
          subst (λ (m : ℕ). is_present (port_state new.ports m) ≡ is_present (port_state first.ports m)) same (now_at ∙ a.there k low))
          (λ y. ap is_present (offered_there now new k (slice_index s.classes priority) s item h low q l y) ∙ a.there q l);
      verdicts = λ n t found.
          let w = answered_verdicts now.tables new.tables x.flow x.own k (offer_refusal s.port (slice_index s.classes priority) item) n t noted found in
          let v = a.verdicts n w.0 w.1 in
          (v.0, v.1, w.2 ∙ v.2);
      counted = λ q r l e. by_bool (nat_eq q k)
          (λ y.
          let same : k ≡ q = grind (arith, nat_tests) in
          let is : offered_port s item.load.at (slice_index s.classes priority) item ≡ r = same_Some (offered_port s item.load.at (slice_index s.classes priority) item) r (sym (offered_here now new k (slice_index s.classes priority) s item h there) ∙ subst (λ (m : ℕ). port_state new.ports m ≡ Some r) (sym same) e) in
          let w = a.counted k s low there in
          let joined = count_joined (count_copy s.count (offer_refusal s.port (slice_index s.classes priority) item)) s.count w.0.count (count_copied s.count (offer_refusal s.port (slice_index s.classes priority) item)) w.2 in
          (w.0, subst (λ (m : ℕ). port_state first.ports m ≡ Some w.0) same w.1, subst (λ (v : PortState A). AreSameFrameCounts v.count w.0.count) is joined))
          (λ y. a.counted q r l (sym (offered_there now new k (slice_index s.classes priority) s item h low q l y) ∙ e));
      carries = λ os left st. carries_offered held first.plan now new k (slice_index s.classes priority) s item a.plan a.sound sound h there low (offers_to_lower_ports set k priority x os) (offers_to_lower_ports set (k + 1) priority x os)
          (λ r v y e. offers_skip set k priority x os r v y)
          (λ v e.
          let one : out.0 ≡ v = same_Some out.0 v (sym out.1 ∙ subst (λ (w : Plan A). find_port w.ports k ≡ Some v) (sym a.plan) e) in
          offers_here set k priority x os v in_set ∙ ap (λ (o : Offer). o ∷ offers_to_lower_ports set k priority x os k v) (same_offer v s priority x (carried_frame item) item.load.at (out.2.classes ∙ ap (λ (w : PortPlan A). w.classes) one) carries_x refl))
          left (a.carries os left st);
    }

-- REMAINING COPIES

pub copies_skip : {A : Type 0} (slots : List (Option (PortState A))) (set k : ℕ) (octets : List ℕ) (copies : List (Vec ℕ A)) → HasCopies slots set k octets copies → 1 ≤ k → is_output slots set k ≡ false → HasCopies slots set (k + 1) octets copies
copies_skip slots set k octets copies h low none =
    let step = outs_next slots set k low in
    let zero_is : ◌≡◌ {A = ℕ} (if is_output slots set k then 1 else 0) 0 = ap (λ (b : Bool). if b then 1 else 0) none in
    let back : k ≡ k + 1 - 1 = omega arith in
    let count = h.count in
    record {
      count = subst (λ (m : ℕ). length copies + count_outputs slots set m + 1 ≡ max 1 (count_outputs slots set 16)) back (let same : count_outputs slots set k ≡ count_outputs slots set (k - 1) = omega (arith, step, zero_is) in ap (λ (m : ℕ). length copies + m + 1) same ∙ count);
      alike = h.alike;
    }

pub copies_pop : {A : Type 0} (slots : List (Option (PortState A))) (set k : ℕ) (octets : List ℕ) (copies rest : List (Vec ℕ A)) (last : Vec ℕ A) → HasCopies slots set k octets copies → copies ≡ rest ++ last ∷ [] → 1 ≤ k → is_output slots set k ≡ true → HasCopies slots set (k + 1) octets rest × (last.items ≡ octets)
copies_pop {A} slots set k octets copies rest last h is low goes =
    let step = outs_next slots set k low in
    let one_is : ◌≡◌ {A = ℕ} (if is_output slots set k then 1 else 0) 1 = ap (λ (b : Bool). if b then 1 else 0) goes in
    let back : k ≡ k + 1 - 1 = omega arith in
    let count = h.count in
    let long : length copies ≡ length rest + 1 = ap (λ (z : List (Vec ℕ A)). length z) is ∙ one_longer rest last in
    let sum : length rest + count_outputs slots set k + 1 ≡ length copies + count_outputs slots set (k - 1) + 1 = omega (arith, step, one_is, long) in
    (record { count = subst (λ (m : ℕ). length rest + count_outputs slots set m + 1 ≡ max 1 (count_outputs slots set 16)) back (sum ∙ count); alike = λ v i. h.alike v (subst (λ (z : List (Vec ℕ A)). IsMember v z) (sym is) (in_left v rest (last ∷ []) i)) }, h.alike last (subst (λ (z : List (Vec ℕ A)). IsMember last z) (sym is) (in_end last rest)))

pub copies_left : {A : Type 0} (slots : List (Option (PortState A))) (set k : ℕ) (octets : List ℕ) (copies : List (Vec ℕ A)) → HasCopies slots set k octets copies → length copies ≡ 0 → 1 ≤ k → is_output slots set k ≡ true → count_outputs slots set k < count_outputs slots set 16 → ⊥
copies_left slots set k octets copies h none low goes more =
    let step = outs_next slots set k low in
    let one_is : ◌≡◌ {A = ℕ} (if is_output slots set k then 1 else 0) 1 = ap (λ (b : Bool). if b then 1 else 0) goes in
    let count = h.count in
    omega (arith, step, one_is, count)

pub not_out : {A : Type 0} (slots : List (Option (PortState A))) (set k : ℕ) → has_port set k ≡ false → is_output slots set k ≡ false
not_out slots set k h = ap (λ (b : Bool). b && is_present (nth_port slots k)) h

pub out_not : {A : Type 0} (slots : List (Option (PortState A))) (set k : ℕ) → is_present (nth_port slots k) ≡ false → is_output slots set k ≡ false
out_not slots set k h = ap (λ (b : Bool). has_port set k && b) h ∙ and_false (has_port set k) where
  and_false : (a : Bool) → (a && false) ≡ false
  and_false true = refl
  and_false false = refl

pub out_yes : {A : Type 0} (slots : List (Option (PortState A))) (set k : ℕ) → has_port set k ≡ true → is_present (nth_port slots k) ≡ true → is_output slots set k ≡ true
out_yes slots set k h e = ap (λ (b : Bool). b && is_present (nth_port slots k)) h ∙ e

pub same_leaves : {A : Type 0} (load : QueuedFrame A) (octets : Vec ℕ A) (len : ℕ) (eligible : Bool) → octets.items ≡ load.octets.items → leaving_frame (record { at = load.at; flow = load.flow; own = load.own; recorder = load.recorder; octets = octets }) len eligible ≡ leaving_frame load len eligible
same_leaves load octets len eligible e = ap (λ (v : List ℕ). record { at = load.at; flow = load.flow; own = load.own; len = len; octets = leaving_octets eligible v }) e

pub skipped : {G A : Type 0} (held : G → ℕ → Option ℕ) (first now : RelayState G A) (set priority : ℕ) (x : CarriedFrame) (k : ℕ) (octets : List ℕ) (copies : List (Vec ℕ A)) → 1 ≤ k → is_output now.ports.slots set k ≡ false → IsOfferingSet held first now set priority x k → HasCopies first.ports.slots set k octets copies → IsOfferingSet held first now set priority x (k + 1) × HasCopies first.ports.slots set (k + 1) octets copies
skipped held first now set priority x k octets copies low none a h =
    let none_first = sym (goes_first held first now set priority x k a low) ∙ none in
    (offering_skip held first now set priority x k a low none_first, copies_skip first.ports.slots set k octets copies h low none_first)

pub more_out : {A : Type 0} (slots : List (Option (PortState A))) (set last k : ℕ) → is_output slots set last ≡ true → k < last → last ≤ 16 → count_outputs slots set k < count_outputs slots set 16
more_out slots set last k goes l high =
    let step = outs_next slots set last (omega arith) in
    let one_is : ◌≡◌ {A = ℕ} (if is_output slots set last then 1 else 0) 1 = ap (λ (b : Bool). if b then 1 else 0) goes in
    let all = outs_le slots set last 16 high in
    let some = outs_le slots set k (last - 1) (omega arith) in
    omega (arith, step, one_is, all, some)

-- If no copy is left, no port of the set before the last remains.
none_before : {A : Type 0} (slots : List (Option (PortState A))) (set last q : ℕ) (octets : List ℕ) (copies : List (Vec ℕ A)) → HasCopies slots set 1 octets copies → length copies ≡ 0 → is_output slots set last ≡ true → last ≤ 16 → 1 ≤ q → q < last → is_output slots set q ≡ false
none_before {A} slots set last q octets copies h none goes high low before =
    let count = h.count in
    let fewer = more_out slots set last q goes before high in
    let step = outs_next slots set q low in
    by_bool (is_output slots set q)
    (λ t.
    let one_is : ◌≡◌ {A = ℕ} (if is_output slots set q then 1 else 0) 1 = ap (λ (b : Bool). if b then 1 else 0) t in
    absurd (omega (arith, count, fewer, step, one_is, none)))
    (λ f. f)

pub offering_from : {G A : Type 0} (held : G → ℕ → Option ℕ) (b : RelayState G A) (set priority : ℕ) (x : CarriedFrame) (last from : ℕ) (octets : List ℕ) (copies : List (Vec ℕ A)) → IsOfferingSet held b b set priority x 1 → HasCopies b.ports.slots set 1 octets copies → 1 ≤ from → from ≤ max 1 last → (0 < length copies → from ≡ 1) → (0 < last → (last ≤ 16) × (is_output b.ports.slots set last ≡ true)) → IsOfferingSet held b b set priority x from × HasCopies b.ports.slots set from octets copies
offering_from {G} {A} held b set priority x last from octets copies a h low to all is_last = elim (cases_lt 1 from) [
  | inl more ↦
      let e = is_last (omega arith) in
      let high = e.0 in
      let none : length copies ≡ 0 = elim (cases_lt 0 (length copies)) [ inl some ↦ absurd (let z = all some in omega arith) | inr z ↦ omega arith ] in
      let free = λ (q : ℕ) (l : 1 ≤ q) (u : q < from). none_before b.ports.slots set last q octets copies h none e.1 high l (omega arith) in
      let up : (from - 1) + 1 ≡ from = omega arith in
      let along : IsOfferingSet held b b set priority x from = subst (IsOfferingSet held b b set priority x) up (offering_up held b b set priority x 1 (from - 1) a (omega arith) (λ q l u. free q l (omega (arith, u)))) in
      let count = h.count in
      let fewer = more_out b.ports.slots set last (from - 1) e.1 (omega arith) high in
      (along, record { count = omega (arith, count, fewer, none); alike = h.alike })
  | inr no_more ↦
      let one : 1 ≡ from = omega arith in
      (subst (IsOfferingSet held b b set priority x) one a, subst (λ (k : ℕ). HasCopies b.ports.slots set k octets copies) one h)
]

-- No port of the set remains.
pub offering_end : {G A : Type 0} (held : G → ℕ → Option ℕ) (first now : RelayState G A) (set priority : ℕ) (x : CarriedFrame) (k : ℕ) → IsOfferingSet held first now set priority x k → 1 ≤ k → k ≤ 17 → ((q : ℕ) → k ≤ q → q ≤ 16 → is_output first.ports.slots set q ≡ false) → IsOfferingSet held first now set priority x 17
offering_end held first now set priority x k a low high none =
    let e : (17 - k) + k ≡ 17 = omega arith in
    subst (IsOfferingSet held first now set priority x) e (offering_up held first now set priority x k (17 - k) a low (λ q l u. none q l (omega arith)))
