-- One port of a relay changes, with the agenda.
use Rattle.std.proofs.Common.{◌≡◌, ◌≢◌, ℕ, Bool, true, false, ◌+◌, ◌-◌, ◌<◌, ◌≤◌, List, ◌∷◌, length, arith, refl, ap, ◌∙◌, sym, subst, inl, inr, Option, Some, None, slice_set, slice_index_or, length-set, get_or-set_same, get_or-set_other}
use Rattle.std.proofs.lemmas.Bool.Decides.{nat_tests}
use Rattle.std.proofs.lemmas.Bool.{cases_lt}
use Rattle.std.proofs.lemmas.List.{get_or_past, get_or_default}
use Rattle.std.specs.Prelude.{if◌then◌else◌, nat_eq, nat_lt, ◌&&◌, is_none, Result}
use Rattle.std.proofs.lemmas.Option.{same_Some}
use Rattle.bridge_limits.proofs.Cases.{by_bool}
use Rattle.bridge_limits.proofs.Options.{none_some}
use Rattle.bridge_events.specs.Least.{IsLeast}
use Rattle.bridge_port.specs.declared.item.Item.{Item}
use Rattle.bridge_port.specs.declared.item.Refusal.{Refusal}
use Rattle.bridge_frame.specs.Link.{transmission_time}
use Rattle.bridge_port.specs.Schedule.{Copy}
use Rattle.bridge_port.specs.StandsFor.{EgressState, StandsFor, HasStartedOldest, IsNextStartTime, IsNextStart, HasNoStartEarlier, offered_copy, count_queued, time_limit, offer_refusal}
use Rattle.bridge_port.proofs.Ports.{idle_calm, next_one}
use Rattle.bridge_semantics.specs.declared.queued_frame.QueuedFrame.{QueuedFrame}
use Rattle.bridge_relay.specs.declared.port_state.PortState.{PortState}
use Rattle.bridge_relay.specs.declared.port_state.StartedFrame.{StartedFrame}
use Rattle.bridge_relay.specs.declared.port_state.Ingress.{Ingress}
use Rattle.bridge_relay.specs.declared.port_state.Ingress.TheVariants as came
use Rattle.bridge_relay.specs.PortStates.{offered_port, started_port, count_copy, count_ingress, offer_result}
use Rattle.bridge_relay.specs.Ports.{PortsState, nth_port, port_state, IsPortSound, ArePortsSound, StartsNoEarlier, HasLaterStarts, HasOffered, HasStarted}

-- An existing port has an index within the list.
pub below : {A : Type 0} (slots : List (Option (PortState A))) (q : ℕ) (s : PortState A) → nth_port slots q ≡ Some s → q - 1 < length slots
below slots q s h = elim (cases_lt (q - 1) (length slots)) [ inl l ↦ l | inr l ↦ absurd (none_some _ s (get_or_past slots (q - 1) None l) h) ]

pub here : {A : Type 0} (slots : List (Option (PortState A))) (q : ℕ) (r : Option (PortState A)) (s : PortState A) → q - 1 < length slots → r ≡ slice_index_or slots (q - 1) r → r ≡ Some s → nth_port slots q ≡ Some s
here slots q r s l e is = get_or_default slots (q - 1) None r l ∙ (sym e ∙ is)

pub set_here : {A : Type 0} (slots : List (Option (PortState A))) (q : ℕ) (v : Option (PortState A)) → q - 1 < length slots → nth_port (slice_set slots (q - 1) v) q ≡ v
set_here slots q v l = rw get_or-set_same refl

pub set_there : {A : Type 0} (slots : List (Option (PortState A))) (p q : ℕ) (v : Option (PortState A)) → 1 ≤ p → 1 ≤ q → nat_eq p q ≡ false → nth_port (slice_set slots (q - 1) v) p ≡ nth_port slots p
set_there slots p q v l m e =
    let other : p - 1 ≢ q - 1 = λ z. absurd (let y : p ≡ q = omega arith in let w : nat_eq p q ≡ true = grind (arith, nat_tests) in cc) in
    rw get_or-set_other refl

-- A port has at most one next start.
pub due_once : {T : Type 0} (p : EgressState T) (a b : Option ℕ) → IsNextStartTime p a → IsNextStartTime p b → a ≡ b
due_once p None None i j = refl
due_once p None (Some k) i j = absurd (let empty = i j.0 in let head = j.2.is_head in cc)
due_once p (Some k) None i j = absurd (let empty = j i.0 in let head = i.2.is_head in cc)
due_once p (Some k) (Some l) i j = ap (λ (n : ℕ). Some n) (next_one p k i.0 i.1 l j.0 j.1 i.2 j.2).0

-- The agenda's entry of a port is its next start.
pub held_is : {G A : Type 0} (held : G → ℕ → Option ℕ) (slots : List (Option (PortState A))) (agenda : G) (q : ℕ) (s : PortState A) (due : Option ℕ) → ArePortsSound held slots agenda → 1 ≤ q → nth_port slots q ≡ Some s → IsNextStartTime s.port due → held agenda q ≡ due
held_is held slots agenda q s due k l at is = due_once s.port (held agenda q) due (k.due q s l at) is

-- The agenda has the next start of the changed port.
pub kept_set : {G A : Type 0} (held : G → ℕ → Option ℕ) (slots : List (Option (PortState A))) (old new : G) (q : ℕ) (s : PortState A) (due : Option ℕ) → ArePortsSound held slots old → 1 ≤ q → q - 1 < length slots → ((p : ℕ) → held new p ≡ (if nat_eq p q then due else held old p)) → IsNextStartTime s.port due → IsPortSound s → ArePortsSound held (slice_set slots (q - 1) (Some s)) new
kept_set {G} {A} held slots old new q s due k l m h is slot =
    let size : length (slice_set slots (q - 1) (Some s)) ≡ length slots = length-set slots (q - 1) (Some s) in
    record {
      size = size ∙ k.size;
      due = λ p r low at. by_bool (nat_eq p q)
          (λ y.
          let same : q ≡ p = grind (arith, nat_tests) in
          let is_new : s ≡ r = same_Some s r (sym (set_here slots q (Some s) m) ∙ subst (λ (n : ℕ). nth_port (slice_set slots (q - 1) (Some s)) n ≡ Some r) (sym same) at) in
          let held_is : held new p ≡ due = rw (h p, y) refl in
          rw held_is (subst (λ (v : PortState A). IsNextStartTime v.port due) is_new is))
          (λ y.
          let held_is : held new p ≡ held old p = rw (h p, y) refl in
          rw held_is (k.due p r low (sym (set_there slots p q (Some s) low l y) ∙ at)));
      others = λ p t e. by_bool (nat_eq p q)
          (λ y.
          let same : q ≡ p = grind (arith, nat_tests) in
          (subst (λ (n : ℕ). 1 ≤ n) same l, (s, subst (λ (n : ℕ). nth_port (slice_set slots (q - 1) (Some s)) n ≡ Some s) same (set_here slots q (Some s) m))))
          (λ y.
          let was : held old p ≡ Some t = let z : held new p ≡ held old p = rw (h p, y) refl in sym z ∙ e in
          let o = k.others p t was in
          (o.0, (o.1.0, set_there slots p q (Some s) o.0 l y ∙ o.1.1)));
      each = λ p r low at. by_bool (nat_eq p q)
          (λ y.
          let same : q ≡ p = grind (arith, nat_tests) in
          let is_new : s ≡ r = same_Some s r (sym (set_here slots q (Some s) m) ∙ subst (λ (n : ℕ). nth_port (slice_set slots (q - 1) (Some s)) n ≡ Some r) (sym same) at) in
          subst IsPortSound is_new slot)
          (λ y. k.each p r low (sym (set_there slots p q (Some s) low l y) ∙ at));
    }

-- An offer at a time not after the next start.
pub not_late : {T : Type 0} (p : EgressState T) (t : ℕ) (due : Option ℕ) → IsNextStartTime p due → ((k : ℕ) → due ≡ Some k → t ≤ k) → HasNoStartEarlier p t
not_late p t None d h = idle_calm p t d
not_late p t (Some k) d h = λ c x rest e u a b l. let z = h k refl in d.2.least c x rest e u a b (omega arith)

after_earliest : {T : Type 0} (p : EgressState T) (due : Option ℕ) → IsNextStartTime p due → (k : ℕ) → due ≡ Some k → p.earliest ≤ k
after_earliest p None d k e = cc
after_earliest p (Some n) d k e = let z = same_Some n k e in let a = d.2.after in omega arith

pub not_before : {G T : Type 0} (held : G → ℕ → Option ℕ) (old new : G) (q t : ℕ) (p : EgressState T) (due : Option ℕ) → ((r : ℕ) → held new r ≡ (if nat_eq r q then due else held old r)) → IsNextStartTime p due → p.earliest ≡ t → StartsNoEarlier (held old) t → StartsNoEarlier (held new) t
not_before held old new q t p due h d l was = λ r k e. by_bool (nat_eq r q)
    (λ y. let z : held new r ≡ due = rw (h r, y) refl in let a = after_earliest p due d k (sym z ∙ e) in omega arith)
    (λ y. let z : held new r ≡ held old r = rw (h r, y) refl in was r k (sym z ∙ e))

pub is_after : {G T : Type 0} (held : G → ℕ → Option ℕ) (old new : G) (q t : ℕ) (p : EgressState T) (due : Option ℕ) → ((r : ℕ) → held new r ≡ (if nat_eq r q then due else held old r)) → IsNextStartTime p due → p.earliest ≡ t + 1 → IsLeast (held old) (Some (q, t)) → HasLaterStarts (held new) q t
is_after held old new q t p due h d l was = λ r k e. by_bool (nat_eq r q)
    (λ y. let z : held new r ≡ due = rw (h r, y) refl in let a = after_earliest p due d k (sym z ∙ e) in inl (omega arith))
    (λ y.
    let z : held new r ≡ held old r = rw (h r, y) refl in
    elim (was.1 r k (sym z ∙ e)) [
      | inl a ↦ inl a
      | inr a ↦ (let b = a.1 in let n : q < r = by_bool (nat_lt q r) (λ w. grind (arith, nat_tests)) (λ w. absurd (let v : r ≡ q = grind (arith, nat_tests) in let u : nat_eq r q ≡ true = grind (arith, nat_tests) in cc)) in inr (a.0, n))
    ])

-- Offers and starts keep a port's state consistent.
counted : {A : Type 0} (s : PortState A) (o : Option Refusal) → s.count.sent + s.count.dropped ≡ s.port.offered → (count_copy s.count o).sent + (count_copy s.count o).dropped ≡ s.port.offered + 1
counted s None h = omega arith
counted s (Some r) h = omega arith

came_same : {A : Type 0} (s : PortState A) (o : Option Refusal) → s.count.malformed + s.count.nowhere + s.count.unfiltered ≤ s.count.frames → (count_copy s.count o).malformed + (count_copy s.count o).nowhere + (count_copy s.count o).unfiltered ≤ (count_copy s.count o).frames
came_same s None h = h
came_same s (Some r) h = h

pub slot_offered : {A : Type 0} (s new : PortState A) (t c : ℕ) (x : Item (QueuedFrame A)) → new ≡ offered_port s t c x → IsPortSound s → IsPortSound new
slot_offered {A} s new t c x e k = subst IsPortSound (sym e) (record {
  classes = k.classes;
  counted = counted s (offer_refusal s.port c x) k.counted;
  came = came_same s (offer_refusal s.port c x) k.came;
  pace = k.pace;
})

pub slot_started : {A : Type 0} (s new : PortState A) (t c : ℕ) (x : Item (QueuedFrame A)) → new ≡ started_port s t c x → IsPortSound s → IsPortSound new
slot_started {A} s new t c x e k = subst IsPortSound (sym e) (record { classes = k.classes; counted = k.counted; came = k.came; pace = k.pace })

pub same_slot : {A : Type 0} (slots : List (Option (PortState A))) (q : ℕ) (s r : PortState A) → nth_port slots q ≡ Some s → nth_port slots q ≡ Some r → s ≡ r
same_slot slots q s r h k = same_Some s r (sym h ∙ k)

pub has_offered : {G A : Type 0} (old : PortsState G A) (slots : List (Option (PortState A))) (was agenda : G) (q : ℕ) (s new : PortState A) (t c : ℕ) (x : Item (QueuedFrame A)) (result : Result (Unit {0}) Refusal) → record { slots = slots; agenda = was } ≡ old → new ≡ offered_port s t c x → result ≡ offer_result s c x → ((xs : List (Copy (Item (QueuedFrame A)))) → StandsFor s.port xs → StandsFor new.port (offered_copy s.port t c x ∷ xs)) → ((f : Item (QueuedFrame A) → Bool) → count_queued f new.port ≡ (if is_none (offer_refusal s.port c x) && f x then 1 else 0) + count_queued f s.port) → HasOffered old (record { slots = slice_set slots (q - 1) (Some new); agenda = agenda }) q s t c x result
has_offered {G} {A} old slots was agenda q s new t c x result view moved answer stands counts = record {
  slots = ap (λ (v : PortState A). slice_set slots (q - 1) (Some v)) moved ∙ ap (λ (z : PortsState G A). slice_set z.slots (q - 1) (Some (offered_port s t c x))) view;
  answer = answer;
  stands = λ xs st. subst (λ (v : PortState A). StandsFor v.port (offered_copy s.port t c x ∷ xs)) moved (stands xs st);
  counts = λ f. subst (λ (v : PortState A). count_queued f v.port ≡ (if is_none (offer_refusal s.port c x) && f x then 1 else 0) + count_queued f s.port) moved (counts f);
}

pub has_started : {G A : Type 0} (old : PortsState G A) (slots : List (Option (PortState A))) (was agenda : G) (q : ℕ) (s new : PortState A) (k : ℕ) (b : StartedFrame A) → record { slots = slots; agenda = was } ≡ old → 1 ≤ q → nth_port slots q ≡ Some s → new ≡ started_port s k b.class b.item → IsNextStart s.port k b.class b.item → ((xs : List (Copy (Item (QueuedFrame A)))) → StandsFor s.port xs → HasStartedOldest new.port b.class k b.item xs) → ((f : Item (QueuedFrame A) → Bool) → count_queued f s.port ≡ (if f b.item then 1 else 0) + count_queued f new.port) → b.done ≡ k + transmission_time b.item.len s.speed → b.done < time_limit (s.port.started + 1) → b.done < 4100000000000000000 → b.item.len ≤ 9216 → HasStarted old (record { slots = slice_set slots (q - 1) (Some new); agenda = agenda }) q s k b
has_started {G} {A} old slots was agenda q s new k b view low at moved next stands counts done bounded early short = record {
  from = low;
  there = subst (λ (z : PortsState G A). port_state z q ≡ Some s) view at;
  slots = ap (λ (v : PortState A). slice_set slots (q - 1) (Some v)) moved ∙ ap (λ (z : PortsState G A). slice_set z.slots (q - 1) (Some (started_port s k b.class b.item))) view;
  next = next;
  stands = λ xs st. subst (λ (v : PortState A). HasStartedOldest v.port b.class k b.item xs) moved (stands xs st);
  counts = λ f. subst (λ (v : PortState A). count_queued f s.port ≡ (if f b.item then 1 else 0) + count_queued f v.port) moved (counts f);
  done = done;
  bounded = bounded;
  early = early;
  short = short;
}

pub none_held : (held : ℕ → Option ℕ) (q k : ℕ) → IsLeast held None → held q ≡ Some k → ⊥
none_held held q k l e = none_some (held q) k (l q) e

pub not_none : {A : Type 0} (slots : List (Option (PortState A))) (q : ℕ) (r : Option (PortState A)) (s : PortState A) → nth_port slots q ≡ Some s → r ≡ slice_index_or slots (q - 1) r → r ≡ None → ⊥
not_none slots q r s there e none = none_some (nth_port slots q) s (get_or_default slots (q - 1) None r (below slots q s there) ∙ (sym e ∙ none)) there

came_more : {A : Type 0} (s : PortState A) (v : Ingress) → s.count.malformed + s.count.nowhere + s.count.unfiltered ≤ s.count.frames → (count_ingress s.count v).malformed + (count_ingress s.count v).nowhere + (count_ingress s.count v).unfiltered ≤ (count_ingress s.count v).frames
came_more s came.Malformed h = omega arith
came_more s came.Nowhere h = omega arith
came_more s came.Unfiltered h = omega arith
came_more s came.Policed h = omega arith

counted_still : {A : Type 0} (s : PortState A) (v : Ingress) → s.count.sent + s.count.dropped ≡ s.port.offered → (count_ingress s.count v).sent + (count_ingress s.count v).dropped ≡ s.port.offered
counted_still s came.Malformed h = h
counted_still s came.Nowhere h = h
counted_still s came.Unfiltered h = h
counted_still s came.Policed h = h

pub slot_counted : {A : Type 0} (s new : PortState A) (v : Ingress) → new ≡ record s { count = count_ingress s.count v } → IsPortSound s → IsPortSound new
slot_counted {A} s new v e k = subst IsPortSound (sym e) (record { classes = k.classes; counted = counted_still s v k.counted; came = came_more s v k.came; pace = k.pace })

-- A port may change everything except its queues.
pub kept_same : {G A : Type 0} (held : G → ℕ → Option ℕ) (slots : List (Option (PortState A))) (agenda : G) (q : ℕ) (s new : PortState A) → ArePortsSound held slots agenda → 1 ≤ q → nth_port slots q ≡ Some s → new.port ≡ s.port → IsPortSound new → ArePortsSound held (slice_set slots (q - 1) (Some new)) agenda
kept_same {G} {A} held slots agenda q s new k l at same slot = kept_set held slots agenda agenda q new (held agenda q) k l (below slots q s at)
    (λ p. by_bool (nat_eq p q) (λ y. let e : p ≡ q = grind (arith, nat_tests) in rw y (ap (held agenda) e)) (λ y. rw y refl))
    (subst (λ (v : EgressState (QueuedFrame A)). IsNextStartTime v (held agenda q)) (sym same) (k.due q s l at)) slot
