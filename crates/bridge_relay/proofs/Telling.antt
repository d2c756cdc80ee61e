-- A filter's record, over a start.
use Rattle.std.proofs.Common.{◌≡◌, ℕ, Bool, true, false, ◌+◌, ◌≤◌, List, [], ◌∷◌, ◌++◌, arith, refl, ap, ◌∙◌, sym, subst, inl, inr, Option, Some, None}
use Rattle.std.specs.Prelude.{nat_eq, nat_le, max, count_by, ◌⊎◌, if◌then◌else◌}
use Rattle.std.proofs.lemmas.Bool.Decides.{nat_tests}
use Rattle.bridge_limits.specs.Members.{IsMember}
use Rattle.bridge_frame.specs.Link.{transmission_time}
use Rattle.bridge_filter.specs.declared.Verdict.TheVariants as verdict
use Rattle.bridge_filter.specs.Verdicts as verdicts
use Rattle.bridge_forward.specs.Ports.{has_port}
use Rattle.bridge_port.specs.declared.item.Refusal.{Refusal}
use Rattle.bridge_port.specs.declared.item.Refusal.TheVariants as refusal
use Rattle.bridge_port.specs.Schedule.{Fate, Queued, Started, Copy, StartsOldest, here, there, is_accepted, AreLawfulStarts, IsLawfulStart, PortRules}
use Rattle.bridge_port.specs.MappedCopies.{map_copy, map_copies}
use Rattle.bridge_port.proofs.Keeping.{count_cons}
use Rattle.bridge_port.proofs.Members.{begun_to, begun_kept, begun_there}
use Rattle.bridge_config.specs.declared.ports.PortPlan.{PortPlan}
use Rattle.bridge_config.specs.Model.{Plan}
use Rattle.bridge_config.specs.Rules.{find_port}
use Rattle.bridge_semantics.specs.declared.destination.Destination.{Destination}
use Rattle.bridge_semantics.specs.declared.destination.Destination.TheVariants as way
use Rattle.bridge_semantics.specs.declared.outcome.Departure.{Departure}
use Rattle.bridge_semantics.specs.declared.outcome.Dropped.{Dropped}
use Rattle.bridge_semantics.specs.Events.{Arrival, Event, Arrived, Cleared, frame_destination}
use Rattle.bridge_semantics.specs.Offers.{CarriedFrame, Offer, port_offers, arrival_offer, destination_offer, step_offer, copy_offers, frame_step}
use Rattle.bridge_limits.specs.Members.{IsOrdered}
use Rattle.bridge_limits.proofs.Members.{in_left, in_push, in_end, in_either}
use Rattle.bridge_limits.proofs.Cases.{by_bool}
use Rattle.bridge_semantics.specs.Runs.{DepartsEarlier, IsFilterDeparture, IsFilterDrop, IsFilterDelay, IsGreatestNumber, HasCopyRecord, IsPortCopy, drop_fate}
use Rattle.bridge_relay.specs.Recorders.{longer_delay}

-- MEMBERS

-- TIMES OF OFFERS

dated_step : {A : Type 0} (p : Plan A) (out : PortPlan A) (a : Arrival) (es : List Event) (k : ℕ) (s : verdicts.FilterStep) (o : Offer) → IsMember o (step_offer p out a es k s) → o.at ≡ o.item.at
dated_step p out a es k (verdicts.Unfiltered c) o i = elim i [ inl e ↦ rw e refl | inr l ↦ absurd l ]
dated_step p out a es k (verdicts.Judged c n f (verdict.Pass ipv eligible)) o i = elim i [ inl e ↦ rw e refl | inr l ↦ absurd l ]
dated_step p out a es k (verdicts.Judged c n f verdict.Blocked) o i = absurd i
dated_step p out a es k (verdicts.Judged c n f verdict.Oversize) o i = absurd i
dated_step p out a es k (verdicts.Judged c n f verdict.GateClosed) o i = absurd i
dated_step p out a es k (verdicts.Judged c n f verdict.ShutByRx) o i = absurd i
dated_step p out a es k (verdicts.Judged c n f verdict.ShutByOctets) o i = absurd i
dated_step p out a es k (verdicts.Judged c n f verdict.OctetsExceeded) o i = absurd i
dated_step p out a es k (verdicts.Judged c n f verdict.Red) o i = absurd i
dated_step p out a es k (verdicts.Judged c n f verdict.YellowDropped) o i = absurd i
dated_step p out a es k (verdicts.Commanded v n) o i = absurd i

dated_if : {A : Type 0} (p : Plan A) (out : PortPlan A) (a : Arrival) (es : List Event) (k : ℕ) (s : verdicts.FilterStep) (o : Offer) (b : Bool) → IsMember o (if b then step_offer p out a es k s else []) → o.at ≡ o.item.at
dated_if p out a es k s o true i = dated_step p out a es k s o i
dated_if p out a es k s o false i = absurd i

dated_on : {A : Type 0} (p : Plan A) (out : PortPlan A) (a : Arrival) (es : List Event) (w : Destination) (o : Offer) → IsMember o (destination_offer p out a es w) → o.at ≡ o.item.at
dated_on p out a es (way.Forwarded set c) o i = dated_if p out a es c.priority (frame_step p es c) o (has_port set out.number) i
dated_on p out a es way.Malformed o i = absurd i
dated_on p out a es way.Nowhere o i = absurd i

dated_offers : {A : Type 0} (p : Plan A) (out : PortPlan A) (es : List Event) (o : Offer) → IsMember o (port_offers p out es) → o.at ≡ o.item.at
dated_offers p out [] o i = absurd i
dated_offers p out (Arrived a ∷ es) o i = elim (in_either o (arrival_offer p out a es) (port_offers p out es) i) [ inl l ↦ dated_on p out a es (frame_destination p a) o l | inr l ↦ dated_offers p out es o l ]
dated_offers p out (Cleared clear n ∷ es) o i = dated_offers p out es o i

in_offered : (xs : List (Copy CarriedFrame)) (y : Copy CarriedFrame) → IsMember y xs → IsMember (record { at = y.at; class = y.class; item = y.item }) (copy_offers xs)
in_offered [] y i = absurd i
in_offered (x ∷ xs) y i = elim i [ inl e ↦ inl (rw e refl) | inr l ↦ inr (in_offered xs y l) ]

pub dated : {A : Type 0} (p : Plan A) (out : PortPlan A) (es : List Event) (xs : List (Copy CarriedFrame)) → copy_offers xs ≡ port_offers p out es → (y : Copy CarriedFrame) → IsMember y xs → y.at ≡ y.item.at
dated p out es xs h y i = dated_offers p out es (record { at = y.at; class = y.class; item = y.item }) (subst (λ (z : List Offer). IsMember (record { at = y.at; class = y.class; item = y.item }) z) h (in_offered xs y i))

-- FACTS THAT A START KEEPS

pub begun_offered : (c s i : ℕ) (item : CarriedFrame) (xs ys : List (Copy CarriedFrame)) → StartsOldest c s i item xs ys → copy_offers ys ≡ copy_offers xs
begun_offered c s i item xs0 ys0 (here t it zs n) = refl
begun_offered c s i item xs0 ys0 (there x {xs = xs} {ys = ys} b) = ap (λ (z : List Offer). record { at = x.at; class = x.class; item = x.item } ∷ z) (begun_offered c s _ _ xs ys b)

pub begun_counted : (f : Bool → Bool) (c s i : ℕ) (item : CarriedFrame) (xs ys : List (Copy CarriedFrame)) → StartsOldest c s i item xs ys → count_by (λ x. f (is_accepted x.fate)) ys ≡ count_by (λ x. f (is_accepted x.fate)) xs
begun_counted f c s i item xs0 ys0 (here t it zs n) = refl
begun_counted f c s i item xs0 ys0 (there x {xs = xs} {ys = ys} b) = count_cons (λ y. f (is_accepted y.fate)) x ys ∙ (ap (λ (m : ℕ). (if f (is_accepted x.fate) then 1 else 0) + m) (begun_counted f c s _ _ xs ys b) ∙ sym (count_cons (λ y. f (is_accepted y.fate)) x xs))

pub in_seen : {X Y : Type 0} (g : X → Y) (xs : List (Copy X)) (y : Copy X) → IsMember y xs → IsMember (map_copy g y) (map_copies g xs)
in_seen g [] y i = absurd i
in_seen g (x ∷ xs) y i = elim i [ inl e ↦ inl (ap (map_copy g) e) | inr l ↦ inr (in_seen g xs y l) ]

-- A started copy starts at or after its offer.
pub start_after : {X : Type 0} (r : PortRules X) (h : ℕ) (xs : List (Copy X)) → AreLawfulStarts r h xs → (y : Copy X) (k : ℕ) → IsMember y xs → y.fate ≡ Started k → y.at ≤ k
start_after r h [] f y k i e = absurd i
start_after {X} r h (x ∷ xs) f y k i e = elim i [ inl j ↦ (let z : IsLawfulStart r h x (Started k) = subst (IsLawfulStart r h x) (ap (λ (v : Copy X). v.fate) (sym j) ∙ e) f.0 in subst (λ (v : Copy X). v.at ≤ k) (sym j) z.1) | inr l ↦ start_after r h xs f.1 y k l e ]

-- ONE PORT'S COPIES CHANGE BY A START

pub record IsBegunAt (q c k : ℕ) (item : CarriedFrame) (old new : ℕ → List (Copy CarriedFrame)) : Type 0 where
  pub place : ℕ
  pub begun : StartsOldest c k place item (old q) (new q)
  pub others : (r : ℕ) → nat_eq r q ≡ false → new r ≡ old r

pub offered_same : (q c k : ℕ) (item : CarriedFrame) (old new : ℕ → List (Copy CarriedFrame)) → IsBegunAt q c k item old new → (r : ℕ) → copy_offers (new r) ≡ copy_offers (old r)
offered_same q c k item old new h r = by_bool (nat_eq r q)
    (λ e.
    let same : r ≡ q = grind (arith, nat_tests) in
    subst (λ (n : ℕ). copy_offers (new n) ≡ copy_offers (old n)) (sym same) (begun_offered c k h.place item (old q) (new q) h.begun))
    (λ e. ap copy_offers (h.others r e))

pub counted_same : (f : Bool → Bool) (q c k : ℕ) (item : CarriedFrame) (old new : ℕ → List (Copy CarriedFrame)) → IsBegunAt q c k item old new → (r : ℕ) → count_by (λ x. f (is_accepted x.fate)) (new r) ≡ count_by (λ x. f (is_accepted x.fate)) (old r)
counted_same f q c k item old new h r = by_bool (nat_eq r q)
    (λ e.
    let same : r ≡ q = grind (arith, nat_tests) in
    subst (λ (n : ℕ). count_by (λ x. f (is_accepted x.fate)) (new n) ≡ count_by (λ x. f (is_accepted x.fate)) (old n)) (sym same) (begun_counted f c k h.place item (old q) (new q) h.begun))
    (λ e. ap (λ (z : List (Copy CarriedFrame)). count_by (λ x. f (is_accepted x.fate)) z) (h.others r e))

lies_from : (q c k : ℕ) (item : CarriedFrame) (old new : ℕ → List (Copy CarriedFrame)) → IsBegunAt q c k item old new → (r : ℕ) (y : Copy CarriedFrame) → (y.fate ≡ Queued → ⊥) → IsMember y (old r) → IsMember y (new r)
lies_from q c k item old new h r y f i = by_bool (nat_eq r q)
    (λ e.
    let same : r ≡ q = grind (arith, nat_tests) in
    subst (λ (n : ℕ). IsMember y (new n)) (sym same) (begun_kept c k h.place item (old q) (new q) h.begun y f (subst (λ (n : ℕ). IsMember y (old n)) same i)))
    (λ e. subst (IsMember y) (sym (h.others r e)) i)

lies_to : (q c k : ℕ) (item : CarriedFrame) (old new : ℕ → List (Copy CarriedFrame)) → IsBegunAt q c k item old new → (r : ℕ) (y : Copy CarriedFrame) → IsMember y (new r) → IsMember y (old r) ⊎ ((r ≡ q) × (y.fate ≡ Started k) × (y.item ≡ item))
lies_to q c k item old new h r y i = by_bool (nat_eq r q)
    (λ e.
    let same : r ≡ q = grind (arith, nat_tests) in
    elim (begun_to c k h.place item (old q) (new q) h.begun y (subst (λ (n : ℕ). IsMember y (new n)) same i)) [
      | inl l ↦ inl (subst (λ (n : ℕ). IsMember y (old n)) (sym same) l)
      | inr l ↦ inr (same, l.0, l.1)
    ])
    (λ e. inl (subst (IsMember y) (h.others r e) i))

started_not : (f : Fate) (k : ℕ) → f ≡ Started k → f ≡ Queued → ⊥
started_not f k e h = cc

refused_not : (f : Fate) (r : Refusal) → f ≡ drop_fate r → f ≡ Queued → ⊥
refused_not f refusal.NeverFits e h = cc
refused_not f refusal.Full e h = cc

refused_started : (f : Fate) (r : Refusal) (k : ℕ) → f ≡ drop_fate r → f ≡ Started k → ⊥
refused_started f refusal.NeverFits k e h = cc
refused_started f refusal.Full k e h = cc

departs_from : {A : Type 0} (p : Plan A) (n q c k : ℕ) (item : CarriedFrame) (old new : ℕ → List (Copy CarriedFrame)) → IsBegunAt q c k item old new → (d : Departure) → IsFilterDeparture p n (IsPortCopy old) d → IsFilterDeparture p n (IsPortCopy new) d
departs_from p n q c k item old new h d z = record { out = z.out; copy = z.copy; at = z.at; lies = lies_from q c k item old new h d.port z.copy (started_not z.copy.fate d.start z.started) z.lies; flow = z.flow; own = z.own; started = z.started; done = z.done }

drops_from : {A : Type 0} (p : Plan A) (n q c k : ℕ) (item : CarriedFrame) (old new : ℕ → List (Copy CarriedFrame)) → IsBegunAt q c k item old new → (d : Dropped) → IsFilterDrop p n (IsPortCopy old) d → IsFilterDrop p n (IsPortCopy new) d
drops_from p n q c k item old new h d z = record { copy = z.copy; lies = lies_from q c k item old new h d.port z.copy (refused_not z.copy.fate d.refusal z.refused) z.lies; flow = z.flow; own = z.own; refused = z.refused }

drops_to : {A : Type 0} (p : Plan A) (n q c k : ℕ) (item : CarriedFrame) (old new : ℕ → List (Copy CarriedFrame)) → IsBegunAt q c k item old new → (d : Dropped) → IsFilterDrop p n (IsPortCopy new) d → IsFilterDrop p n (IsPortCopy old) d
drops_to p n q c k item old new h d z = record {
  copy = z.copy;
  lies = elim (lies_to q c k item old new h d.port z.copy z.lies) [ inl l ↦ l | inr l ↦ absurd (refused_started z.copy.fate d.refusal k z.refused l.1) ];
  flow = z.flow;
  own = z.own;
  refused = z.refused;
}

delayed_from : {A : Type 0} (p : Plan A) (n q c k : ℕ) (item : CarriedFrame) (old new : ℕ → List (Copy CarriedFrame)) → IsBegunAt q c k item old new → (m : ℕ) → IsFilterDelay p n (IsPortCopy old) m → IsFilterDelay p n (IsPortCopy new) m
delayed_from p n q c k item old new h m z = record { port = z.port; out = z.out; copy = z.copy; start = z.start; at = z.at; lies = lies_from q c k item old new h z.port z.copy (started_not z.copy.fate z.start z.started) z.lies; flow = z.flow; started = z.started; delay = z.delay }

-- A filter other than the copy's filter.
departs_other : {A : Type 0} (p : Plan A) (n q c k : ℕ) (item : CarriedFrame) (old new : ℕ → List (Copy CarriedFrame)) → IsBegunAt q c k item old new → (item.flow ≡ Some n → ⊥) → (d : Departure) → IsFilterDeparture p n (IsPortCopy new) d → IsFilterDeparture p n (IsPortCopy old) d
departs_other p n q c k item old new h other d z = record {
  out = z.out;
  copy = z.copy;
  at = z.at;
  lies = elim (lies_to q c k item old new h d.port z.copy z.lies) [ inl l ↦ l | inr l ↦ absurd (other (ap (λ (v : CarriedFrame). v.flow) (sym l.2) ∙ z.flow)) ];
  flow = z.flow;
  own = z.own;
  started = z.started;
  done = z.done;
}

delayed_other : {A : Type 0} (p : Plan A) (n q c k : ℕ) (item : CarriedFrame) (old new : ℕ → List (Copy CarriedFrame)) → IsBegunAt q c k item old new → (item.flow ≡ Some n → ⊥) → (m : ℕ) → IsFilterDelay p n (IsPortCopy new) m → IsFilterDelay p n (IsPortCopy old) m
delayed_other p n q c k item old new h other m z = record {
  port = z.port;
  out = z.out;
  copy = z.copy;
  start = z.start;
  at = z.at;
  lies = elim (lies_to q c k item old new h z.port z.copy z.lies) [ inl l ↦ l | inr l ↦ absurd (other (ap (λ (v : CarriedFrame). v.flow) (sym l.2) ∙ z.flow)) ];
  flow = z.flow;
  started = z.started;
  delay = z.delay;
}

greatest_same : (P Q : ℕ → Type 0) (o : Option ℕ) → ((m : ℕ) → P m → Q m) → ((m : ℕ) → Q m → P m) → IsGreatestNumber P o → IsGreatestNumber Q o
greatest_same P Q None to from g = λ m x. g m (from m x)
greatest_same P Q (Some n) to from g = (to n g.0, λ m x. g.1 m (from m x))

pub told_other : {A : Type 0} (p : Plan A) (n q c k : ℕ) (item : CarriedFrame) (old new : ℕ → List (Copy CarriedFrame)) → IsBegunAt q c k item old new → (item.flow ≡ Some n → ⊥) → (ds : List Departure) (rs : List Dropped) (delay : Option ℕ) → HasCopyRecord p n (IsPortCopy old) ds rs delay → HasCopyRecord p n (IsPortCopy new) ds rs delay
told_other p n q c k item old new h other ds rs delay t = record {
  departures_rise = t.departures_rise;
  departures_are = λ d. ((λ i. departs_from p n q c k item old new h d ((t.departures_are d).0 i)), (λ z. (t.departures_are d).1 (departs_other p n q c k item old new h other d z)));
  drops_rise = t.drops_rise;
  drops_are = λ d. ((λ i. drops_from p n q c k item old new h d ((t.drops_are d).0 i)), (λ z. (t.drops_are d).1 (drops_to p n q c k item old new h d z)));
  longest = greatest_same (IsFilterDelay p n (IsPortCopy old)) (IsFilterDelay p n (IsPortCopy new)) delay (delayed_from p n q c k item old new h) (delayed_other p n q c k item old new h other) t.longest;
}

-- The copy's filter.
pub record IsDone {A : Type 0} (p : Plan A) (n q k : ℕ) (item : CarriedFrame) (out : PortPlan A) (d : Departure) (delay : ℕ) : Type 0 where
  pub flow : item.flow ≡ Some n
  pub there : find_port p.ports q ≡ Some out
  pub own : d.own ≡ item.own
  pub port : d.port ≡ q
  pub start : d.start ≡ k
  pub done : d.done ≡ k + transmission_time item.len out.speed
  pub sum : delay + item.at ≡ d.done

same_started : (f : Fate) (a b : ℕ) → f ≡ Started a → f ≡ Started b → a ≡ b
same_started f a b h k = cc

same_some : {X : Type 0} (o : Option X) (a b : X) → o ≡ Some a → o ≡ Some b → a ≡ b
same_some o a b h k = cc

same_departure : (a b : Departure) → a.own ≡ b.own → a.port ≡ b.port → a.start ≡ b.start → a.done ≡ b.done → a ≡ b
same_departure a b o p s d = ap (λ (v : ℕ). record { own = v; port = a.port; start = a.start; done = a.done }) o ∙ (ap (λ (v : ℕ). record { own = b.own; port = v; start = a.start; done = a.done }) p ∙ (ap (λ (v : ℕ). record { own = b.own; port = b.port; start = v; done = a.done }) s ∙ ap (λ (v : ℕ). record { own = b.own; port = b.port; start = b.start; done = v }) d))

-- The copy that has started.
begun_copy : (q c k : ℕ) (item : CarriedFrame) (old new : ℕ → List (Copy CarriedFrame)) → IsBegunAt q c k item old new → (y : Copy CarriedFrame) × IsMember y (new q) × (y.fate ≡ Started k) × (y.item ≡ item)
begun_copy q c k item old new h = let z = begun_there c k h.place item (old q) (new q) h.begun in (z.0, z.1, z.2, z.3)

departs_new : {A : Type 0} (p : Plan A) (n q c k : ℕ) (item : CarriedFrame) (old new : ℕ → List (Copy CarriedFrame)) (out : PortPlan A) (d : Departure) (delay : ℕ) → IsBegunAt q c k item old new → IsDone p n q k item out d delay → IsFilterDeparture p n (IsPortCopy new) d
departs_new {A} p n q c k item old new out d delay h e =
    let y = begun_copy q c k item old new h in
    record {
      out = out;
      copy = y.0;
      at = subst (λ (m : ℕ). find_port p.ports m ≡ Some out) (sym e.port) e.there;
      lies = subst (λ (m : ℕ). IsMember y.0 (new m)) (sym e.port) y.1;
      flow = ap (λ (v : CarriedFrame). v.flow) y.3 ∙ e.flow;
      own = ap (λ (v : CarriedFrame). v.own) y.3 ∙ sym e.own;
      started = y.2 ∙ ap Started (sym e.start);
      done = e.done ∙ (ap (λ (m : ℕ). m + transmission_time item.len out.speed) (sym e.start) ∙ ap (λ (v : CarriedFrame). d.start + transmission_time v.len out.speed) (sym y.3));
    }

departs_to : {A : Type 0} (p : Plan A) (n q c k : ℕ) (item : CarriedFrame) (old new : ℕ → List (Copy CarriedFrame)) (out : PortPlan A) (d : Departure) (delay : ℕ) → IsBegunAt q c k item old new → IsDone p n q k item out d delay → (x : Departure) → IsFilterDeparture p n (IsPortCopy new) x → IsFilterDeparture p n (IsPortCopy old) x ⊎ (x ≡ d)
departs_to {A} p n q c k item old new out d delay h e x z = elim (lies_to q c k item old new h x.port z.copy z.lies) [
  | inl l ↦ inl (record { out = z.out; copy = z.copy; at = z.at; lies = l; flow = z.flow; own = z.own; started = z.started; done = z.done })
  | inr l ↦ (
      let there : find_port p.ports q ≡ Some z.out = subst (λ (m : ℕ). find_port p.ports m ≡ Some z.out) l.0 z.at in
      let same : z.out ≡ out = same_some (find_port p.ports q) z.out out there e.there in
      let start : x.start ≡ k = same_started z.copy.fate x.start k z.started l.1 in
      let done : x.done ≡ k + transmission_time item.len out.speed = z.done ∙ (ap (λ (m : ℕ). m + transmission_time z.copy.item.len z.out.speed) start ∙ (ap (λ (v : CarriedFrame). k + transmission_time v.len z.out.speed) l.2 ∙ ap (λ (v : PortPlan A). k + transmission_time item.len v.speed) same)) in
      inr (same_departure x d (sym z.own ∙ (ap (λ (v : CarriedFrame). v.own) l.2 ∙ sym e.own)) (l.0 ∙ sym e.port) (start ∙ sym e.start) (done ∙ sym e.done)))
]

delayed_new : {A : Type 0} (p : Plan A) (n q c k : ℕ) (item : CarriedFrame) (old new : ℕ → List (Copy CarriedFrame)) (out : PortPlan A) (d : Departure) (delay : ℕ) → IsBegunAt q c k item old new → IsDone p n q k item out d delay → ((y : Copy CarriedFrame) → IsMember y (new q) → y.at ≡ y.item.at) → IsFilterDelay p n (IsPortCopy new) delay
delayed_new {A} p n q c k item old new out d delay h e dates =
    let y = begun_copy q c k item old new h in
    let len = ap (λ (v : CarriedFrame). transmission_time v.len out.speed) y.3 in
    let at : y.0.at ≡ item.at = dates y.0 y.1 ∙ ap (λ (v : CarriedFrame). v.at) y.3 in
    let sum = e.sum in
    let done = e.done in
    record {
      port = q;
      out = out;
      copy = y.0;
      start = k;
      at = e.there;
      lies = y.1;
      flow = ap (λ (v : CarriedFrame). v.flow) y.3 ∙ e.flow;
      started = y.2;
      delay = ap (λ (m : ℕ). delay + m) at ∙ (sum ∙ (done ∙ ap (λ (m : ℕ). k + m) (sym len)));
    }

delayed_to : {A : Type 0} (p : Plan A) (n q c k : ℕ) (item : CarriedFrame) (old new : ℕ → List (Copy CarriedFrame)) (out : PortPlan A) (d : Departure) (delay : ℕ) → IsBegunAt q c k item old new → IsDone p n q k item out d delay → ((y : Copy CarriedFrame) → IsMember y (new q) → y.at ≡ y.item.at) → (m : ℕ) → IsFilterDelay p n (IsPortCopy new) m → IsFilterDelay p n (IsPortCopy old) m ⊎ (m ≡ delay)
delayed_to {A} p n q c k item old new out d delay h e dates m z = elim (lies_to q c k item old new h z.port z.copy z.lies) [
  | inl l ↦ inl (record { port = z.port; out = z.out; copy = z.copy; start = z.start; at = z.at; lies = l; flow = z.flow; started = z.started; delay = z.delay })
  | inr l ↦ (
      let there : find_port p.ports q ≡ Some z.out = subst (λ (r : ℕ). find_port p.ports r ≡ Some z.out) l.0 z.at in
      let same : z.out ≡ out = same_some (find_port p.ports q) z.out out there e.there in
      let start : z.start ≡ k = same_started z.copy.fate z.start k z.started l.1 in
      let done : z.start + transmission_time z.copy.item.len z.out.speed ≡ k + transmission_time item.len out.speed = ap (λ (r : ℕ). r + transmission_time z.copy.item.len z.out.speed) start ∙ (ap (λ (v : CarriedFrame). k + transmission_time v.len z.out.speed) l.2 ∙ ap (λ (v : PortPlan A). k + transmission_time item.len v.speed) same) in
      let at : z.copy.at ≡ item.at = dates z.copy (subst (λ (r : ℕ). IsMember z.copy (new r)) l.0 z.lies) ∙ ap (λ (v : CarriedFrame). v.at) l.2 in
      let sum : m + item.at ≡ delay + item.at = ap (λ (r : ℕ). m + r) (sym at) ∙ (z.delay ∙ (done ∙ (sym e.done ∙ sym e.sum))) in
      inr (omega arith))
]

greatest_max : (Q : ℕ → Type 0) (u n : ℕ) → Q u → Q n → Q (max u n)
greatest_max Q u n x y = by_bool (nat_le u n)
    (λ e. let l : u ≤ n = grind (arith, nat_tests) in let z : n ≡ max u n = omega arith in subst Q z y)
    (λ e. let l : n ≤ u = grind (arith, nat_tests) in let z : u ≡ max u n = omega arith in subst Q z x)

greatest_more : (P Q : ℕ → Type 0) (o : Option ℕ) (n : ℕ) → ((m : ℕ) → P m → Q m) → ((m : ℕ) → Q m → P m ⊎ (m ≡ n)) → Q n → IsGreatestNumber P o → IsGreatestNumber Q (longer_delay o n)
greatest_more P Q None n to from it g = (it, λ m x. elim (from m x) [ inl l ↦ absurd (g m l) | inr e ↦ omega arith ])
greatest_more P Q (Some u) n to from it g = (greatest_max Q u n (to u g.0) it, λ m x. elim (from m x) [ inl l ↦ (let z = g.1 m l in omega arith) | inr e ↦ omega arith ])

pub told_more : {A : Type 0} (p : Plan A) (n q c k : ℕ) (item : CarriedFrame) (old new : ℕ → List (Copy CarriedFrame)) (out : PortPlan A) (d : Departure) (delay : ℕ) → IsBegunAt q c k item old new → IsDone p n q k item out d delay → ((y : Copy CarriedFrame) → IsMember y (new q) → y.at ≡ y.item.at) → (ds : List Departure) (rs : List Dropped) (longest : Option ℕ) → IsOrdered DepartsEarlier (ds ++ d ∷ []) → HasCopyRecord p n (IsPortCopy old) ds rs longest → HasCopyRecord p n (IsPortCopy new) (ds ++ d ∷ []) rs (longer_delay longest delay)
told_more p n q c k item old new out d delay h e dates ds rs longest rise t = record {
  departures_rise = rise;
  departures_are = λ x. (
    (λ i. elim (in_push x d ds i) [ inl l ↦ departs_from p n q c k item old new h x ((t.departures_are x).0 l) | inr j ↦ subst (IsFilterDeparture p n (IsPortCopy new)) (sym j) (departs_new p n q c k item old new out d delay h e) ]),
    (λ z. elim (departs_to p n q c k item old new out d delay h e x z) [ inl l ↦ in_left x ds (d ∷ []) ((t.departures_are x).1 l) | inr j ↦ subst (λ (v : Departure). IsMember v (ds ++ d ∷ [])) (sym j) (in_end d ds) ]),
  );
  drops_rise = t.drops_rise;
  drops_are = λ x. ((λ i. drops_from p n q c k item old new h x ((t.drops_are x).0 i)), (λ z. (t.drops_are x).1 (drops_to p n q c k item old new h x z)));
  longest = greatest_more (IsFilterDelay p n (IsPortCopy old)) (IsFilterDelay p n (IsPortCopy new)) longest delay (delayed_from p n q c k item old new h) (delayed_to p n q c k item old new out d delay h e dates) (delayed_new p n q c k item old new out d delay h e dates) t.longest;
}
