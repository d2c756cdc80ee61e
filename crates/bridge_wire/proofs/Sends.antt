-- Effect of offers and starts on the schedule of a port with one queue.
use Rattle.std.proofs.Common.{◌≡◌, true, false, zero, suc, ℕ, Bool, ◌+◌, ◌≤◌, List, [], ◌∷◌, ◌++◌, refl, ap, ◌∙◌, sym, subst, arith, inl, inr, Option, Result, Ok, Err, append_assoc, append-nil}
use Rattle.std.specs.Prelude.{not, nat_lt, count_by, Vec, if◌then◌else◌, IsErr, OnErr, All}
use Rattle.std.proofs.lemmas.Bool.{ltb-true, ltb-false}
use Rattle.std.specs.List.{flat_map}
use Rattle.std.specs.Io.KnownBytes.{Appends}
use Rattle.std.proofs.KnownBytes.{Appends-trans, Appends-nil}
use Rattle.std.proofs.lemmas.Grind.{flat_map-append}
use Rattle.std.proofs.lemmas.List.Elements.{All-append}
use Rattle.bridge_frame.specs.declared.Speed.{Speed}
use Rattle.bridge_frame.specs.Link.{transmission_time}
use Rattle.bridge_frame.proofs.Times.{occupied_some}
use Rattle.bridge_capture.specs.Grammar.{CapturedFrame}
use Rattle.bridge_capture.specs.WrittenCapture.{written_frame}
use Rattle.bridge_capture.specs.Sinks.{AppendsPrefix}
use Rattle.bridge_capture.proofs.Written.{front_of_second}
use Rattle.bridge_limits.specs.Members.{IsMember}
use Rattle.bridge_limits.proofs.Members.{in_left, in_end, in_push}
use Rattle.bridge_limits.proofs.Cases.{by_bool}
use Rattle.bridge_port.specs.declared.item.Item.{Item}
use Rattle.bridge_port.specs.Schedule.{Fate, Queued, Started, Copy, StartsOldest, here, there, is_accepted}
use Rattle.bridge_port.specs.MappedCopies.{map_copies}
use Rattle.bridge_port.specs.StandsFor.{EgressState, StandsFor, IsNextStart, HasStartedOldest, HasNoStartEarlier, started_state}
use Rattle.bridge_port.proofs.Watched.{begun_seen}
use Rattle.bridge_port.proofs.Members.{begun_to, begun_from, begun_there, same_start}
use Rattle.bridge_port.proofs.Keeping.{count_cons}
use Rattle.bridge_capture.specs.declared.fault.RunFault.{RunFault}
use Rattle.bridge_wire.specs.Wire.{IsWritable, Frame, Offer, copy_offers, departure, IsOutput}
use Rattle.bridge_wire.specs.Departures.{item_frame, HaveClass, HasSent, WritesDepartures}
use Rattle.bridge_wire.proofs.Lists.{rising_push}

-- A start changes neither the offers, nor the classes, nor the accepted copies.

offered_begun : (c s i : ℕ) (item : Frame) (xs ys : List (Copy Frame)) → StartsOldest c s i item xs ys → copy_offers ys ≡ copy_offers xs
offered_begun c s i item xs0 ys0 (here t it xs n) = refl
offered_begun c s i item xs0 ys0 (there x {xs = xs} {ys = ys} b) = ap (λ l. record { at = x.at; class = x.class; frame = x.item } ∷ l) (offered_begun c s i item xs ys b)

class_begun : {X : Type 0} (c s i : ℕ) (item : X) (xs ys : List (Copy X)) (d : ℕ) → StartsOldest c s i item xs ys → HaveClass d xs → HaveClass d ys
class_begun c s i item xs0 ys0 d (here t it xs n) a = a
class_begun c s i item xs0 ys0 d (there x {xs = xs} {ys = ys} b) a = (a.0, class_begun c s i item xs ys d b a.1)

count_begun : (f : Fate → Bool) (c s i : ℕ) (item : Frame) (xs ys : List (Copy Frame)) → f (Started s) ≡ f Queued → StartsOldest c s i item xs ys → count_by (λ x. f x.fate) ys ≡ count_by (λ x. f x.fate) xs
count_begun f c s i item xs0 ys0 e (here t it xs n) =
    let q : Copy Frame = record { at = t; class = c; item = it; fate = Queued } in
    let z : Copy Frame = record { at = t; class = c; item = it; fate = Started s } in
    count_cons (λ (x : Copy Frame). f x.fate) z xs ∙ (ap (λ b. (if b then 1 else 0) + count_by (λ (x : Copy Frame). f x.fate) xs) e ∙ sym (count_cons (λ (x : Copy Frame). f x.fate) q xs))
count_begun f c s i item xs0 ys0 e (there x {xs = xs} {ys = ys} b) =
    count_cons (λ (x : Copy Frame). f x.fate) x ys ∙ (ap (λ n. (if f x.fate then 1 else 0) + n) (count_begun f c s i item xs ys e b) ∙ sym (count_cons (λ (x : Copy Frame). f x.fate) x xs))

-- A queued frame has at most its length in octets.
pub within_of : (b : Bool) (n m : ℕ) → m ≡ (if b then 1 else 0) + n → m ≡ 0 → b ≡ false
within_of true n m e z = absurd (omega arith)
within_of false n m e z = refl

all_one : (P : CapturedFrame → Type 0) (x : CapturedFrame) → P x → All P (x ∷ [])
all_one P x p zero d h = p
all_one P x p (suc k) d h = absurd (omega arith)

all_push : (P : CapturedFrame → Type 0) (xs : List CapturedFrame) (x : CapturedFrame) → All P xs → P x → All P (xs ++ x ∷ [])
all_push P xs x a p = All-append P xs (x ∷ []) a (all_one P x p)

-- A frame that starts leaves after all earlier frames.
output_start : (speed : Speed) (k c i : ℕ) (frame : Frame) (xs ys : List (Copy Frame)) (left : List CapturedFrame) → StartsOldest c k i frame xs ys → IsOutput speed xs left → ((d : CapturedFrame) → IsMember d left → d.time ≤ k) → IsOutput speed ys (left ++ departure speed k frame ∷ [])
output_start speed k c i frame xs ys left b o before =
    let d = departure speed k frame in
    record {
      rises = rising_push left d o.rises (λ e h. let early = before e h in let some = occupied_some frame.len speed in omega arith);
      members = λ e. (
        (λ h. elim (in_push e d left h) [
          | inl l ↦
              let was = (o.members e).0 l in
              record { copy = was.copy; start = was.start; listed = begun_from c k i frame xs ys b was.copy was.start was.started was.listed; started = was.started; is = was.is }
          | inr z ↦
              let one = begun_there c k i frame xs ys b in
              record { copy = one.0; start = k; listed = one.1; started = one.2; is = z ∙ ap (departure speed k) (sym one.3) }
        ]),
        (λ h. elim (begun_to c k i frame xs ys b h.copy h.listed) [
          | inl l ↦ in_left e left (d ∷ []) ((o.members e).1 (record { copy = h.copy; start = h.start; listed = l; started = h.started; is = h.is }))
          | inr n ↦
              let at : h.start ≡ k = same_start h.start k (sym h.started ∙ n.0) in
              let same : e ≡ d = h.is ∙ (ap (λ s. departure speed s h.copy.item) at ∙ ap (departure speed k) n.1) in
              subst (λ z. IsMember z (left ++ d ∷ [])) (sym same) (in_end d left)
        ]),
      );
    }

pub sends_start : {A : Type 0} (old new : EgressState (Vec ℕ A)) (k c : ℕ) (x : Item (Vec ℕ A)) → IsNextStart old k c x → new ≡ started_state old k c x → ((xs : List (Copy (Item (Vec ℕ A)))) → StandsFor old xs → HasStartedOldest new c k x xs) → IsWritable (departure old.speed k (item_frame x)) → (offers : List Offer) (sent full : ℕ) (left : List CapturedFrame) → HasSent old offers sent full left → HasSent new offers sent full (left ++ departure old.speed k (item_frame x) ∷ [])
sends_start {A} old new k c x next moved begins short offers sent full left s =
    let b = begins s.copies s.stands in
    let seen = begun_seen item_frame c k b.place x s.copies b.after b.begun in
    let speed : new.speed ≡ old.speed = ap (λ (p : EgressState (Vec ℕ A)). p.speed) moved in
    let free : new.free ≡ k + transmission_time x.len old.speed = ap (λ (p : EgressState (Vec ℕ A)). p.free) moved in
    let link = next.free in
    let before = λ (d : CapturedFrame) (h : IsMember d left). let z = s.free d h in let y : d.time ≤ k = omega arith in y in
    let frame = item_frame x in
    record {
      copies = b.after;
      stands = b.stands;
      offered_so = offered_begun c k b.place frame (map_copies item_frame s.copies) (map_copies item_frame b.after) seen ∙ s.offered_so;
      class = class_begun c k b.place x s.copies b.after 0 b.begun s.class;
      accepted = count_begun is_accepted c k b.place frame (map_copies item_frame s.copies) (map_copies item_frame b.after) refl seen ∙ s.accepted;
      refused = count_begun (λ f. not (is_accepted f)) c k b.place frame (map_copies item_frame s.copies) (map_copies item_frame b.after) refl seen ∙ s.refused;
      output = subst (λ v. IsOutput v (map_copies item_frame b.after) (left ++ departure old.speed k frame ∷ [])) (sym speed) (output_start old.speed k c b.place frame (map_copies item_frame s.copies) (map_copies item_frame b.after) left seen s.output before);
      short = all_push IsWritable left (departure old.speed k frame) s.short short;
      free = λ d h. rw free (elim (in_push d (departure old.speed k frame) left h) [
        | inl l ↦ let y = before d l in omega arith
        | inr e ↦ let y : d.time ≡ k + transmission_time x.len old.speed = ap (λ (z : CapturedFrame). z.time) e in omega arith
      ]);
    }

-- Frames that left one after another.

pub goes_none : {A : Type 0} (p : EgressState (Vec ℕ A)) (offers : List Offer) (sent full : ℕ) (left : List CapturedFrame) (sink : Option (List ℕ)) → HasSent p offers sent full left → (gone : List CapturedFrame) × HasSent p offers sent full (left ++ gone) × Appends sink sink (flat_map written_frame gone)
goes_none p offers sent full left sink s = ([], subst (HasSent p offers sent full) (sym (append-nil left)) s, Appends-nil sink)

pub goes_after : {A : Type 0} (p : EgressState (Vec ℕ A)) (offers : List Offer) (sent full : ℕ) (left gone : List CapturedFrame) (a b c : Option (List ℕ)) (r : Result (Unit {0}) RunFault) → Appends a b (flat_map written_frame gone) → WritesDepartures p offers sent full (left ++ gone) b c r → WritesDepartures p offers sent full left a c r
goes_after p offers sent full left gone a b c (Ok u) first g =
    (gone ++ g.0, subst (HasSent p offers sent full) (append_assoc left gone g.0) g.1, subst (Appends a c) (sym (flat_map-append written_frame gone g.0)) (Appends-trans a b c (flat_map written_frame gone) (flat_map written_frame g.0) first g.2))
goes_after p offers sent full left gone a b c (Err e) first g =
    (gone ++ g.0, subst (HasSent p offers sent full) (append_assoc left gone g.0) g.1, subst (AppendsPrefix a c) (sym (flat_map-append written_frame gone g.0)) (front_of_second a b c (flat_map written_frame gone) (flat_map written_frame g.0) first g.2))

-- A property of an error holds for the result with this error.
pub goes_err : {A : Type 0} (p : EgressState (Vec ℕ A)) (offers : List Offer) (sent full : ℕ) (left : List CapturedFrame) (a c : Option (List ℕ)) (e : RunFault) (r : Result (Unit {0}) RunFault) → IsErr r → WritesDepartures p offers sent full left a c (Err e) → WritesDepartures p offers sent full left a c r
goes_err p offers sent full left a c e (Ok u) is g = absurd (cc)
goes_err p offers sent full left a c e (Err f) is g = g

-- No start is due before the earliest time of an offer.
pub calm_early : {T : Type 0} (p : EgressState T) (h : ℕ) → h ≤ p.earliest → HasNoStartEarlier p h
calm_early p h early = λ c x rest is u from free below fits. absurd (omega arith)

-- A start isn't earlier than a time before which no start is due.
pub start_late : {T : Type 0} (p : EgressState T) (k c : ℕ) (x : Item T) (h : ℕ) → IsNextStart p k c x → HasNoStartEarlier p h → h ≤ k
start_late p k c x h next calm = by_bool (nat_lt k h) (λ e. absurd (calm c x next.rest next.is_head k next.after next.free (ltb-true k h e) next.fits)) (λ e. ltb-false k h e)

-- A property that holds holds for each error.
pub err_told : {X : Type 0} {P : Type 0} (r : Result X RunFault) → IsErr r → P → OnErr r P
err_told (Ok x) is p = absurd (cc)
err_told (Err e) is p = p
