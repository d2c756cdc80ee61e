-- Frames of a capture, one after another.
use Rattle.std.proofs.Common.{◌≡◌, ℕ, Bool, true, false, ◌+◌, ◌<◌, ◌≤◌, List, [], ◌∷◌, ◌++◌, length, refl, ap, ◌∙◌, sym, subst, arith, inl, inr, Option, Some, None, Result, Ok, Err, reverse, add-zero, zero-add}
use Rattle.std.specs.Prelude.{not, ◌&&◌, map, filter, count_by, Vec, if◌then◌else◌, is_none, slice_index_or, sum_by, IsErr}
use Rattle.std.specs.List.{flat_map}
use Rattle.std.specs.Io.KnownBytes.{Appends}
use Rattle.std.proofs.KnownBytes.{Appends-trans}
use Rattle.std.proofs.lemmas.List.{map-append, reverse-append, append-nil}
use Rattle.std.proofs.lemmas.Bool.{le-ltb}
use Rattle.bridge_limits.proofs.Cases.{by_bool}
use Rattle.bridge_limits.proofs.Lists.{one_longer}
use Rattle.bridge_frame.specs.declared.Speed.{Speed}
use Rattle.bridge_frame.specs.Link.{transmission_time}
use Rattle.bridge_capture.specs.Grammar.{CapturedFrame}
use Rattle.bridge_capture.specs.StandsFor.{last_time}
use Rattle.bridge_capture.specs.WrittenCapture.{written_frame, written_text}
use Rattle.bridge_capture.specs.Sinks.{AppendsPrefix}
use Rattle.bridge_capture.proofs.Written.{front_of_second, written_more}
use Rattle.bridge_port.specs.declared.item.Item.{Item}
use Rattle.bridge_port.specs.declared.item.Refusal.{Refusal}
use Rattle.bridge_port.specs.declared.item.Refusal.TheVariants as refusal
use Rattle.bridge_port.specs.Schedule.{Started, Copy, IsLawful, is_accepted}
use Rattle.bridge_port.specs.MappedCopies.{map_copies, SameRooms}
use Rattle.bridge_port.specs.GateSchedule.{Always, can_fit, GateSchedule, opens}
use Rattle.bridge_port.specs.StandsFor.{EgressState, StandsFor, HasNoStartEarlier, IsNextStartTime, state_rules, offer_refusal, refusal_fate, offered_copy, offered_state, queues_after_offer, count_queued}
use Rattle.bridge_port.proofs.Ports.{idle_calm, stands_offered, up_to}
use Rattle.bridge_port.proofs.Watched.{lawful_seen}
use Rattle.bridge_port.proofs.Keeping.{count_cons, count_push, count_pushed}
use Rattle.bridge_port.proofs.Members.{not_started}
use Rattle.bridge_wire.specs.declared.wire_count.WireCount.{WireCount}
use Rattle.bridge_capture.specs.declared.fault.RunFault.{RunFault}
use Rattle.bridge_wire.specs.Wire.{Frame, Offer, one_queue, frame_offer, frame_offers, is_well_formed, IsOutput, PassesQueue, RunsToLastFrame}
use Rattle.bridge_wire.proofs.Sends.{calm_early}
use Rattle.bridge_wire.specs.Departures.{item_frame, is_overlong, HaveClass, HasSent, IsNotEarlier, IsRunning, StopsAtSink, RunsOneMore}

-- No start is due before a time that isn't after the next start.
pub calm_before : {T : Type 0} (p : EgressState T) (t : ℕ) (next : Option ℕ) → IsNextStartTime p next → IsNotEarlier t next → HasNoStartEarlier p t
calm_before p t None due n = idle_calm p t due
calm_before p t (Some k) due n = λ c x rest e u a f l. due.2.least c x rest e u a f (let late = n.0 in omega arith)

-- Adds one more frame.

pub last_time_push : (earliest : ℕ) (frames : List CapturedFrame) (c : CapturedFrame) → last_time earliest (frames ++ c ∷ []) ≡ c.time
last_time_push earliest [] c = refl
last_time_push earliest (d ∷ frames) c = last_time_push d.time frames c

filter_push : {X : Type 0} (f : X → Bool) (q : List X) (x : X) → filter f (q ++ x ∷ []) ≡ filter f q ++ (if f x then x ∷ [] else [])
filter_push f [] x = by_bool (f x) (λ e. rw e refl) (λ e. rw e refl)
filter_push f (y ∷ q) x = by_bool (f y) (λ e. rw (e, filter_push f q x) refl) (λ e. rw (e, filter_push f q x) refl)

pub offers_push : (frames : List CapturedFrame) (c : CapturedFrame) → is_well_formed c ≡ true → frame_offers (frames ++ c ∷ []) ≡ frame_offer c ∷ frame_offers frames
offers_push frames c e =
    let kept : filter is_well_formed (frames ++ c ∷ []) ≡ filter is_well_formed frames ++ c ∷ [] = filter_push is_well_formed frames c ∙ ap (λ b. filter is_well_formed frames ++ (if b then c ∷ [] else [])) e in
    ap (λ l. reverse (map frame_offer l)) kept ∙ (ap reverse (map-append frame_offer (filter is_well_formed frames) (c ∷ [])) ∙ reverse-append (map frame_offer (filter is_well_formed frames)) (frame_offer c ∷ []))

pub offers_same : (frames : List CapturedFrame) (c : CapturedFrame) → is_well_formed c ≡ false → frame_offers (frames ++ c ∷ []) ≡ frame_offers frames
offers_same frames c e =
    let kept : filter is_well_formed (frames ++ c ∷ []) ≡ filter is_well_formed frames = filter_push is_well_formed frames c ∙ (ap (λ b. filter is_well_formed frames ++ (if b then c ∷ [] else [])) e ∙ append-nil (filter is_well_formed frames)) in
    ap (λ l. reverse (map frame_offer l)) kept

-- A port with one queue stands for frames through one queue.

same_rooms : {X : Type 0} (xs : List (Copy X)) (room other : ℕ → ℕ) → HaveClass 0 xs → room 0 ≡ other 0 → SameRooms room other xs
same_rooms [] room other a e = tt
same_rooms (x ∷ xs) room other a e = (ap room a.0 ∙ (e ∙ ap other (sym a.0)), same_rooms xs room other a.1 e)

pub goes_until : {A : Type 0} (speed : Speed) (room : ℕ) (frames : List CapturedFrame) (p : EgressState (Vec ℕ A)) (sent full : ℕ) (left : List CapturedFrame) (moment : ℕ) → p.list ≡ Always → p.speed ≡ speed → slice_index_or p.rooms 0 0 ≡ room → (s : HasSent p (frame_offers frames) sent full left) → IsLawful (state_rules p) moment s.copies → (goes : PassesQueue speed room frames (map_copies item_frame s.copies) left) × (goes.until ≡ moment)
goes_until {A} speed room frames p sent full left moment no_list pace places s lawful =
    let seen = lawful_seen item_frame (state_rules p) (λ (f : Frame). transmission_time f.len p.speed) (λ c. room) (λ x. refl) moment s.copies (same_rooms s.copies (λ c. slice_index_or p.rooms c 0) (λ c. room) s.class places) lawful in
    let P : GateSchedule → Type 0 = λ l. IsLawful (record { opens = opens l; ever = can_fit l; room = λ c. room; occ = λ (f : Frame). transmission_time f.len p.speed }) moment (map_copies item_frame s.copies) in
    let Q : Speed → Type 0 = λ v. IsLawful (one_queue v room) moment (map_copies item_frame s.copies) in (
      record {
        offers = s.offered_so;
        until = moment;
        lawful = subst Q pace (subst P no_list seen);
        output = subst (λ v. IsOutput v (map_copies item_frame s.copies) left) pace s.output;
      },
      refl,
    )

-- The sink fails while frames leave before a given time.
pub stops_after : {A : Type 0} (speed : Speed) (room : ℕ) (frames : List CapturedFrame) (old new : EgressState (Vec ℕ A)) (count : WireCount) (moment : ℕ) (began now failed : Option (List ℕ)) → (r : IsRunning speed room frames old count began now) → new.list ≡ old.list → new.speed ≡ old.speed → new.rooms ≡ old.rooms → last_time 0 frames ≤ new.earliest → new.earliest ≤ moment → (gone : List CapturedFrame) → HasSent new (frame_offers frames) count.sent count.full (r.left ++ gone) → AppendsPrefix now failed (flat_map written_frame gone) → StopsAtSink speed room frames moment began failed
stops_after {A} speed room frames old new count moment began now failed r list pace places from within gone s front =
    let goes = goes_until speed room frames new count.sent count.full (r.left ++ gone) new.earliest (list ∙ r.queue.list) (pace ∙ r.queue.pace) (ap (λ l. slice_index_or l 0 0) places ∙ r.queue.places) s s.stands.lawful in
    record {
      copies = map_copies item_frame s.copies;
      left = r.left ++ gone;
      goes = goes.0;
      from = subst (λ (t : ℕ). last_time 0 frames ≤ t) (sym goes.1) from;
      within = subst (λ (t : ℕ). t ≤ moment) (sym goes.1) within;
      writes = subst (AppendsPrefix began failed) (sym (written_more r.left gone)) (front_of_second began now failed (written_text r.left) (flat_map written_frame gone) r.writes front);
    }

-- The frames passed the queue up to the last frame, if no start is due before it.
pub is_up_to : {A : Type 0} (speed : Speed) (room : ℕ) (frames : List CapturedFrame) (p : EgressState (Vec ℕ A)) (count : WireCount) (began now : Option (List ℕ)) → IsRunning speed room frames p count began now → RunsToLastFrame speed room frames began now
is_up_to {A} speed room frames p count began now r =
    let s = r.sends in
    let goes = goes_until speed room frames p count.sent count.full r.left (last_time 0 frames) r.queue.list r.queue.pace r.queue.places s (up_to p s.copies (last_time 0 frames) s.stands r.waits r.calm) in
    record { copies = map_copies item_frame s.copies; left = r.left; goes = goes.0; last = goes.1; writes = r.writes }

-- Offers.

output_offer : (speed : Speed) (x : Copy Frame) (xs : List (Copy Frame)) (left : List CapturedFrame) → ((s : ℕ) → x.fate ≡ Started s → ⊥) → IsOutput speed xs left → IsOutput speed (x ∷ xs) left
output_offer speed x xs left waits o = record {
  rises = o.rises;
  members = λ d. (
    (λ h. let was = (o.members d).0 h in record { copy = was.copy; start = was.start; listed = inr was.listed; started = was.started; is = was.is }),
    (λ h. elim h.listed [
      | inl e ↦ absurd (waits h.start (ap (λ (y : Copy Frame). y.fate) (sym e) ∙ h.started))
      | inr l ↦ (o.members d).1 (record { copy = h.copy; start = h.start; listed = l; started = h.started; is = h.is })
    ]),
  );
}

accepted_by : (o : Option Refusal) → is_accepted (refusal_fate o) ≡ is_none o
accepted_by None = refl
accepted_by (Some refusal.NeverFits) = refl
accepted_by (Some refusal.Full) = refl

pub sends_offer : {A : Type 0} (p new : EgressState (Vec ℕ A)) (t : ℕ) (x : Item (Vec ℕ A)) → new ≡ offered_state p t 0 x → ((xs : List (Copy (Item (Vec ℕ A)))) → StandsFor p xs → StandsFor new (offered_copy p t 0 x ∷ xs)) → (offers : List Offer) (sent full : ℕ) (left : List CapturedFrame) → HasSent p offers sent full left → HasSent new (record { at = t; class = 0; frame = item_frame x } ∷ offers) ((if is_none (offer_refusal p 0 x) then 1 else 0) + sent) ((if not (is_none (offer_refusal p 0 x)) then 1 else 0) + full) left
sends_offer {A} p new t x moved stands offers sent full left s =
    let o = offer_refusal p 0 x in
    let copy : Copy Frame = record { at = t; class = 0; item = item_frame x; fate = refusal_fate o } in
    let seen = map_copies item_frame s.copies in
    let speed : new.speed ≡ p.speed = ap (λ (q : EgressState (Vec ℕ A)). q.speed) moved in
    let free : new.free ≡ p.free = ap (λ (q : EgressState (Vec ℕ A)). q.free) moved in
    record {
      copies = offered_copy p t 0 x ∷ s.copies;
      stands = stands s.copies s.stands;
      offered_so = ap (λ l. record { at = t; class = 0; frame = item_frame x } ∷ l) s.offered_so;
      class = (refl, s.class);
      accepted = count_cons (λ (y : Copy Frame). is_accepted y.fate) copy seen ∙ (ap (λ b. (if b then 1 else 0) + count_by (λ (y : Copy Frame). is_accepted y.fate) seen) (accepted_by o) ∙ ap (λ n. (if is_none o then 1 else 0) + n) s.accepted);
      refused = count_cons (λ (y : Copy Frame). not (is_accepted y.fate)) copy seen ∙ (ap (λ b. (if not b then 1 else 0) + count_by (λ (y : Copy Frame). not (is_accepted y.fate)) seen) (accepted_by o) ∙ ap (λ n. (if not (is_none o) then 1 else 0) + n) s.refused);
      output = subst (λ v. IsOutput v (copy ∷ seen) left) (sym speed) (output_offer p.speed copy seen left (not_started o) s.output);
      short = s.short;
      free = λ d h. let z = s.free d h in omega arith;
    }

-- Counts after an offer.
abbrev pub counted : WireCount → Bool → WireCount
counted count accepted = record count { frames = count.frames + 1; sent = (if accepted then 1 else 0) + count.sent; full = (if not accepted then 1 else 0) + count.full }

counted_sums : (count : WireCount) (b : Bool) → count.malformed + count.sent + count.full ≡ count.frames → (counted count b).malformed + (counted count b).sent + (counted count b).full ≡ count.frames + 1
counted_sums count true h = omega arith
counted_sums count false h = omega arith

within_none : (b c : Bool) → c ≡ false → ◌≡◌ {A = ℕ} (if b && c then 1 else 0) 0
within_none true c e = rw e refl
within_none false c e = refl

-- Holds if departures before a frame changed only the queue, the link and the sink.
pub record HasGone {A : Type 0} (old mid : EgressState (Vec ℕ A)) (now after : Option (List ℕ)) : Type 0 where
  pub list : mid.list ≡ old.list
  pub speed : mid.speed ≡ old.speed
  pub rooms : mid.rooms ≡ old.rooms
  pub offered : mid.offered ≡ old.offered
  pub within : count_queued is_overlong mid ≡ 0
  pub goes : (offers : List Offer) (sent full : ℕ) (left : List CapturedFrame) → HasSent old offers sent full left → (gone : List CapturedFrame) × HasSent mid offers sent full (left ++ gone) × Appends now after (flat_map written_frame gone)

-- Adds a frame without a header.
pub running_malformed : {A : Type 0} (speed : Speed) (room : ℕ) (frames : List CapturedFrame) (old mid : EgressState (Vec ℕ A)) (count : WireCount) (began now after : Option (List ℕ)) (c : CapturedFrame) → is_well_formed c ≡ false → mid.earliest ≤ c.time → HasNoStartEarlier mid c.time → HasGone old mid now after → IsRunning speed room frames old count began now → IsRunning speed room (frames ++ c ∷ []) mid (record count { frames = count.frames + 1; malformed = count.malformed + 1 }) began after
running_malformed {A} speed room frames old mid count began now after c e later calm gone r =
    let none : not (is_well_formed c) ≡ true = ap not e in
    let more = count_push (λ d. not (is_well_formed d)) frames c in
    let one : count_by (λ d. not (is_well_formed d)) (frames ++ c ∷ []) ≡ count_by (λ d. not (is_well_formed d)) frames + 1 = more ∙ ap (λ b. count_by (λ d. not (is_well_formed d)) frames + (if b then 1 else 0)) none in
    let g = gone.goes (frame_offers frames) count.sent count.full r.left r.sends in
    let last = sym (last_time_push 0 frames c) in
    record {
      left = r.left ++ g.0;
      queue = record { list = gone.list ∙ r.queue.list; pace = gone.speed ∙ r.queue.pace; places = ap (λ l. slice_index_or l 0 0) gone.rooms ∙ r.queue.places; within = gone.within };
      sends = subst (λ o. HasSent mid o count.sent count.full (r.left ++ g.0)) (sym (offers_same frames c e)) g.1;
      writes = subst (Appends began after) (sym (written_more r.left g.0)) (Appends-trans began now after (written_text r.left) (flat_map written_frame g.0) r.writes g.2);
      all = ap (λ n. n + 1) r.all ∙ sym (one_longer frames c);
      malformed = ap (λ n. n + 1) r.malformed ∙ sym one;
      sums = let z = r.sums in omega arith;
      waits = subst (λ (t : ℕ). mid.earliest ≤ t) last later;
      calm = subst (λ (t : ℕ). HasNoStartEarlier mid t) last calm;
      few = let z = r.few in let y = gone.offered in omega arith;
    }

-- Holds if the offer of a frame moved the port.
pub record HasOffered {A : Type 0} (mid new : EgressState (Vec ℕ A)) (t : ℕ) (x : Item (Vec ℕ A)) : Type 0 where
  pub moved : new ≡ offered_state mid t 0 x
  pub stands : (xs : List (Copy (Item (Vec ℕ A)))) → StandsFor mid xs → StandsFor new (offered_copy mid t 0 x ∷ xs)
  pub counts : (f : Item (Vec ℕ A) → Bool) → count_queued f new ≡ (if is_none (offer_refusal mid 0 x) && f x then 1 else 0) + count_queued f mid

-- Adds a frame that was offered.
pub running_offered : {A : Type 0} (speed : Speed) (room : ℕ) (frames : List CapturedFrame) (old mid new : EgressState (Vec ℕ A)) (count : WireCount) (began now after : Option (List ℕ)) (c : CapturedFrame) (x : Item (Vec ℕ A)) → is_well_formed c ≡ true → item_frame x ≡ record { len = c.len; octets = c.octets } → is_overlong x ≡ false → HasGone old mid now after → HasOffered mid new c.time x → IsRunning speed room frames old count began now → IsRunning speed room (frames ++ c ∷ []) new (counted count (is_none (offer_refusal mid 0 x))) began after
running_offered {A} speed room frames old mid new count began now after c x e same short gone given r =
    let g = gone.goes (frame_offers frames) count.sent count.full r.left r.sends in
    let moved = given.moved in
    let P : Offer → Type 0 = λ o. HasSent new (o ∷ frame_offers frames) (counted count (is_none (offer_refusal mid 0 x))).sent (counted count (is_none (offer_refusal mid 0 x))).full (r.left ++ g.0) in
    let o : record { at = c.time; class = 0; frame = item_frame x } ≡ frame_offer c = ap (λ f. record { at = c.time; class = 0; frame = f }) same in
    let sends = subst P o (sends_offer mid new c.time x moved given.stands (frame_offers frames) count.sent count.full (r.left ++ g.0) g.1) in
    record {
      left = r.left ++ g.0;
      queue = record {
        list = ap (λ (p : EgressState (Vec ℕ A)). p.list) moved ∙ (gone.list ∙ r.queue.list);
        pace = ap (λ (p : EgressState (Vec ℕ A)). p.speed) moved ∙ (gone.speed ∙ r.queue.pace);
        places = ap (λ (p : EgressState (Vec ℕ A)). slice_index_or p.rooms 0 0) moved ∙ (ap (λ l. slice_index_or l 0 0) gone.rooms ∙ r.queue.places);
        within = given.counts is_overlong ∙ (ap (λ n. n + count_queued is_overlong mid) (within_none (is_none (offer_refusal mid 0 x)) (is_overlong x) short) ∙ (zero-add (count_queued is_overlong mid) ∙ gone.within));
      };
      sends = subst (λ l. HasSent new l (counted count (is_none (offer_refusal mid 0 x))).sent (counted count (is_none (offer_refusal mid 0 x))).full (r.left ++ g.0)) (sym (offers_push frames c e)) sends;
      writes = subst (Appends began after) (sym (written_more r.left g.0)) (Appends-trans began now after (written_text r.left) (flat_map written_frame g.0) r.writes g.2);
      all = ap (λ n. n + 1) r.all ∙ sym (one_longer frames c);
      malformed = r.malformed ∙ sym (count_push (λ d. not (is_well_formed d)) frames c ∙ (ap (λ b. count_by (λ d. not (is_well_formed d)) frames + (if not b then 1 else 0)) e ∙ add-zero _));
      sums = counted_sums count (is_none (offer_refusal mid 0 x)) r.sums;
      waits = let t : new.earliest ≡ c.time = ap (λ (p : EgressState (Vec ℕ A)). p.earliest) moved in let l = last_time_push 0 frames c in omega arith;
      calm = calm_early new (last_time 0 (frames ++ c ∷ [])) (let t : new.earliest ≡ c.time = ap (λ (p : EgressState (Vec ℕ A)). p.earliest) moved in let l = last_time_push 0 frames c in omega arith);
      few = let t : new.offered ≡ mid.offered + 1 = ap (λ (p : EgressState (Vec ℕ A)). p.offered) moved in let z = r.few in let y = gone.offered in omega arith;
    }

-- Each fault stops the run.
pub continues_err : {A : Type 0} (speed : Speed) (room : ℕ) (frames : List CapturedFrame) (next : CapturedFrame) (p : EgressState (Vec ℕ A)) (count : WireCount) (began now : Option (List ℕ)) (r : Result (Unit {0}) RunFault) → IsErr r → StopsAtSink speed room frames next.time began now → RunsOneMore speed room frames next p count began now r
continues_err speed room frames next p count began now (Ok u) is s = absurd (cc)
continues_err speed room frames next p count began now (Err e) is s = s

-- Counts after each answer.
pub counted_sent : (count : WireCount) → record count { frames = count.frames + 1; sent = count.sent + 1 } ≡ counted count true
counted_sent count =
    let sent : count.sent + 1 ≡ 1 + count.sent = omega arith in
    let full : count.full ≡ 0 + count.full = omega arith in
    ap (λ n. record count { frames = count.frames + 1; sent = n }) sent ∙ ap (λ n. record count { frames = count.frames + 1; sent = 1 + count.sent; full = n }) full

pub counted_full : (count : WireCount) → record count { frames = count.frames + 1; full = count.full + 1 } ≡ counted count false
counted_full count =
    let sent : count.sent ≡ 0 + count.sent = omega arith in
    let full : count.full + 1 ≡ 1 + count.full = omega arith in
    ap (λ n. record count { frames = count.frames + 1; full = n }) full ∙ ap (λ n. record count { frames = count.frames + 1; sent = n; full = 1 + count.full }) sent

-- A captured frame has at most its length in octets.
pub not_overlong : {A : Type 0} (x : Item (Vec ℕ A)) → length x.load.items ≤ x.len → is_overlong x ≡ false
not_overlong x h = le-ltb x.len (length x.load.items) h

after_offer : {X : Type 0} (f : X → Bool) (r : Option Refusal) (qs : List (List X)) (x : X) → 0 < length qs → sum_by (count_by f) (queues_after_offer r qs 0 x) ≡ (if is_none r && f x then 1 else 0) + sum_by (count_by f) qs
after_offer f None qs x l = count_pushed f qs 0 x l
after_offer f (Some r) qs x l = sym (zero-add _)

-- An offer at a time before which no frame can start.
pub offered_to : {A : Type 0} (mid new : EgressState (Vec ℕ A)) (t : ℕ) (x : Item (Vec ℕ A)) → new ≡ offered_state mid t 0 x → 0 < length mid.queues → mid.earliest ≤ t → HasNoStartEarlier mid t → HasOffered mid new t x
offered_to {A} mid new t x moved some later calm = record {
  moved = moved;
  stands = λ xs st. subst (λ (p : EgressState (Vec ℕ A)). StandsFor p (offered_copy mid t 0 x ∷ xs)) (sym moved) (stands_offered mid t 0 x xs some later calm st);
  counts = λ f. ap (count_queued f) moved ∙ after_offer f (offer_refusal mid 0 x) mid.queues x some;
}

-- Frames that have at most their length in octets stay so after an offer.
pub within_offered : (b over : Bool) (new old : ℕ) → new ≡ (if b && over then 1 else 0) + old → over ≡ false → old ≡ 0 → new ≡ 0
within_offered true true new old e f z = absurd (cc)
within_offered true false new old e f z = omega arith
within_offered false over new old e f z = omega arith
