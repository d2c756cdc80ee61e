-- Port with one open queue: its next start, and its state after an offer or a start.
use Rattle.std.proofs.Common.{◌≡◌, ℕ, zero, suc, ◌+◌, ◌-◌, ◌<◌, ◌≤◌, List, [], ◌∷◌, ◌++◌, length, drop, Some, Option, refl, sym, ◌∙◌, subst, arith, All, max, replicate}
use Rattle.std.specs.Prelude.{None, false, nat_le, slice_get, slice_index_or}
use Rattle.std.proofs.lemmas.Bool.Decides.{nat_tests}
use Rattle.std.proofs.lemmas.List.Elements.{All-append, All-drop}
use Rattle.bridge_frame.specs.declared.Speed.{Speed}
use Rattle.bridge_port.specs.declared.item.Item.{Item}
use Rattle.bridge_port.specs.StandsFor.{IsNextStart, offer_refusal, offered_state}
use Rattle.std.specs.Prelude.{Vec}
use Rattle.bridge_limits.specs.declared.TheConstants.{END_OF_TIME, LONGEST_FRAME, MAX_CAPTURED_OCTETS}
use Rattle.bridge_capture.specs.Grammar.{CapturedFrame}
use Rattle.bridge_capture.specs.StandsFor.{CaptureState, HasReadFrames, IsReading}
use Rattle.bridge_capture.specs.StandsFor.{StandsFor as StandsForFrames}
use Rattle.bridge_capture.specs.CaptureReaders.{FindsNext, IsOneAhead, IsFrameAhead, IsReader, frame_ahead}
use Rattle.bridge_capture.specs.declared.capture_reader.CaptureReader.{CaptureReader}
use Rattle.bridge_capture.specs.declared.packet.Packet.{Packet}
use Rattle.bridge_wire.specs.declared.open_queue.OpenQueue.{OpenQueue}
use Rattle.bridge_wire.specs.OpenQueues.{arrived_frame, packet_ahead, place_ahead, queue_reader}
use Rattle.bridge_wire.specs.Rings.{one_queue_state}
use Rattle.bridge_wire.proofs.Rings.{stored_some}

none_in_others : {X : Type 0} (n d : ℕ) → slice_index_or (replicate {A = List X} n []) d [] ≡ []
none_in_others zero d = refl
none_in_others (suc n) zero = refl
none_in_others (suc n) (suc d) = none_in_others n d

only_first : {X : Type 0} (items : List X) (d : ℕ) (y : X) (others : List X) → slice_index_or (items ∷ replicate 7 []) d [] ≡ y ∷ others → d ≤ 0
only_first items zero y others e = omega arith
only_first {X} items (suc d) y others e = absurd (let z : [] ≡ y ∷ others = sym (none_in_others 7 d) ∙ e in cc)

-- The oldest item starts as soon as the link is free and the next offer may arrive.
starts_oldest : {T : Type 0} (speed : Speed) (room : ℕ) (x : Item T) (rest : List (Item T)) (free earliest offered started : ℕ) → IsNextStart (one_queue_state speed room (x ∷ rest) free earliest offered started) (max free earliest) 0 x
starts_oldest speed room x rest free earliest offered started = record {
  rest = rest;
  is_head = refl;
  after = omega arith;
  free = omega arith;
  fits = λ u a b. refl;
  least = λ c y others e u a b l f. absurd (omega arith);
  highest = λ d y others e f. only_first (x ∷ rest) d y others e;
}

-- A queue that isn't empty starts its oldest item next.
pub starts_item : {T : Type 0} (speed : Speed) (room : ℕ) (items : List (Item T)) (free earliest offered started : ℕ) (x : Item T) → slice_get items 0 ≡ Some x → IsNextStart (one_queue_state speed room items free earliest offered started) (max free earliest) 0 x
starts_item speed room [] free earliest offered started x e = absurd (let w = e in cc)
starts_item {T} speed room (y ∷ rest) free earliest offered started x e =
    let same : y ≡ x = (let w = e in cc) in
    subst (λ (z : Item T). IsNextStart (one_queue_state speed room (y ∷ rest) free earliest offered started) (max free earliest) 0 z) same (starts_oldest speed room y rest free earliest offered started)

pub has_next : {T : Type 0} (speed : Speed) (room : ℕ) (items : List (Item T)) (free earliest offered started : ℕ) → 0 < length items → (c : ℕ) × (x : Item T) × IsNextStart (one_queue_state speed room items free earliest offered started) (max free earliest) c x
has_next speed room [] free earliest offered started l = absurd (omega arith)
has_next speed room (x ∷ rest) free earliest offered started l = (0, x, starts_oldest speed room x rest free earliest offered started)

-- The oldest item obeys what all queued items obey.
pub oldest_of_all : {X : Type 0} (P : X → Type 0) (items : List X) (x : X) → slice_get items 0 ≡ Some x → All P items → P x
oldest_of_all {X} P [] x e all = absurd (let w = e in cc)
oldest_of_all {X} P (y ∷ rest) x e all = let same : y ≡ x = (let w = e in cc) in subst P same (all 0 x (omega arith))

pub some_same : {X : Type 0} (x y : X) → Some x ≡ Some y → x ≡ y
some_same x y e = cc

-- A record read into the place ahead is the frame ahead.
pub place_read : {A : Type 0} (capture : CaptureState) (time : ℕ) (place : Option (Item (Vec ℕ A))) (x : Item (Vec ℕ A)) (remaining : Option (List ℕ)) (text : List ℕ) (taken : List CapturedFrame) → place ≡ Some x → StandsForFrames capture remaining text (taken ++ arrived_frame time x ∷ []) → HasReadFrames text (taken ++ arrived_frame time x ∷ []) → IsOneAhead (record { number = 1; capture = capture; ahead = packet_ahead (Some time) place }) remaining text taken
place_read {A} capture time place x remaining text taken e stands finds =
    let P : Option (Item (Vec ℕ A)) → Type 0 = λ p. IsOneAhead (record { number = 1; capture = capture; ahead = packet_ahead (Some time) p }) remaining text taken in
    subst P (sym e) (record { stands = stands; finds = finds })

pub place_sound : {A : Type 0} (capture : CaptureState) (time : ℕ) (place : Option (Item (Vec ℕ A))) (x : Item (Vec ℕ A)) → place ≡ Some x → IsReading capture → capture.latest ≡ time → time < END_OF_TIME → length x.load.items ≤ MAX_CAPTURED_OCTETS → length x.load.items ≤ x.len → IsReader (record { number = 1; capture = capture; ahead = packet_ahead (Some time) place })
place_sound {A} capture time place x e reading latest early small within =
    let P : Option (Item (Vec ℕ A)) → Type 0 = λ p. IsReader (record { number = 1; capture = capture; ahead = packet_ahead (Some time) p }) in
    subst P (sym e) (λ p same. subst (λ z. IsFrameAhead (record { number = 1; capture = capture; ahead = packet_ahead (Some time) (Some x) }) z) (some_same _ _ same) (record { reading = reading; latest = latest; early = early; small = small; within = within }))

-- A short frame more, or the oldest one less: all queued frames stay short.
one_short : {T : Type 0} (x : Item T) → x.len ≤ LONGEST_FRAME → All (λ (y : Item T). y.len ≤ LONGEST_FRAME) (x ∷ [])
one_short x p zero d l = p
one_short x p (suc k) d l = absurd (let more : length (x ∷ []) ≡ 1 = refl in omega arith)

pub short_more : {T : Type 0} (items more : List (Item T)) (x : Item T) → more ≡ items ++ x ∷ [] → All (λ (y : Item T). y.len ≤ LONGEST_FRAME) items → x.len ≤ LONGEST_FRAME → All (λ (y : Item T). y.len ≤ LONGEST_FRAME) more
short_more {T} items more x e all l = subst (All (λ (y : Item T). y.len ≤ LONGEST_FRAME)) (sym e) (All-append (λ (y : Item T). y.len ≤ LONGEST_FRAME) items (x ∷ []) all (one_short x l))

pub short_after : {T : Type 0} (items rest : List (Item T)) → rest ≡ drop 1 items → All (λ (y : Item T). y.len ≤ LONGEST_FRAME) items → All (λ (y : Item T). y.len ≤ LONGEST_FRAME) rest
short_after {T} items rest e all = subst (All (λ (y : Item T). y.len ≤ LONGEST_FRAME)) (sym e) (All-drop (λ (y : Item T). y.len ≤ LONGEST_FRAME) 1 items all)

-- If a place besides the place ahead is free, the item is queued.
accepts : {T : Type 0} (speed : Speed) (places : ℕ) (items : List (Item T)) (free earliest offered started : ℕ) (x : Item T) → length items + 1 < places → offer_refusal (one_queue_state speed (places - 1) items free earliest offered started) 0 x ≡ None
accepts speed places items free earliest offered started x l = let z : nat_le (places - 1) (length items) ≡ false = grind (arith, nat_tests) in rw z refl

pub moved_in : {T : Type 0} (speed : Speed) (places : ℕ) (items more : List (Item T)) (free earliest offered started t : ℕ) (x : Item T) → more ≡ items ++ x ∷ [] → length items + 1 < places → one_queue_state speed (places - 1) more free t (offered + 1) started ≡ offered_state (one_queue_state speed (places - 1) items free earliest offered started) t 0 x
moved_in speed places items more free earliest offered started t x e l = rw (e, accepts speed places items free earliest offered started x l) refl

-- The place ahead has a frame, which is the frame ahead if it has an arrival time.
pub place_some : {A : Type 0} (q : OpenQueue A) → (x : Item (Vec ℕ A)) × (place_ahead q ≡ Some x)
place_some q = stored_some q.places.items q.tail (subst (λ n. q.tail < n) q.places.ok.0 q.ring.to)

pub ahead_of : {A : Type 0} (next : Option ℕ) (place : Option (Item (Vec ℕ A))) (time : ℕ) (x : Item (Vec ℕ A)) → next ≡ Some time → place ≡ Some x → packet_ahead next place ≡ Some (record { time = time; len = x.len; octets = x.load })
ahead_of next place time x e f = rw (e, f) refl

-- The first frame of a reader is the frame ahead of the queue.
pub begins_ahead : {A : Type 0} (lane : CaptureReader A) (next : Option ℕ) (q : OpenQueue A) (remaining : Option (List ℕ)) (text : List ℕ) → packet_ahead next (place_ahead q) ≡ lane.ahead → IsOneAhead lane remaining text [] → IsOneAhead (queue_reader lane.capture next q) remaining text []
begins_ahead {A} lane next q remaining text e begun = record {
  stands = subst (λ (a : Option (Packet A)). StandsForFrames lane.capture remaining text ([] ++ frame_ahead a)) (sym e) begun.stands;
  finds = subst (λ (a : Option (Packet A)). FindsNext text [] a) (sym e) begun.finds;
}
