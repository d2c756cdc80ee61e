-- Invariant of a port over offers and starts.
use Rattle.std.proofs.Common.{◌≡◌, ◌≢◌, ℕ, Bool, true, ◌+◌, ◌*◌, ◌^◌, ◌<◌, ◌≤◌, ◌++◌, List, [], ◌∷◌, length, arith, refl, ap, ◌∙◌, sym, subst, Some, None, max, get_or-set_same, get_or-set_other, length-set}
use Rattle.std.proofs.lemmas.Bool.Decides.{nat_tests}
use Rattle.std.proofs.lemmas.List.Sums.{sum_by-set, sum_by_push, sum_by-cons}
use Rattle.std.specs.Prelude.{if◌then◌else◌, nat_le, nat_eq, ◌&&◌, is_none, slice_index_or, slice_set, drop, sum_by, count_by}
use Rattle.std.proofs.lemmas.Option.{none-some}
use Rattle.std.proofs.lemmas.Bool.{leb-false}
use Rattle.bridge_limits.specs.declared.TheConstants.{END_OF_TIME, LONGEST_FRAME, MAX_ARRIVALS}
use Rattle.bridge_limits.proofs.Cases.{by_bool}
use Rattle.bridge_frame.specs.declared.Speed.{Speed}
use Rattle.bridge_frame.specs.Link.{transmission_time}
use Rattle.bridge_port.specs.declared.item.Item.{Item}
use Rattle.bridge_port.specs.declared.item.Refusal.TheVariants as refusal
use Rattle.bridge_port.specs.StandsFor.{EgressState, class_queue, offer_refusal, AreStartable, IsStateSound, IsNextStart, started_state, queues_after_offer, offered_state, offered_copy, count_queued, HasNoStartEarlier, StandsFor, HasStartedOldest}
use Rattle.bridge_port.specs.GateSchedule.{can_fit, GateSchedule}
use Rattle.bridge_port.proofs.Ports.{tail_is, below_length, stands_offered, stands_started, next_one}
use Rattle.bridge_port.specs.Schedule.{Copy}

-- An accepted item can fit, and its queue is below capacity.
pub admitted : {T : Type 0} (p : EgressState T) (c : ℕ) (x : Item T) → offer_refusal p c x ≡ None → (can_fit p.list c (transmission_time x.len p.speed) ≡ true) × (length (class_queue p c) < slice_index_or p.rooms c 0)
admitted p c x h = by_bool (can_fit p.list c (transmission_time x.len p.speed))
    (λ can.
    let z : (if nat_le (slice_index_or p.rooms c 0) (length (class_queue p c)) then Some refusal.Full else None) ≡ None = rw can at h in
    by_bool (nat_le (slice_index_or p.rooms c 0) (length (class_queue p c)))
    (λ full. absurd (none-some refusal.Full (sym (rw full at z))))
    (λ some. (can, leb-false _ _ some)))
    (λ never. absurd (none-some refusal.NeverFits (sym (rw never at h))))

-- Counts the items of a queue with a new last item.
pub count_push : {X : Type 0} (f : X → Bool) (q : List X) (x : X) → count_by f (q ++ x ∷ []) ≡ count_by f q + (if f x then 1 else 0)
count_push f q x = sum_by_push (λ y. if f y then 1 else 0) q x

pub count_cons : {X : Type 0} (f : X → Bool) (x : X) (q : List X) → count_by f (x ∷ q) ≡ (if f x then 1 else 0) + count_by f q
count_cons f x q = sum_by-cons (λ y. if f y then 1 else 0) x q

pub count_pushed : {X : Type 0} (f : X → Bool) (qs : List (List X)) (c : ℕ) (x : X) → c < length qs → sum_by (count_by f) (slice_set qs c (slice_index_or qs c [] ++ x ∷ [])) ≡ (if f x then 1 else 0) + sum_by (count_by f) qs
count_pushed f qs c x l =
    let a = sum_by-set (count_by f) qs c (slice_index_or qs c [] ++ x ∷ []) [] l in
    let b = count_push f (slice_index_or qs c []) x in
    omega (arith, a, b)

pub count_popped : {X : Type 0} (f : X → Bool) (qs : List (List X)) (c : ℕ) (x : X) (rest : List X) → slice_index_or qs c [] ≡ x ∷ rest → sum_by (count_by f) qs ≡ (if f x then 1 else 0) + sum_by (count_by f) (slice_set qs c (drop 1 (slice_index_or qs c [])))
count_popped f qs c x rest e =
    let l = below_length qs c x rest e in
    let a = sum_by-set (count_by f) qs c (drop 1 (slice_index_or qs c [])) [] l in
    let b = ap (count_by f) (tail_is (slice_index_or qs c []) x rest e) in
    let d = ap (count_by f) e in
    let h = count_cons f x rest in
    omega (arith, a, b, d, h)

startable_push : {T : Type 0} (list : GateSchedule) (speed : Speed) (c : ℕ) (q : List (Item T)) (x : Item T) → AreStartable list speed c q → can_fit list c (transmission_time x.len speed) ≡ true → x.len ≤ LONGEST_FRAME → AreStartable list speed c (q ++ x ∷ [])
startable_push list speed c [] x a can len = ((can, len), tt)
startable_push list speed c (y ∷ q) x a can len = (a.0, startable_push list speed c q x a.1 can len)

startable_tail : {T : Type 0} (list : GateSchedule) (speed : Speed) (c : ℕ) (q : List (Item T)) (x : Item T) (rest : List (Item T)) → q ≡ x ∷ rest → AreStartable list speed c q → AreStartable list speed c (drop 1 q)
startable_tail {T} list speed c q x rest e a =
    let b : AreStartable list speed c (x ∷ rest) = subst (AreStartable list speed c) e a in
    subst (AreStartable list speed c) (sym (tail_is q x rest e)) b.1

-- A property of all queues survives if the replaced queue has it.
pub by_class : {X : Type 0} (P : ℕ → List X → Type 0) (qs : List (List X)) (c : ℕ) (v : List X) → c < length qs → P c v → ((d : ℕ) → P d (slice_index_or qs d [])) → (d : ℕ) → P d (slice_index_or (slice_set qs c v) d [])
by_class {X} P qs c v l new old d = by_bool (nat_eq c d)
    (λ e.
    let same : c ≡ d = grind (arith, nat_tests) in
    let Q : ℕ → Type 0 = λ n. P n (slice_index_or (slice_set qs c v) n []) in
    subst Q same (rw get_or-set_same new))
    (λ e.
    let other : d ≢ c = λ z. absurd (let w : nat_eq c d ≡ true = grind (arith, nat_tests) in cc) in
    rw get_or-set_other (old d))

pub kept_offered : {T : Type 0} (p : EgressState T) (t c : ℕ) (x : Item T) → IsStateSound p → c < 8 → offer_refusal p c x ≡ None → x.len ≤ LONGEST_FRAME → t < END_OF_TIME → p.offered < MAX_ARRIVALS → IsStateSound (record p { queues = queues_after_offer None p.queues c x; earliest = t; offered = p.offered + 1 })
kept_offered {T} p t c x k l none len early few =
    let eight : length p.queues ≡ 8 = k.queues in
    let below : c < length p.queues = omega arith in
    let can = admitted p c x none in
    let more = count_pushed (λ (y : Item T). true) p.queues c x below in
    record {
      queues = length-set p.queues c _ ∙ eight;
      rooms = k.rooms;
      startable = by_class (AreStartable p.list p.speed) p.queues c (class_queue p c ++ x ∷ []) below (startable_push p.list p.speed c (class_queue p c) x (k.startable c) can.0 len) k.startable;
      free = k.free;
      earliest = omega arith;
      counted = let z = k.counted in omega (arith, more);
      few = omega arith;
    }

pub kept_refused : {T : Type 0} (p : EgressState T) (t : ℕ) → IsStateSound p → t < END_OF_TIME → p.offered < MAX_ARRIVALS → IsStateSound (record p { earliest = t; offered = p.offered + 1 })
kept_refused p t k early few = record {
  queues = k.queues;
  rooms = k.rooms;
  startable = k.startable;
  free = k.free;
  earliest = omega arith;
  counted = let z = k.counted in omega arith;
  few = omega arith;
}

pub kept_started : {T : Type 0} (p : EgressState T) (k c : ℕ) (x : Item T) → IsStateSound p → IsNextStart p k c x → k ≤ max p.free p.earliest + 2 * 10 ^ 9 → transmission_time x.len p.speed ≤ 10 ^ 9 → IsStateSound (started_state p k c x)
kept_started {T} p k c x kept n soon short =
    let below = below_length p.queues c x n.rest n.is_head in
    let fewer = count_popped (λ (y : Item T). true) p.queues c x n.rest n.is_head in
    let f = kept.free in
    let e = kept.earliest in
    record {
      queues = length-set p.queues c _ ∙ kept.queues;
      rooms = kept.rooms;
      startable = by_class (AreStartable p.list p.speed) p.queues c (drop 1 (class_queue p c)) below (startable_tail p.list p.speed c (class_queue p c) x n.rest n.is_head (kept.startable c)) kept.startable;
      free = omega arith;
      earliest = omega arith;
      counted = let z = kept.counted in omega (arith, fewer);
      few = kept.few;
    }

-- The times of a port stay below 5 * 10^18 ns.
pub bounded : {T : Type 0} (p : EgressState T) → IsStateSound p → max p.free p.earliest < 5 * 10 ^ 18
bounded p k =
    let a = k.free in
    let b = k.earliest in
    let c = k.counted in
    let d = k.few in
    omega arith

-- Consequences of an offer or a start.

pub offered_stands : {T : Type 0} (old new : EgressState T) (t c : ℕ) (x : Item T) → IsStateSound old → new ≡ offered_state old t c x → c < 8 → old.earliest ≤ t → HasNoStartEarlier old t → (xs : List (Copy (Item T))) → StandsFor old xs → StandsFor new (offered_copy old t c x ∷ xs)
offered_stands old new t c x kept moved l le calm xs st = let z = kept.queues in subst (λ (p : EgressState _). StandsFor p (offered_copy old t c x ∷ xs)) (sym moved) (stands_offered old t c x xs (omega arith) le calm st)

pub offered_counts : {T : Type 0} (old new : EgressState T) (t c : ℕ) (x : Item T) → IsStateSound old → new ≡ offered_state old t c x → offer_refusal old c x ≡ None → c < 8 → (f : Item T → Bool) → count_queued f new ≡ (if is_none (offer_refusal old c x) && f x then 1 else 0) + count_queued f old
offered_counts {T} old new t c x kept moved none l f =
    let z = kept.queues in
    let below : c < length old.queues = omega arith in
    let same : queues_after_offer (offer_refusal old c x) old.queues c x ≡ slice_set old.queues c (class_queue old c ++ x ∷ []) = rw none refl in
    rw (moved, same, none) (count_pushed f old.queues c x below)

pub started_stands : {T : Type 0} (old new : EgressState T) (k c : ℕ) (x : Item T) → IsNextStart old k c x → new ≡ started_state old k c x → (xs : List (Copy (Item T))) → StandsFor old xs → HasStartedOldest new c k x xs
started_stands old new k c x next moved xs st = subst (λ (p : EgressState _). HasStartedOldest p c k x xs) (sym moved) (stands_started old k c x xs next st)

pub started_counts : {T : Type 0} (old new : EgressState T) (k c : ℕ) (x : Item T) → IsNextStart old k c x → new ≡ started_state old k c x → (f : Item T → Bool) → count_queued f old ≡ (if f x then 1 else 0) + count_queued f new
started_counts old new k c x next moved f = rw moved (count_popped f old.queues c x next.rest next.is_head)

pub started_which : {T : Type 0} (old new : EgressState T) (k c : ℕ) (x : Item T) → IsNextStart old k c x → new ≡ started_state old k c x → (l d : ℕ) (y : Item T) → IsNextStart old l d y → (new.earliest ≡ l + 1) × (c ≡ d) × (x ≡ y)
started_which {T} old new k c x next moved l d y n =
    let one = next_one old k c x l d y next n in
    (ap (λ (p : EgressState T). p.earliest) moved ∙ ap (λ m. m + 1) one.0, one.1, one.2)

-- The head that starts next is at most as long as the longest frame.
pub next_short : {T : Type 0} (p : EgressState T) (k c : ℕ) (x : Item T) → IsStateSound p → IsNextStart p k c x → x.len ≤ LONGEST_FRAME
next_short {T} p k c x kept next =
    let all : AreStartable p.list p.speed c (x ∷ next.rest) = subst (AreStartable p.list p.speed c) next.is_head (kept.startable c) in
    all.0.1
