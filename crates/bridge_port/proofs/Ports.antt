-- Effect of offers and starts on the schedule of a port.
use Rattle.std.proofs.Common.{◌≡◌, ◌≢◌, ℕ, Bool, true, false, ◌+◌, ◌<◌, ◌≤◌, ◌++◌, List, [], ◌∷◌, length, arith, refl, ap, ◌∙◌, sym, subst, inl, inr, Option, Some, None, suc, zero, max, append-nil, length-append, get_or-set_same, get_or-set_other}
use Rattle.std.proofs.lemmas.Bool.Decides.{nat_tests}
use Rattle.std.proofs.lemmas.Bool.{cases_order, leb-true, leb-false}
use Rattle.std.specs.Prelude.{if◌then◌else◌, nat_le, nat_lt, nat_eq, not, ◌&&◌, slice_index_or, slice_set, drop}
use Rattle.std.proofs.lemmas.Grind.{common_steps}
use Rattle.std.proofs.lemmas.Option.{same_Some, none-some}
use Rattle.std.proofs.Math.Bool.{and-false}
use Rattle.bridge_limits.proofs.Cases.{by_bool}
use Rattle.bridge_limits.proofs.Lists.{heads, tails}
use Rattle.bridge_frame.specs.Link.{transmission_time}
use Rattle.bridge_cycle.specs.Fits.{Fits}
use Rattle.bridge_port.specs.declared.item.Item.{Item}
use Rattle.bridge_port.specs.GateSchedule.{can_fit, opens}
use Rattle.bridge_port.specs.declared.item.Refusal.{Refusal}
use Rattle.bridge_port.specs.declared.item.Refusal.TheVariants as refusal
use Rattle.bridge_port.specs.Schedule.{Fate, Never, Full, Queued, Started, Copy, PortRules, is_waiting, is_on_link, count_waiting, is_link_free, queue_head, IsAnswer, AreLawfulStarts, IsLawful, time_after_start, count_started, is_queued, is_started, earliest_offer, queued_items, StartsOldest, here, there}
use Rattle.bridge_port.specs.Solo.{IsFinished}
use Rattle.bridge_port.specs.StandsFor.{EgressState, state_rules, class_queue, StandsFor, HasNoStartEarlier, IsNextStart, HasStartedOldest, IsIdle, offer_refusal, refusal_fate, queues_after_offer, offered_state, offered_copy, started_state}
use Rattle.bridge_port.proofs.Laws.{IsUnstarted, Idle, lawful_later, lawful_offer, free_new, offered_later}
use Rattle.bridge_port.proofs.Starts.{front, there_no, started_of, IsStarted, lawful_start, queue_begun, queue_other}

pub nil_cons : {A : Type 0} (a : A) (xs : List A) → [] ≡ a ∷ xs → ⊥
nil_cons a xs h = cc

-- Up to time `t`, no start is due.
pub idle_to : {T : Type 0} (p : EgressState T) (xs : List (Copy (Item T))) (t : ℕ) → StandsFor p xs → HasNoStartEarlier p t → Idle (state_rules p) p.earliest t xs
idle_to p xs t st calm u h below free c q is fits = elim (front (state_rules p) c 0 p.earliest u xs h st.lawful.starts (offered_later p.earliest u xs h st.lawful.offers)) [
  | inl b ↦ none-some q (sym b.no_head ∙ is)
  | inr f ↦
      let e = same_Some _ _ (sym f.is_head ∙ is) in
      let fits2 : Fits (opens p.list c) (transmission_time f.item.len p.speed) u = rw (ap (λ (z : ℕ × _). transmission_time z.1.len p.speed) e) fits in
      calm c f.item (queued_items c f.after) (sym (st.queues c) ∙ queue_begun c 0 f.place f.item xs f.after f.begun) u h (leb-true _ _ (sym (st.link u h) ∙ free)) below fits2
]

-- The schedule is lawful up to each time before which no start is due.
pub up_to : {T : Type 0} (p : EgressState T) (xs : List (Copy (Item T))) (t : ℕ) → StandsFor p xs → p.earliest ≤ t → HasNoStartEarlier p t → IsLawful (state_rules p) t xs
up_to p xs t st l calm = lawful_later (state_rules p) p.earliest t xs l st.lawful (idle_to p xs t st calm)

-- Offers.

one_more : {X : Type 0} (x : X) (xs : List X) (n : ℕ) → n ≡ length xs → n + 1 ≡ length (x ∷ xs)
one_more x xs n h = grind arith

none_started_by : (f : Fate) (n : ℕ) → IsUnstarted f → (if is_started f then 1 else 0) + n ≡ n
none_started_by Never n h = omega arith
none_started_by Full n h = omega arith
none_started_by Queued n h = omega arith
none_started_by (Started s) n h = absurd h

none_started : {X : Type 0} (x : Copy X) (xs : List (Copy X)) → IsUnstarted x.fate → count_started (x ∷ xs) ≡ count_started xs
none_started x xs new = none_started_by x.fate (count_started xs) new

none_behind : (f : Fate) → IsUnstarted f → time_after_start f ≡ 0
none_behind Never h = refl
none_behind Full h = refl
none_behind Queued h = refl
none_behind (Started s) h = absurd h

offered_last : {X : Type 0} (x : Copy X) (xs : List (Copy X)) → IsUnstarted x.fate → earliest_offer xs ≤ x.at → x.at ≡ earliest_offer (x ∷ xs)
offered_last x xs new le = let z = none_behind x.fate new in omega (arith, z)

stands_offer : {T : Type 0} (p : EgressState T) (qs : List (List (Item T))) (n : ℕ) (xs : List (Copy (Item T))) (x : Copy (Item T)) → StandsFor p xs → p.earliest ≤ x.at → HasNoStartEarlier p x.at → IsUnstarted x.fate → IsAnswer (state_rules p) x xs x.fate → n ≡ p.offered + 1 → ((c : ℕ) → slice_index_or qs c [] ≡ class_queue p c ++ (if nat_eq x.class c && is_queued x.fate then x.item ∷ [] else [])) → StandsFor (record p { queues = qs; earliest = x.at; offered = n }) (x ∷ xs)
stands_offer p qs n xs x st le calm new answer more q =
    record {
      lawful = lawful_offer (state_rules p) x.at x xs refl new answer (up_to p xs x.at st le calm);
      queues = λ c. rw (st.queues c) (sym (q c));
      link = λ u h. free_new (state_rules p) u x xs new ∙ st.link u (omega arith);
      offered = more ∙ one_more x xs p.offered st.offered;
      started = st.started ∙ sym (none_started x xs new);
      earliest = offered_last x xs new (let z = st.earliest in omega arith);
    }

-- The number of waiting copies is the number of queued copies.
there_is : (h u : ℕ) (f : Fate) → h ≤ u → IsStarted h f → is_waiting u f ≡ is_queued f
there_is h u Never l k = refl
there_is h u Full l k = refl
there_is h u Queued l k = refl
there_is h u (Started t) l k = there_no h u (Started t) l k refl

counted : {X : Type 0} (b : Bool) (x : X) (xs : List X) → (if b then 1 else 0) + length xs ≡ length (xs ++ (if b then x ∷ [] else []))
counted true x xs = grind (arith, length-append)
counted false x xs = grind (arith, length-append)

pub waiting_is : {X : Type 0} (r : PortRules X) (h t c : ℕ) (xs : List (Copy X)) → h ≤ t → AreLawfulStarts r h xs → count_waiting c t xs ≡ length (queued_items c xs)
waiting_is r h t c [] l s = refl
waiting_is r h t c (x ∷ xs) l s = rw (there_is h t x.fate l (started_of r h x x.fate s.0), waiting_is r h t c xs l s.1) (counted (nat_eq x.class c && is_queued x.fate) x.item (queued_items c xs))

waits : {T : Type 0} (p : EgressState T) (xs : List (Copy (Item T))) (c t : ℕ) → StandsFor p xs → p.earliest ≤ t → count_waiting c t xs ≡ length (class_queue p c)
waits p xs c t st h = waiting_is (state_rules p) p.earliest t c xs h st.lawful.starts ∙ ap length (st.queues c)

not_pushed : {X : Type 0} (b : Bool) (x : X) (q : List X) → q ≡ q ++ (if b && false then x ∷ [] else [])
not_pushed b x q = rw (and-false b) (sym (append-nil q))

pushed : {X : Type 0} (qs : List (List X)) (c : ℕ) (x : X) (d : ℕ) → c < length qs → slice_index_or (slice_set qs c (slice_index_or qs c [] ++ x ∷ [])) d [] ≡ slice_index_or qs d [] ++ (if nat_eq c d && true then x ∷ [] else [])
pushed {X} qs c x d l = by_bool (nat_eq c d)
    (λ e.
    let same : c ≡ d = grind (arith, nat_tests) in
    let P : ℕ → Type 0 = λ n. slice_index_or (slice_set qs c (slice_index_or qs c [] ++ x ∷ [])) n [] ≡ slice_index_or qs n [] ++ (if nat_eq c n && true then x ∷ [] else []) in
    let eq : nat_eq c c ≡ true = grind (arith, nat_tests) in
    subst P same (rw (get_or-set_same, eq) refl))
    (λ e.
    let other : d ≢ c = λ z. absurd (let w : nat_eq c d ≡ true = grind (arith, nat_tests) in cc) in
    rw (get_or-set_other, e) (sym (append-nil (slice_index_or qs d []))))

offered_by : {T : Type 0} (p : EgressState T) (xs : List (Copy (Item T))) (t c : ℕ) (x : Item T) (o : Option Refusal) → offer_refusal p c x ≡ o → c < length p.queues → p.earliest ≤ t → HasNoStartEarlier p t → StandsFor p xs → StandsFor (record p { queues = queues_after_offer o p.queues c x; earliest = t; offered = p.offered + 1 }) (record { at = t; class = c; item = x; fate = refusal_fate o } ∷ xs)
offered_by {T} p xs t c x o e l le calm st = by_bool (can_fit p.list c (transmission_time x.len p.speed))
    (λ can.
    let z : (if nat_le (slice_index_or p.rooms c 0) (length (class_queue p c)) then Some refusal.Full else None) ≡ o = rw can at e in
    by_bool (nat_le (slice_index_or p.rooms c 0) (length (class_queue p c)))
    (λ full.
    let is : Some refusal.Full ≡ o = rw full at z in
    let copy : Copy (Item T) = record { at = t; class = c; item = x; fate = Full } in
    let room : slice_index_or p.rooms c 0 ≤ length (class_queue p c) = leb-true _ _ full in
    let P : Option Refusal → Type 0 = λ o. StandsFor (record p { queues = queues_after_offer o p.queues c x; earliest = t; offered = p.offered + 1 }) (record { at = t; class = c; item = x; fate = refusal_fate o } ∷ xs) in
    subst P is (stands_offer p p.queues (p.offered + 1) xs copy st le calm tt (can, rw (waits p xs c t st le) room) refl (λ n. not_pushed (nat_eq c n) x (class_queue p n))))
    (λ some.
    let is : None ≡ o = rw some at z in
    let copy : Copy (Item T) = record { at = t; class = c; item = x; fate = Queued } in
    let room : length (class_queue p c) < slice_index_or p.rooms c 0 = leb-false _ _ some in
    let P : Option Refusal → Type 0 = λ o. StandsFor (record p { queues = queues_after_offer o p.queues c x; earliest = t; offered = p.offered + 1 }) (record { at = t; class = c; item = x; fate = refusal_fate o } ∷ xs) in
    subst P is (stands_offer p (queues_after_offer None p.queues c x) (p.offered + 1) xs copy st le calm tt (can, rw (waits p xs c t st le) room) refl (λ n. pushed p.queues c x n l))))
    (λ never.
    let is : Some refusal.NeverFits ≡ o = rw never at e in
    let copy : Copy (Item T) = record { at = t; class = c; item = x; fate = Never } in
    let P : Option Refusal → Type 0 = λ o. StandsFor (record p { queues = queues_after_offer o p.queues c x; earliest = t; offered = p.offered + 1 }) (record { at = t; class = c; item = x; fate = refusal_fate o } ∷ xs) in
    subst P is (stands_offer p p.queues (p.offered + 1) xs copy st le calm tt never refl (λ n. not_pushed (nat_eq c n) x (class_queue p n))))

pub stands_offered : {T : Type 0} (p : EgressState T) (t c : ℕ) (x : Item T) (xs : List (Copy (Item T))) → c < length p.queues → p.earliest ≤ t → HasNoStartEarlier p t → StandsFor p xs → StandsFor (offered_state p t c x) (offered_copy p t c x ∷ xs)
stands_offered p t c x xs l le calm st = offered_by p xs t c x (offer_refusal p c x) refl l le calm st

-- Starts.

and_swap : (a b d : Bool) → a && (b && d) ≡ b && (a && d)
and_swap true true d = refl
and_swap true false d = refl
and_swap false true d = refl
and_swap false false d = refl

free_begun : {X : Type 0} (r : PortRules X) (c s u i : ℕ) (item : X) (xs ys : List (Copy X)) → StartsOldest c s i item xs ys → is_link_free r u ys ≡ not (nat_lt s u && nat_lt u (s + r.occ item)) && is_link_free r u xs
free_begun r c s u i0 item0 xs0 ys0 (here t item xs n) = refl
free_begun r c s u i item xs0 ys0 (there x {xs = vs} {ys = ws} b) = rw (free_begun r c s u i item vs ws b) (and_swap (not (is_on_link u (r.occ x.item) x.fate)) (not (nat_lt s u && nat_lt u (s + r.occ item))) (is_link_free r u vs))

ended : (k u n : ℕ) → k < u → not (nat_lt k u && nat_lt u (k + n)) && true ≡ nat_le (k + n) u
ended k u n h =
    let a : nat_lt k u ≡ true = grind (arith, nat_tests) in
    rw a (by_bool (nat_lt u (k + n)) (λ e. let b : nat_le (k + n) u ≡ false = grind (arith, nat_tests) in rw (e, b) refl) (λ e. let b : nat_le (k + n) u ≡ true = grind (arith, nat_tests) in rw (e, b) refl))

pub below_length : {X : Type 0} (qs : List (List X)) (c : ℕ) (x : X) (rest : List X) → slice_index_or qs c [] ≡ x ∷ rest → c < length qs
below_length [] c x rest h = absurd (nil_cons x rest h)
below_length (q ∷ qs) zero x rest h = omega arith
below_length (q ∷ qs) (suc c) x rest h = let z = below_length qs c x rest h in let e : length (q ∷ qs) ≡ length qs + 1 = grind arith in omega arith

pub tail_is : {X : Type 0} (q : List X) (x : X) (rest : List X) → q ≡ x ∷ rest → drop 1 q ≡ rest
tail_is [] x rest h = absurd (nil_cons x rest h)
tail_is (y ∷ q) x rest h = let d : drop 1 (y ∷ q) ≡ q = grind (arith, common_steps) in d ∙ tails _ _ _ _ h

popped_same : {X : Type 0} (qs : List (List X)) (c : ℕ) (x : X) (rest : List X) → slice_index_or qs c [] ≡ x ∷ rest → slice_index_or (slice_set qs c (drop 1 (slice_index_or qs c []))) c [] ≡ rest
popped_same qs c x rest h = let l : c < length qs = below_length qs c x rest h in rw get_or-set_same (tail_is (slice_index_or qs c []) x rest h)

popped_other : {X : Type 0} (qs : List (List X)) (c d : ℕ) (v : List X) → nat_eq c d ≡ false → slice_index_or (slice_set qs c v) d [] ≡ slice_index_or qs d []
popped_other qs c d v e =
    let other : d ≢ c = λ z. absurd (let w : nat_eq c d ≡ true = grind (arith, nat_tests) in cc) in
    rw get_or-set_other refl

begun_length : {X : Type 0} (c s i : ℕ) (item : X) (xs ys : List (Copy X)) → StartsOldest c s i item xs ys → length ys ≡ length xs
begun_length c s i0 item0 xs0 ys0 (here t item xs n) = refl
begun_length c s i item xs0 ys0 (there x {xs = vs} {ys = ws} b) = ap suc (begun_length c s i item vs ws b)

begun_more : {X : Type 0} (c s i : ℕ) (item : X) (xs ys : List (Copy X)) → StartsOldest c s i item xs ys → count_started ys ≡ count_started xs + 1
begun_more c s i0 item0 xs0 ys0 (here t item xs n) = omega arith
begun_more c s i item xs0 ys0 (there x {xs = vs} {ys = ws} b) = let z = begun_more c s i item vs ws b in omega (arith, z)

begun_behind : {X : Type 0} (c s i : ℕ) (item : X) (xs ys : List (Copy X)) → StartsOldest c s i item xs ys → max (s + 1) (earliest_offer xs) ≡ earliest_offer ys
begun_behind c s i0 item0 xs0 ys0 (here t item xs n) = omega arith
begun_behind c s i item xs0 ys0 (there x {xs = vs} {ys = ws} b) = let z = begun_behind c s i item vs ws b in omega (arith, z)

begun_last : {X : Type 0} (c s i : ℕ) (item : X) (xs ys : List (Copy X)) → StartsOldest c s i item xs ys → earliest_offer xs ≤ s → s + 1 ≡ earliest_offer ys
begun_last c s i item xs ys b le = let z = begun_behind c s i item xs ys b in omega (arith, z)

pub stands_started : {T : Type 0} (p : EgressState T) (k c : ℕ) (x : Item T) (xs : List (Copy (Item T))) → IsNextStart p k c x → StandsFor p xs → HasStartedOldest (started_state p k c x) c k x xs
stands_started {T} p k c x xs n st = elim (front (state_rules p) c k p.earliest k xs n.after st.lawful.starts (offered_later p.earliest k xs n.after st.lawful.offers)) [
  | inl b ↦ absurd (nil_cons x n.rest (sym b.empty ∙ (st.queues c ∙ n.is_head)))
  | inr w ↦
      let r = state_rules p in
      let joined : w.item ∷ queued_items c w.after ≡ x ∷ n.rest = sym (queue_begun c k w.place w.item xs w.after w.begun) ∙ (st.queues c ∙ n.is_head) in
      let same : w.item ≡ x = heads _ _ _ _ joined in
      let begun : StartsOldest c k w.place x xs w.after = subst (λ z. StartsOldest c k w.place z xs w.after) same w.begun in
      let is : queue_head c k xs ≡ Some (w.place, x) = subst (λ z. queue_head c k xs ≡ Some (w.place, z)) same w.is_head in
      let open_link : is_link_free r k xs ≡ true = let m = n.free in st.link k n.after ∙ grind (arith, nat_tests) in
      record {
        place = w.place;
        after = w.after;
        begun = begun;
        stands = record {
          lawful = lawful_start r c k w.place x xs w.after (up_to p xs k st n.after n.least) open_link begun is n.fits (λ d y h fits.
              elim (front r d k p.earliest k xs n.after st.lawful.starts (offered_later p.earliest k xs n.after st.lawful.offers)) [
                | inl b ↦ absurd (none-some y (sym b.no_head ∙ h))
                | inr v ↦
                    let ey = same_Some _ _ (sym v.is_head ∙ h) in
                    let fits2 : Fits (r.opens d) (r.occ v.item) k = rw (ap (λ (z : ℕ × _). r.occ z.1) ey) fits in
                    n.highest d v.item (queued_items d v.after) (sym (st.queues d) ∙ queue_begun d k v.place v.item xs v.after v.begun) fits2
              ]);
          queues = λ d. by_bool (nat_eq c d)
              (λ same_class. let z : c ≡ d = grind (arith, nat_tests) in subst (λ (m : ℕ). queued_items m w.after ≡ slice_index_or (slice_set p.queues c (drop 1 (class_queue p c))) m []) z (tails _ _ _ _ joined ∙ sym (popped_same p.queues c x n.rest n.is_head)))
              (λ other. queue_other c k w.place x xs w.after d begun other ∙ (st.queues d ∙ sym (popped_other p.queues c d (drop 1 (class_queue p c)) other)));
          link = λ u h.
              let m = n.free in
              let later : k < u = omega arith in
              let before : is_link_free r u xs ≡ true = st.link u (let z = n.after in omega arith) ∙ grind (arith, nat_tests) in
              free_begun r c k u w.place x xs w.after begun ∙ rw before (ended k u (r.occ x) later);
          offered = st.offered ∙ sym (begun_length c k w.place x xs w.after begun);
          started = ap (λ n. n + 1) st.started ∙ sym (begun_more c k w.place x xs w.after begun);
          earliest = begun_last c k w.place x xs w.after begun (let z = st.earliest in let after = n.after in omega arith);
        };
      }
]

-- An idle port stands for finished schedules.

left_empty : {A : Type 0} (xs ys : List A) → xs ++ ys ≡ [] → xs ≡ []
left_empty [] ys h = refl
left_empty (x ∷ xs) ys h = cc

right_empty : {A : Type 0} (xs ys : List A) → xs ++ ys ≡ [] → ys ≡ []
right_empty [] ys h = h
right_empty (x ∷ xs) ys h = cc

pub whole_of_empty : {X : Type 0} (xs : List (Copy X)) → ((c : ℕ) → queued_items c xs ≡ []) → IsFinished xs
whole_of_empty [] h = tt
whole_of_empty {X} (x ∷ xs) h = (
  by_bool (is_queued x.fate)
      (λ k.
      let same : nat_eq x.class x.class ≡ true = grind (arith, nat_tests) in
      let z : (if nat_eq x.class x.class && is_queued x.fate then x.item ∷ [] else []) ≡ [] = right_empty (queued_items x.class xs) (if nat_eq x.class x.class && is_queued x.fate then x.item ∷ [] else []) (h x.class) in
      let y : x.item ∷ [] ≡ [] = rw (same, k) at z in cc)
      (λ k. k),
  whole_of_empty xs (λ c. left_empty (queued_items c xs) (if nat_eq x.class c && is_queued x.fate then x.item ∷ [] else []) (h c)),
)

pub idle_whole : {T : Type 0} (p : EgressState T) (xs : List (Copy (Item T))) → StandsFor p xs → IsIdle p → IsFinished xs
idle_whole p xs st idle = whole_of_empty xs (λ c. st.queues c ∙ idle c)

-- An idle port has no start.
pub idle_calm : {T : Type 0} (p : EgressState T) (t : ℕ) → IsIdle p → HasNoStartEarlier p t
idle_calm p t idle c x rest e u a b l = λ f. nil_cons x rest (sym (idle c) ∙ e)

-- The next start has one time, one class and one item.
pub next_one : {T : Type 0} (p : EgressState T) (k c : ℕ) (x : Item T) (l d : ℕ) (y : Item T) → IsNextStart p k c x → IsNextStart p l d y → (k ≡ l) × (c ≡ d) × (x ≡ y)
next_one {T} p k c x l d y n m = elim (cases_order k l) [
  | inl e ↦
      let fits_y : Fits (opens p.list d) (transmission_time y.len p.speed) k = subst (λ (t : ℕ). Fits (opens p.list d) (transmission_time y.len p.speed) t) (sym e) m.fits in
      let fits_x : Fits (opens p.list c) (transmission_time x.len p.speed) l = subst (λ (t : ℕ). Fits (opens p.list c) (transmission_time x.len p.speed) t) e n.fits in
      let up : d ≤ c = n.highest d y m.rest m.is_head fits_y in
      let down : c ≤ d = m.highest c x n.rest n.is_head fits_x in
      let same : c ≡ d = omega arith in
      (e, same, heads x y n.rest m.rest (sym n.is_head ∙ (ap (class_queue p) same ∙ m.is_head)))
  | inr b ↦ elim b [
    | inl a ↦ absurd (m.least c x n.rest n.is_head k n.after n.free a n.fits)
    | inr a ↦ absurd (n.least d y m.rest m.is_head l m.after m.free a m.fits)
  ]
]
