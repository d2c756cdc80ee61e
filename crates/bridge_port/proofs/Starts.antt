use Rattle.std.proofs.Common.{◌≡◌, ℕ, Bool, true, false, ◌+◌, ◌<◌, ◌≤◌, List, [], ◌∷◌, length, arith, refl, ap, ◌∙◌, sym, subst, ◌⊎◌, inl, inr, Some, None, suc}
use Rattle.std.proofs.lemmas.Bool.Decides.{nat_tests}
use Rattle.std.proofs.lemmas.Bool.{cases_lt, and_parts, or_parts, eq-eqb, le-ltb}
use Rattle.std.specs.Prelude.{nat_le, nat_lt, nat_eq, not, ◌&&◌}
use Rattle.bridge_limits.proofs.Cases.{by_bool}
use Rattle.bridge_cycle.specs.Fits.{Fits}
use Rattle.bridge_port.specs.Schedule.{Fate, Never, Full, Queued, Started, Copy, PortRules, is_waiting, is_on_link, count_waiting, is_link_free, queue_head, fate_by_index, IsAnswer, AreAnswered, IsLawfulStart, AreLawfulStarts, AreDisjoint, IsDisjointCopy, AreAllDisjoint, AreStartsInOrder, StartsAfterOlder, AllStartInOrder, AreOffersInOrder, ServesHighest, IsLawful, is_queued, has_queued, queued_items, StartsOldest, here, there}
use Rattle.bridge_port.proofs.Laws.{offered_later, starts_later, fate_older}

answer_same : {X : Type 0} (r : PortRules X) (x : Copy X) (xs ys : List (Copy X)) (f : Fate) → count_waiting x.class x.at ys ≡ count_waiting x.class x.at xs → IsAnswer r x xs f → IsAnswer r x ys f
answer_same r x xs ys Never e a = a
answer_same r x xs ys Full e a = rw e a
answer_same r x xs ys Queued e a = rw e a
answer_same r x xs ys (Started t) e a = rw e a

-- Holds if a copy that started has left by time `s`.
abbrev pub IsDone : ℕ → ℕ → Fate → Type 0
IsDone s n (Started t) = t + n ≤ s
IsDone s n f = Unit {0}

abbrev pub AllDone : {X : Type 0} → PortRules X → ℕ → List (Copy X) → Type 0
AllDone r s [] = Unit {0}
AllDone r s (x ∷ xs) = IsDone s (r.occ x.item) x.fate × AllDone r s xs

-- Holds if a start is before time `s`.
abbrev pub IsStarted : ℕ → Fate → Type 0
IsStarted s (Started t) = t < s
IsStarted s f = Unit {0}

pub started_of : {X : Type 0} (r : PortRules X) (s : ℕ) (x : Copy X) (f : Fate) → IsLawfulStart r s x f → IsStarted s f
started_of r s x Never h = tt
started_of r s x Full h = tt
started_of r s x Queued h = tt
started_of r s x (Started t) h = h.0

done_of : (n s : ℕ) (f : Fate) → not (is_on_link s n f) ≡ true → IsStarted s f → IsDone s n f
done_of n s Never e l = tt
done_of n s Full e l = tt
done_of n s Queued e l = tt
done_of n s (Started t) e l = grind (arith, nat_tests)

all_done : {X : Type 0} (r : PortRules X) (s : ℕ) (xs : List (Copy X)) → is_link_free r s xs ≡ true → AreLawfulStarts r s xs → AllDone r s xs
all_done r s [] e l = tt
all_done r s (x ∷ xs) e l = (done_of (r.occ x.item) s x.fate (and_parts _ _ e).0 (started_of r s x x.fate l.0), all_done r s xs (and_parts _ _ e).1 l.1)

apart_last : (n s m : ℕ) (g : Fate) → IsDone s m g → AreDisjoint n (Started s) m g
apart_last n s m Never d = tt
apart_last n s m Full d = tt
apart_last n s m Queued d = tt
apart_last n s m (Started t) d = inr d

apart_all : {X : Type 0} (r : PortRules X) (s : ℕ) (x : Copy X) (xs : List (Copy X)) → x.fate ≡ Started s → AllDone r s xs → IsDisjointCopy r x xs
apart_all r s x [] e d = tt
apart_all r s x (y ∷ ys) e d = (rw e (apart_last (r.occ x.item) s (r.occ y.item) y.fate d.0), apart_all r s x ys e d.1)

apart_first : (n : ℕ) (f : Fate) (s m : ℕ) → IsDone s n f → AreDisjoint n f m (Started s)
apart_first n Never s m d = tt
apart_first n Full s m d = tt
apart_first n Queued s m d = tt
apart_first n (Started t) s m d = inl d

turn_last : {X : Type 0} (c s : ℕ) (r : PortRules X) (y : Copy X) (g : Fate) → nat_eq y.class c && is_queued g ≡ false → IsLawfulStart r s y g → c ≡ y.class → AreStartsInOrder (Started s) g
turn_last c s r y Never q l e = tt
turn_last c s r y Full q l e = tt
turn_last c s r y Queued q l e = let k : nat_eq y.class c ≡ true = grind (arith, nat_tests) in absurd (let z = rw k at q in cc)
turn_last c s r y (Started t) q l e = l.0

turn_all : {X : Type 0} (r : PortRules X) (c s : ℕ) (x : Copy X) (xs : List (Copy X)) → x.class ≡ c → x.fate ≡ Started s → has_queued c xs ≡ false → AreLawfulStarts r s xs → StartsAfterOlder x xs
turn_all r c s x [] k f q l = tt
turn_all r c s x (y ∷ ys) k f q l = (λ e. rw f (turn_last c s r y y.fate (or_parts _ _ q).0 l.0 (sym k ∙ e)), turn_all r c s x ys k f (or_parts _ _ q).1 l.1)

turn_first : (s : ℕ) (f : Fate) → AreStartsInOrder f Queued → AreStartsInOrder f (Started s)
turn_first s Never h = tt
turn_first s Full h = tt
turn_first s Queued h = tt
turn_first s (Started t) h = absurd h

module _ {X : Type 0} {c s : ℕ} where
  length_same : {i : ℕ} {item : X} {xs ys : List (Copy X)} → StartsOldest c s i item xs ys → length ys ≡ length xs
  length_same (here t item xs n) = refl
  length_same (there x b) = ap suc (length_same b)

  head_same : (d u : ℕ) → u ≤ s → {i : ℕ} {item : X} {xs ys : List (Copy X)} → StartsOldest c s i item xs ys → queue_head d u ys ≡ queue_head d u xs
  head_same d u h (here t item xs n) = rw (le-ltb s u h) refl
  head_same d u h (there x b) = rw (head_same d u h b, length_same b) refl

  free_same : (r : PortRules X) (u : ℕ) → u ≤ s → {i : ℕ} {item : X} {xs ys : List (Copy X)} → StartsOldest c s i item xs ys → is_link_free r u ys ≡ is_link_free r u xs
  free_same r u h (here t item xs n) = rw (le-ltb s u h) refl
  free_same r u h (there x b) = rw (free_same r u h b) refl

  waiting_same : (d u : ℕ) → u ≤ s → {i : ℕ} {item : X} {xs ys : List (Copy X)} → StartsOldest c s i item xs ys → count_waiting d u ys ≡ count_waiting d u xs
  waiting_same d u h (here t item xs n) = rw (le-ltb s u h) refl
  waiting_same d u h (there x b) = rw (waiting_same d u h b) refl

  answers_begin : (r : PortRules X) {i : ℕ} {item : X} {xs ys : List (Copy X)} → StartsOldest c s i item xs ys → AreOffersInOrder s xs → AreAnswered r xs → AreAnswered r ys
  answers_begin r (here t item xs n) o a = a
  answers_begin r (there x {xs = xs} {ys = ys} b) o a =
      let l = o.0 in
      (answer_same r x xs ys x.fate (waiting_same x.class x.at l b) a.0, answers_begin r b (offered_later x.at s xs l o.1) a.1)

  starts_begin : (r : PortRules X) {i : ℕ} {item : X} {xs ys : List (Copy X)} → StartsOldest c s i item xs ys → AreOffersInOrder s xs → Fits (r.opens c) (r.occ item) s → AreLawfulStarts r s xs → AreLawfulStarts r (s + 1) ys
  starts_begin r (here t item xs n) o f a = ((omega arith, o.0, f), starts_later r s (s + 1) xs (omega arith) a.1)
  starts_begin r (there x {xs = xs} b) o f a =
      let z = starts_later r s (s + 1) (x ∷ []) (omega arith) (a.0, tt) in
      (z.0, starts_begin r b (offered_later x.at s xs o.0 o.1) f a.1)

  apart_from_begin : (r : PortRules X) (x : Copy X) {i : ℕ} {item : X} {xs ys : List (Copy X)} → StartsOldest c s i item xs ys → IsDone s (r.occ x.item) x.fate → IsDisjointCopy r x xs → IsDisjointCopy r x ys
  apart_from_begin r x (here t item xs n) d a = (apart_first (r.occ x.item) x.fate s (r.occ item) d, a.1)
  apart_from_begin r x (there y b) d a = (a.0, apart_from_begin r x b d a.1)

  apart_begin : (r : PortRules X) {i : ℕ} {item : X} {xs ys : List (Copy X)} → StartsOldest c s i item xs ys → AllDone r s xs → AreAllDisjoint r xs → AreAllDisjoint r ys
  apart_begin r (here t item xs n) d a = let m : Copy X = record { at = t; class = c; item = item; fate = Started s } in (apart_all r s m xs refl d.1, a.1)
  apart_begin r (there x b) d a = (apart_from_begin r x b d.0 a.0, apart_begin r b d.1 a.1)

  turn_with_begin : (x : Copy X) {i : ℕ} {item : X} {xs ys : List (Copy X)} → StartsOldest c s i item xs ys → StartsAfterOlder x xs → StartsAfterOlder x ys
  turn_with_begin x (here t item xs n) a = (λ e. turn_first s x.fate (a.0 e), a.1)
  turn_with_begin x (there y b) a = (a.0, turn_with_begin x b a.1)

  turn_begin : (r : PortRules X) {i : ℕ} {item : X} {xs ys : List (Copy X)} → StartsOldest c s i item xs ys → AreLawfulStarts r s xs → AllStartInOrder xs → AllStartInOrder ys
  turn_begin r (here t item xs n) l a = let m : Copy X = record { at = t; class = c; item = item; fate = Started s } in (turn_all r c s m xs refl refl n l.1, a.1)
  turn_begin r (there x b) l a = (turn_with_begin x b a.0, turn_begin r b l.1 a.1)

  offers_begin : (h : ℕ) {i : ℕ} {item : X} {xs ys : List (Copy X)} → StartsOldest c s i item xs ys → AreOffersInOrder h xs → AreOffersInOrder h ys
  offers_begin h (here t item xs n) o = o
  offers_begin h (there x b) o = (o.0, offers_begin x.at b o.1)

  fate_begun : {i : ℕ} {item : X} {xs ys : List (Copy X)} → StartsOldest c s i item xs ys → fate_by_index i ys ≡ Some (Started s)
  fate_begun (here t item xs n) = let e : nat_eq (length xs) (length xs) ≡ true = grind (arith, nat_tests) in rw e refl
  fate_begun (there x {i = i} {ys = ys} b) = fate_older i x ys (Started s) (fate_begun b)

  fate_kept : (j u : ℕ) {i : ℕ} {item : X} {xs ys : List (Copy X)} → StartsOldest c s i item xs ys → fate_by_index j xs ≡ Some (Started u) → fate_by_index j ys ≡ Some (Started u)
  fate_kept j u (here t item xs n) h = by_bool (nat_eq j (length xs)) (λ e. absurd (let z = rw e at h in cc)) (λ e. rw e (rw e at h))
  fate_kept j u (there x {xs = xs} b) h = by_bool (nat_eq j (length xs)) (λ e. rw (length_same b, e) (rw e at h)) (λ e. rw (length_same b, e) (fate_kept j u b (rw e at h)))

  serves_begin : (r : PortRules X) (u e : ℕ) → u ≤ s → {i : ℕ} {item : X} {xs ys : List (Copy X)} → StartsOldest c s i item xs ys → ServesHighest r xs u e → ServesHighest r ys u e
  serves_begin r u e h b w = record { class = w.class; place = w.place; item = w.item; is_head = head_same w.class u h b ∙ w.is_head; starts = fate_kept w.place u b w.starts; fits = w.fits; highest = w.highest }

-- The start that strict priority demands at time `s` keeps the schedule lawful.
pub lawful_start : {X : Type 0} (r : PortRules X) (c s : ℕ) (i : ℕ) (item : X) (xs ys : List (Copy X)) → IsLawful r s xs → is_link_free r s xs ≡ true → StartsOldest c s i item xs ys → queue_head c s xs ≡ Some (i, item) → Fits (r.opens c) (r.occ item) s → ((d : ℕ) (p : ℕ × X) → queue_head d s xs ≡ Some p → Fits (r.opens d) (r.occ p.1) s → d ≤ c) → IsLawful r (s + 1) ys
lawful_start r c s i item xs ys w free b is fits top =
    record {
      offers = offered_later s (s + 1) ys (omega arith) (offers_begin s b w.offers);
      answers = answers_begin r b w.offers w.answers;
      starts = starts_begin r b w.offers fits w.starts;
      apart = apart_begin r b (all_done r s xs free w.starts) w.apart;
      in_turn = turn_begin r b w.starts w.in_turn;
      none_missed = λ u below f d p q z. elim (cases_lt u s) [
        | inl a ↦ let l : u ≤ s = omega arith in serves_begin r u d l b (w.none_missed u a (sym (free_same r u l b) ∙ f) d p (sym (head_same d u l b) ∙ q) z)
        | inr k ↦
            let e : s ≡ u = omega arith in
            let P : ℕ → Type 0 = λ n. ServesHighest r ys n d in
            let q2 : queue_head d s ys ≡ Some p = rw e q in
            let z2 : Fits (r.opens d) (r.occ p.1) s = rw e z in
            subst P e (record { class = c; place = i; item = item; is_head = head_same c s (omega arith) b ∙ is; starts = fate_begun b; fits = fits; highest = top d p (sym (head_same d s (omega arith) b) ∙ q2) z2 })
      ];
    }

-- Queues.

queue_none : {X : Type 0} (c : ℕ) (xs : List (Copy X)) → has_queued c xs ≡ false → queued_items c xs ≡ []
queue_none c [] h = refl
queue_none c (x ∷ xs) h = let a : nat_eq x.class c && is_queued x.fate ≡ false = (or_parts _ _ h).0 in let b : queued_items c xs ≡ [] = queue_none c xs (or_parts _ _ h).1 in rw (a, b) refl

pub queue_begun : {X : Type 0} (c s i : ℕ) (item : X) (xs ys : List (Copy X)) → StartsOldest c s i item xs ys → queued_items c xs ≡ item ∷ queued_items c ys
queue_begun c s i0 item0 xs0 ys0 (here t item xs n) = let b : queued_items c xs ≡ [] = queue_none c xs n in rw (eq-eqb c c refl, b) refl
queue_begun c s i item xs0 ys0 (there x {xs = vs} {ys = ws} b) = rw (queue_begun c s i item vs ws b) refl

pub queue_other : {X : Type 0} (c s i : ℕ) (item : X) (xs ys : List (Copy X)) (d : ℕ) → StartsOldest c s i item xs ys → nat_eq c d ≡ false → queued_items d ys ≡ queued_items d xs
queue_other c s i0 item0 xs0 ys0 d (here t item xs n) h = rw h refl
queue_other c s i item xs0 ys0 d (there x {xs = vs} {ys = ws} b) h = rw (queue_other c s i item vs ws d b h) refl

-- If no copy of a class is queued, the class has no head.
pub there_no : (h u : ℕ) (f : Fate) → h ≤ u → IsStarted h f → is_queued f ≡ false → is_waiting u f ≡ false
there_no h u Never l k q = refl
there_no h u Full l k q = refl
there_no h u Queued l k q = absurd (cc)
there_no h u (Started t) l k q = let e : nat_lt t u ≡ true = grind (arith, nat_tests) in rw e refl

pub there_yes : (u : ℕ) (f : Fate) → is_queued f ≡ true → is_waiting u f ≡ true
there_yes u Never q = absurd (cc)
there_yes u Full q = absurd (cc)
there_yes u Queued q = refl
there_yes u (Started t) q = absurd (cc)

is_it_queued : (f : Fate) → is_queued f ≡ true → Queued ≡ f
is_it_queued Never q = absurd (cc)
is_it_queued Full q = absurd (cc)
is_it_queued Queued q = refl
is_it_queued (Started t) q = absurd (cc)

-- Holds if the head of class `c` at time `u` is the head of its queue.
pub record IsFront {X : Type 0} (c s u : ℕ) (xs : List (Copy X)) : Type 0 where
  pub place : ℕ
  pub item : X
  pub after : List (Copy X)
  pub begun : StartsOldest c s place item xs after
  pub is_head : queue_head c u xs ≡ Some (place, item)

pub record IsBare {X : Type 0} (c u : ℕ) (xs : List (Copy X)) : Type 0 where
  pub none : has_queued c xs ≡ false
  pub no_head : queue_head c u xs ≡ None
  pub empty : queued_items c xs ≡ []

not_both : (a b d : Bool) (f g : Fate) → (a && b ≡ false) → (b ≡ false → d ≡ false) → a && true && d ≡ false
not_both true b d f g e h = h e
not_both false b d f g e h = refl

pub front : {X : Type 0} (r : PortRules X) (c s h u : ℕ) (xs : List (Copy X)) → h ≤ u → AreLawfulStarts r h xs → AreOffersInOrder u xs → IsBare c u xs ⊎ IsFront c s u xs
front r c s h u [] l k o = inl (record { none = refl; no_head = refl; empty = refl })
front {X} r c s h u (x ∷ xs) l k o =
    let at_le : nat_le x.at u ≡ true = let m = o.0 in grind (arith, nat_tests) in
    elim (front r c s h u xs l k.1 (offered_later x.at u xs o.0 o.1)) [
      | inr q ↦ inr (record { place = q.place; item = q.item; after = x ∷ q.after; begun = there x q.begun; is_head = rw q.is_head refl })
      | inl n ↦ by_bool (nat_eq x.class c && is_queued x.fate)
          (λ e.
          let q : is_queued x.fate ≡ true = (and_parts _ _ e).1 in
          let a : nat_eq x.class c ≡ true = (and_parts _ _ e).0 in
          let d : c ≡ x.class = grind (arith, nat_tests) in
          let P : ℕ → Type 0 = λ m. StartsOldest c s (length xs) x.item (record { at = x.at; class = m; item = x.item; fate = Queued } ∷ xs) (record { at = x.at; class = c; item = x.item; fate = Started s } ∷ xs) in
          let Q : Fate → Type 0 = λ m. StartsOldest c s (length xs) x.item (record { at = x.at; class = x.class; item = x.item; fate = m } ∷ xs) (record { at = x.at; class = c; item = x.item; fate = Started s } ∷ xs) in
          inr (record { place = length xs; item = x.item; after = record { at = x.at; class = c; item = x.item; fate = Started s } ∷ xs; begun = subst Q (is_it_queued x.fate q) (subst P d (here x.at x.item xs n.none)); is_head = rw (n.no_head, a, at_le, there_yes u x.fate q) refl }))
          (λ e.
          let z : nat_eq x.class c && true && is_waiting u x.fate ≡ false = not_both (nat_eq x.class c) (is_queued x.fate) (is_waiting u x.fate) x.fate x.fate e (there_no h u x.fate l (started_of r h x x.fate k.0)) in
          inl (record { none = rw (e, n.none) refl; no_head = rw (n.no_head, at_le, z) refl; empty = rw (e, n.empty) refl }))
    ]
