-- Schedules of mapped items.
use Rattle.std.proofs.Common.{◌≡◌, ℕ, Bool, true, false, List, [], ◌∷◌, length, refl, ap, ◌∙◌, sym, subst, Option, Some, None}
use Rattle.std.specs.Prelude.{if◌then◌else◌, nat_eq, nat_le, ◌&&◌}
use Rattle.std.proofs.lemmas.Option.{same_Some}
use Rattle.bridge_cycle.specs.Fits.{Fits}
use Rattle.bridge_port.specs.Schedule.{Fate, Never, Full, Queued, Started, Copy, PortRules, is_waiting, count_waiting, is_link_free, queue_head, older_head, fate_by_index, IsAnswer, AreAnswered, IsLawfulStart, AreLawfulStarts, AreDisjoint, IsDisjointCopy, AreAllDisjoint, StartsAfterOlder, AllStartInOrder, AreOffersInOrder, ServesHighest, IsLawful}
use Rattle.bridge_port.specs.Solo.{IsFinished}
use Rattle.bridge_port.specs.Schedule.{StartsOldest, here, there, has_queued}
use Rattle.bridge_port.specs.MappedCopies.{map_copy, map_copies, map_rules, SameRooms}

abbrev pub see : {X Y : Type 0} → (X → Y) → Option (ℕ × X) → Option (ℕ × Y)
see g None = None
see g (Some p) = Some (p.0, g p.1)

length_seen : {X Y : Type 0} (g : X → Y) (xs : List (Copy X)) → length (map_copies g xs) ≡ length xs
length_seen g [] = refl
length_seen g (x ∷ xs) = rw (length_seen g xs) refl

free_seen : {X Y : Type 0} (g : X → Y) (r : PortRules X) (o : Y → ℕ) (m : ℕ → ℕ) → ((x : X) → o (g x) ≡ r.occ x) → (u : ℕ) (xs : List (Copy X)) → is_link_free (map_rules r o m) u (map_copies g xs) ≡ is_link_free r u xs
free_seen g r o m h u [] = refl
free_seen g r o m h u (x ∷ xs) = rw (h x.item, free_seen g r o m h u xs) refl

waiting_seen : {X Y : Type 0} (g : X → Y) (c t : ℕ) (xs : List (Copy X)) → count_waiting c t (map_copies g xs) ≡ count_waiting c t xs
waiting_seen g c t [] = refl
waiting_seen g c t (x ∷ xs) = rw (waiting_seen g c t xs) refl

see_newer : {X Y : Type 0} (g : X → Y) (a b : Option (ℕ × X)) → see g (older_head a b) ≡ older_head (see g a) (see g b)
see_newer g None b = refl
see_newer g (Some a) b = refl

see_one : {X Y : Type 0} (g : X → Y) (b : Bool) (i : ℕ) (x : X) → see g (if b then Some (i, x) else None) ≡ (if b then Some (i, g x) else None)
see_one g true i x = refl
see_one g false i x = refl

head_seen : {X Y : Type 0} (g : X → Y) (c u : ℕ) (xs : List (Copy X)) → queue_head c u (map_copies g xs) ≡ see g (queue_head c u xs)
head_seen g c u [] = refl
head_seen g c u (x ∷ xs) = rw (head_seen g c u xs, length_seen g xs) (sym (see_newer g (queue_head c u xs) (if nat_eq x.class c && nat_le x.at u && is_waiting u x.fate then Some (length xs, x.item) else None) ∙ ap (older_head (see g (queue_head c u xs))) (see_one g (nat_eq x.class c && nat_le x.at u && is_waiting u x.fate) (length xs) x.item)))

fate_seen : {X Y : Type 0} (g : X → Y) (i : ℕ) (xs : List (Copy X)) → fate_by_index i (map_copies g xs) ≡ fate_by_index i xs
fate_seen g i [] = refl
fate_seen g i (x ∷ xs) = rw (length_seen g xs, fate_seen g i xs) refl

answer_seen : {X Y : Type 0} (g : X → Y) (r : PortRules X) (o : Y → ℕ) (m : ℕ → ℕ) → ((x : X) → o (g x) ≡ r.occ x) → (x : Copy X) (xs : List (Copy X)) (f : Fate) → r.room x.class ≡ m x.class → IsAnswer r x xs f → IsAnswer (map_rules r o m) (map_copy g x) (map_copies g xs) f
answer_seen g r o m h x xs Never same a = rw (h x.item) a
answer_seen g r o m h x xs Full same a = rw (h x.item, waiting_seen g x.class x.at xs, ← same) a
answer_seen g r o m h x xs Queued same a = rw (h x.item, waiting_seen g x.class x.at xs, ← same) a
answer_seen g r o m h x xs (Started s) same a = rw (h x.item, waiting_seen g x.class x.at xs, ← same) a

answers_seen : {X Y : Type 0} (g : X → Y) (r : PortRules X) (o : Y → ℕ) (m : ℕ → ℕ) → ((x : X) → o (g x) ≡ r.occ x) → (xs : List (Copy X)) → SameRooms r.room m xs → AreAnswered r xs → AreAnswered (map_rules r o m) (map_copies g xs)
answers_seen g r o m h [] same a = tt
answers_seen g r o m h (x ∷ xs) same a = (answer_seen g r o m h x xs x.fate same.0 a.0, answers_seen g r o m h xs same.1 a.1)

start_seen : {X Y : Type 0} (g : X → Y) (r : PortRules X) (o : Y → ℕ) (m : ℕ → ℕ) → ((x : X) → o (g x) ≡ r.occ x) → (k : ℕ) (x : Copy X) (f : Fate) → IsLawfulStart r k x f → IsLawfulStart (map_rules r o m) k (map_copy g x) f
start_seen g r o m h k x Never a = tt
start_seen g r o m h k x Full a = tt
start_seen g r o m h k x Queued a = tt
start_seen g r o m h k x (Started s) a = (a.0, a.1, subst (λ (n : ℕ). Fits (r.opens x.class) n s) (sym (h x.item)) a.2)

starts_seen : {X Y : Type 0} (g : X → Y) (r : PortRules X) (o : Y → ℕ) (m : ℕ → ℕ) → ((x : X) → o (g x) ≡ r.occ x) → (k : ℕ) (xs : List (Copy X)) → AreLawfulStarts r k xs → AreLawfulStarts (map_rules r o m) k (map_copies g xs)
starts_seen g r o m h k [] a = tt
starts_seen g r o m h k (x ∷ xs) a = (start_seen g r o m h k x x.fate a.0, starts_seen g r o m h k xs a.1)

from_seen : {X Y : Type 0} (g : X → Y) (r : PortRules X) (o : Y → ℕ) (m : ℕ → ℕ) → ((x : X) → o (g x) ≡ r.occ x) → (x : Copy X) (xs : List (Copy X)) → IsDisjointCopy r x xs → IsDisjointCopy (map_rules r o m) (map_copy g x) (map_copies g xs)
from_seen g r o m h x [] a = tt
from_seen g r o m h x (y ∷ ys) a = (subst (λ (n : ℕ). AreDisjoint n x.fate (o (g y.item)) y.fate) (sym (h x.item)) (subst (λ (n : ℕ). AreDisjoint (r.occ x.item) x.fate n y.fate) (sym (h y.item)) a.0), from_seen g r o m h x ys a.1)

apart_seen : {X Y : Type 0} (g : X → Y) (r : PortRules X) (o : Y → ℕ) (m : ℕ → ℕ) → ((x : X) → o (g x) ≡ r.occ x) → (xs : List (Copy X)) → AreAllDisjoint r xs → AreAllDisjoint (map_rules r o m) (map_copies g xs)
apart_seen g r o m h [] a = tt
apart_seen g r o m h (x ∷ xs) a = (from_seen g r o m h x xs a.0, apart_seen g r o m h xs a.1)

with_seen : {X Y : Type 0} (g : X → Y) (x : Copy X) (xs : List (Copy X)) → StartsAfterOlder x xs → StartsAfterOlder (map_copy g x) (map_copies g xs)
with_seen g x [] a = tt
with_seen g x (y ∷ ys) a = (a.0, with_seen g x ys a.1)

turn_seen : {X Y : Type 0} (g : X → Y) (xs : List (Copy X)) → AllStartInOrder xs → AllStartInOrder (map_copies g xs)
turn_seen g [] a = tt
turn_seen g (x ∷ xs) a = (with_seen g x xs a.0, turn_seen g xs a.1)

offers_seen : {X Y : Type 0} (g : X → Y) (k : ℕ) (xs : List (Copy X)) → AreOffersInOrder k xs → AreOffersInOrder k (map_copies g xs)
offers_seen g k [] a = tt
offers_seen g k (x ∷ xs) a = (a.0, offers_seen g x.at xs a.1)

pub whole_seen : {X Y : Type 0} (g : X → Y) (xs : List (Copy X)) → IsFinished xs → IsFinished (map_copies g xs)
whole_seen g [] a = tt
whole_seen g (x ∷ xs) a = (a.0, whole_seen g xs a.1)

serves_seen : {X Y : Type 0} (g : X → Y) (r : PortRules X) (o : Y → ℕ) (m : ℕ → ℕ) → ((x : X) → o (g x) ≡ r.occ x) → (xs : List (Copy X)) (u c : ℕ) → ServesHighest r xs u c → ServesHighest (map_rules r o m) (map_copies g xs) u c
serves_seen g r o m h xs u c z = record {
  class = z.class;
  place = z.place;
  item = g z.item;
  is_head = head_seen g z.class u xs ∙ ap (see g) z.is_head;
  starts = fate_seen g z.place xs ∙ z.starts;
  fits = subst (λ (n : ℕ). Fits (r.opens z.class) n u) (sym (h z.item)) z.fits;
  highest = z.highest;
}

missed_seen : {X Y : Type 0} (g : X → Y) (r : PortRules X) (o : Y → ℕ) (m : ℕ → ℕ) → ((x : X) → o (g x) ≡ r.occ x) → (xs : List (Copy X)) (u c : ℕ) (p : ℕ × Y) (q : Option (ℕ × X)) → queue_head c u xs ≡ q → see g q ≡ Some p → Fits (r.opens c) (o p.1) u → ((w : ℕ × X) → queue_head c u xs ≡ Some w → Fits (r.opens c) (r.occ w.1) u → ServesHighest r xs u c) → ServesHighest r xs u c
missed_seen g r o m h xs u c p None e k f w0 = cc
missed_seen {X} {Y} g r o m h xs u c p (Some q) e k f w0 =
    let z : ℕ × Y = (q.0, g q.1) in
    let same : z ≡ p = same_Some z p k in
    let item : g q.1 ≡ p.1 = ap (λ (w : ℕ × Y). w.1) same in
    w0 q e (subst (λ (n : ℕ). Fits (r.opens c) n u) (h q.1) (subst (λ (y : Y). Fits (r.opens c) (o y) u) (sym item) f))

-- A lawful schedule stays lawful if its items are mapped.
pub lawful_seen : {X Y : Type 0} (g : X → Y) (r : PortRules X) (o : Y → ℕ) (m : ℕ → ℕ) → ((x : X) → o (g x) ≡ r.occ x) → (k : ℕ) (xs : List (Copy X)) → SameRooms r.room m xs → IsLawful r k xs → IsLawful (map_rules r o m) k (map_copies g xs)
lawful_seen g r o m h k xs same l = record {
  offers = offers_seen g k xs l.offers;
  answers = answers_seen g r o m h xs same l.answers;
  starts = starts_seen g r o m h k xs l.starts;
  apart = apart_seen g r o m h xs l.apart;
  in_turn = turn_seen g xs l.in_turn;
  none_missed = λ u b f c p e t. serves_seen g r o m h xs u c (missed_seen g r o m h xs u c p (queue_head c u xs) refl (sym (head_seen g c u xs) ∙ e) t (λ w d v. l.none_missed u b (sym (free_seen g r o m h u xs) ∙ f) c w d v));
}

-- The start of an item is the start of its mapped item.
queued_seen : {X Y : Type 0} (g : X → Y) (c : ℕ) (xs : List (Copy X)) → has_queued c (map_copies g xs) ≡ has_queued c xs
queued_seen g c [] = refl
queued_seen g c (x ∷ xs) = rw (queued_seen g c xs) refl

pub begun_seen : {X Y : Type 0} (g : X → Y) (c s : ℕ) (i : ℕ) (item : X) (xs ys : List (Copy X)) → StartsOldest c s i item xs ys → StartsOldest c s i (g item) (map_copies g xs) (map_copies g ys)
begun_seen {X} {Y} g c s i0 item0 xs0 ys0 (here t item xs n) =
    let P : ℕ → Type 0 = λ i. StartsOldest c s i (g item) (record { at = t; class = c; item = g item; fate = Queued } ∷ map_copies g xs) (record { at = t; class = c; item = g item; fate = Started s } ∷ map_copies g xs) in
    subst P (length_seen g xs) (here t (g item) (map_copies g xs) (queued_seen g c xs ∙ n))
begun_seen g c s i item xs0 ys0 (there x {xs = xs} {ys = ys} b) = there (map_copy g x) (begun_seen g c s i item xs ys b)
