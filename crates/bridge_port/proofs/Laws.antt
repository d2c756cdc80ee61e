use Rattle.std.proofs.Common.{◌≡◌, ℕ, true, false, ◌+◌, ◌<◌, ◌≤◌, List, [], ◌∷◌, length, arith, refl, ◌∙◌, sym, subst, inl, inr, Option, Some, None}
use Rattle.std.proofs.lemmas.Bool.Decides.{nat_tests}
use Rattle.std.proofs.lemmas.Bool.{cases_lt, lt-leb}
use Rattle.std.specs.Prelude.{nat_eq}
use Rattle.std.proofs.Math.Bool.{and-false}
use Rattle.bridge_cycle.specs.Fits.{Fits}
use Rattle.bridge_limits.specs.Members.{IsMember}
use Rattle.bridge_limits.proofs.Cases.{by_bool}
use Rattle.bridge_port.specs.Schedule.{Fate, Never, Full, Queued, Started, Copy, PortRules, is_on_link, is_link_free, queue_head, older_head, fate_by_index, IsAnswer, IsLawfulStart, AreLawfulStarts, AreDisjoint, IsDisjointCopy, AreStartsInOrder, StartsAfterOlder, AreOffersInOrder, ServesHighest, IsLawful}

-- A later time at which no start was missed.

pub offered_later : {X : Type 0} (h k : ℕ) (xs : List (Copy X)) → h ≤ k → AreOffersInOrder h xs → AreOffersInOrder k xs
offered_later h k [] l o = tt
offered_later h k (x ∷ xs) l o = (let m = o.0 in omega arith, o.1)

start_later : {X : Type 0} (r : PortRules X) (h k : ℕ) (x : Copy X) (f : Fate) → h ≤ k → IsLawfulStart r h x f → IsLawfulStart r k x f
start_later r h k x Never l s = tt
start_later r h k x Full l s = tt
start_later r h k x Queued l s = tt
start_later r h k x (Started t) l s = (let m = s.0 in omega arith, s.1, s.2)

pub starts_later : {X : Type 0} (r : PortRules X) (h k : ℕ) (xs : List (Copy X)) → h ≤ k → AreLawfulStarts r h xs → AreLawfulStarts r k xs
starts_later r h k [] l s = tt
starts_later r h k (x ∷ xs) l s = (start_later r h k x x.fate l s.0, starts_later r h k xs l s.1)

-- Holds if at each free time from `h` to `k`, no head fits.
abbrev pub Idle : {X : Type 0} → PortRules X → ℕ → ℕ → List (Copy X) → Type 0
Idle {X} r h k xs = (u : ℕ) → h ≤ u → u < k → is_link_free r u xs ≡ true → (c : ℕ) (p : ℕ × X) → queue_head c u xs ≡ Some p → ¬ Fits (r.opens c) (r.occ p.1) u

pub lawful_later : {X : Type 0} (r : PortRules X) (h k : ℕ) (xs : List (Copy X)) → h ≤ k → IsLawful r h xs → Idle r h k xs → IsLawful r k xs
lawful_later r h k xs l w idle =
    record {
      offers = offered_later h k xs l w.offers;
      answers = w.answers;
      starts = starts_later r h k xs l w.starts;
      apart = w.apart;
      in_turn = w.in_turn;
      none_missed = λ u below free c p is fits. elim (cases_lt u h) [ inl a ↦ w.none_missed u a free c p is fits | inr b ↦ absurd (idle u b below free c p is fits) ];
    }

-- An earlier time after the last start, and not before the last offer.

-- Holds if every start is before time `k`.
abbrev pub StartsBefore : {X : Type 0} → ℕ → List (Copy X) → Type 0
StartsBefore {X} k xs = (s : ℕ) (x : Copy X) → IsMember x xs → x.fate ≡ Started s → s < k

start_earlier : {X : Type 0} (r : PortRules X) (h k : ℕ) (x : Copy X) (f : Fate) → ((s : ℕ) → f ≡ Started s → s < k) → IsLawfulStart r h x f → IsLawfulStart r k x f
start_earlier r h k x Never before a = tt
start_earlier r h k x Full before a = tt
start_earlier r h k x Queued before a = tt
start_earlier r h k x (Started s) before a = (before s refl, a.1, a.2)

starts_earlier : {X : Type 0} (r : PortRules X) (h k : ℕ) (xs : List (Copy X)) → StartsBefore k xs → AreLawfulStarts r h xs → AreLawfulStarts r k xs
starts_earlier r h k [] before a = tt
starts_earlier r h k (x ∷ xs) before a = (start_earlier r h k x x.fate (λ s e. before s x (inl refl) e) a.0, starts_earlier r h k xs (λ s y l e. before s y (inr l) e) a.1)

pub lawful_earlier : {X : Type 0} (r : PortRules X) (h k : ℕ) (xs : List (Copy X)) → k ≤ h → AreOffersInOrder k xs → StartsBefore k xs → IsLawful r h xs → IsLawful r k xs
lawful_earlier r h k xs l offered before w = record {
  offers = offered;
  answers = w.answers;
  starts = starts_earlier r h k xs before w.starts;
  apart = w.apart;
  in_turn = w.in_turn;
  none_missed = λ u below. w.none_missed u (omega arith);
}

-- An offer at time `h`.

abbrev pub IsUnstarted : Fate → Type 0
IsUnstarted (Started s) = ⊥
IsUnstarted f = Unit {0}

pub unstarted : (f : Fate) → ((s : ℕ) → f ≡ Started s → ⊥) → IsUnstarted f
unstarted Never h = tt
unstarted Full h = tt
unstarted Queued h = tt
unstarted (Started s) h = h s refl

start_new : {X : Type 0} (r : PortRules X) (h : ℕ) (x : Copy X) (f : Fate) → IsUnstarted f → IsLawfulStart r h x f
start_new r h x Never l = tt
start_new r h x Full l = tt
start_new r h x Queued l = tt
start_new r h x (Started t) l = absurd l

apart_new : (n : ℕ) (f : Fate) (m : ℕ) (g : Fate) → IsUnstarted f → AreDisjoint n f m g
apart_new n Never m g l = tt
apart_new n Full m g l = tt
apart_new n Queued m g l = tt
apart_new n (Started t) m g l = absurd l

apart_from_new : {X : Type 0} (r : PortRules X) (x : Copy X) (xs : List (Copy X)) → IsUnstarted x.fate → IsDisjointCopy r x xs
apart_from_new r x [] l = tt
apart_from_new r x (y ∷ ys) l = (apart_new (r.occ x.item) x.fate (r.occ y.item) y.fate l, apart_from_new r x ys l)

in_turn_new : (f g : Fate) → IsUnstarted f → AreStartsInOrder f g
in_turn_new Never g l = tt
in_turn_new Full g l = tt
in_turn_new Queued g l = tt
in_turn_new (Started t) g l = absurd l

in_turn_with_new : {X : Type 0} (x : Copy X) (xs : List (Copy X)) → IsUnstarted x.fate → StartsAfterOlder x xs
in_turn_with_new x [] l = tt
in_turn_with_new x (y ∷ ys) l = (λ e. in_turn_new x.fate y.fate l, in_turn_with_new x ys l)

pub occupies_new : (u n : ℕ) (f : Fate) → IsUnstarted f → is_on_link u n f ≡ false
occupies_new u n Never l = refl
occupies_new u n Full l = refl
occupies_new u n Queued l = refl
occupies_new u n (Started t) l = absurd l

pub or_none : {X : Type 0} (o : Option (ℕ × X)) → older_head o None ≡ o
or_none None = refl
or_none (Some p) = refl

head_before : {X : Type 0} (c u : ℕ) (x : Copy X) (xs : List (Copy X)) → u < x.at → queue_head c u (x ∷ xs) ≡ queue_head c u xs
head_before c u x xs h = let e = lt-leb x.at u h in rw (e, and-false) (or_none (queue_head c u xs))

pub free_new : {X : Type 0} (r : PortRules X) (u : ℕ) (x : Copy X) (xs : List (Copy X)) → IsUnstarted x.fate → is_link_free r u (x ∷ xs) ≡ is_link_free r u xs
free_new r u x xs l = rw (occupies_new u (r.occ x.item) x.fate l) refl

pub place_below : {X : Type 0} (i : ℕ) (xs : List (Copy X)) (f : Fate) → fate_by_index i xs ≡ Some f → i < length xs
place_below i [] f h = absurd (cc)
place_below {X} i (x ∷ xs) f h = by_bool (nat_eq i (length xs))
    (λ e. let q : i ≡ length xs = grind (arith, nat_tests) in let l : length (x ∷ xs) ≡ length xs + 1 = grind arith in omega arith)
    (λ e. let b = place_below i xs f (rw e at h) in let l : length (x ∷ xs) ≡ length xs + 1 = grind arith in omega arith)

pub fate_older : {X : Type 0} (i : ℕ) (x : Copy X) (xs : List (Copy X)) (f : Fate) → fate_by_index i xs ≡ Some f → fate_by_index i (x ∷ xs) ≡ Some f
fate_older i x xs f h =
    let b = place_below i xs f h in
    let e : nat_eq i (length xs) ≡ false = grind (arith, nat_tests) in
    rw e h

serves_new : {X : Type 0} (r : PortRules X) (x : Copy X) (xs : List (Copy X)) (u c : ℕ) → u < x.at → ServesHighest r xs u c → ServesHighest r (x ∷ xs) u c
serves_new r x xs u c h s =
    record { class = s.class; place = s.place; item = s.item; is_head = head_before s.class u x xs h ∙ s.is_head; starts = fate_older s.place x xs (Started u) s.starts; fits = s.fits; highest = s.highest }

pub lawful_offer : {X : Type 0} (r : PortRules X) (h : ℕ) (x : Copy X) (xs : List (Copy X)) → x.at ≡ h → IsUnstarted x.fate → IsAnswer r x xs x.fate → IsLawful r h xs → IsLawful r h (x ∷ xs)
lawful_offer r h x xs e new answer w =
    record {
      offers = (omega arith, subst (λ (n : ℕ). AreOffersInOrder n xs) (sym e) w.offers);
      answers = (answer, w.answers);
      starts = (start_new r h x x.fate new, w.starts);
      apart = (apart_from_new r x xs new, w.apart);
      in_turn = (in_turn_with_new x xs new, w.in_turn);
      none_missed = λ u below free c p is fits.
          let b : u < x.at = omega arith in
          serves_new r x xs u c b (w.none_missed u below (sym (free_new r u x xs new) ∙ free) c p (sym (head_before c u x xs b) ∙ is) fits);
    }
