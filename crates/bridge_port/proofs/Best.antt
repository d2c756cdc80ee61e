-- Fits of the heads, the best head, and the next start.
use Rattle.std.proofs.Common.{◌≡◌, ◌≢◌, ℕ, true, false, ◌<◌, ◌≤◌, ◌+◌, ◌*◌, ◌^◌, ◌++◌, List, [], ◌∷◌, length, arith, refl, ap, ◌∙◌, sym, subst, inl, inr, ◌⊎◌, Option, Some, None, max, get_or-set_same, get_or-set_other}
use Rattle.std.proofs.lemmas.Bool.Decides.{nat_tests}
use Rattle.std.proofs.lemmas.Bool.{cases_lt}
use Rattle.std.specs.Prelude.{nat_lt, nat_eq, ◌&&◌, ◌||◌, slice_index_or, slice_get, slice_set, drop, MatchOption}
use Rattle.std.proofs.lemmas.Grind.{common_steps}
use Rattle.std.proofs.lemmas.List.{get_or_past}
use Rattle.std.proofs.lemmas.Option.{same_Some, none-some}
use Rattle.bridge_limits.specs.declared.TheConstants.{LONGEST_FRAME}
use Rattle.bridge_limits.proofs.Cases.{by_bool}
use Rattle.bridge_limits.proofs.Lists.{heads}
use Rattle.bridge_frame.specs.declared.Speed.{Speed}
use Rattle.bridge_frame.specs.Link.{transmission_time}
use Rattle.bridge_cycle.specs.Fits.{Fits, IsFirstFit}
use Rattle.bridge_port.specs.declared.item.Item.{Item}
use Rattle.bridge_port.specs.Heads.{IsHeadFit, is_past, IsSoonestHead, IsBestHead, sooner_head, sooner_optional_head, StartsNext, AreHeadFits}
use Rattle.bridge_port.specs.StandsFor.{EgressState, IsIdle, AreStartable, HasNoStartEarlier, class_queue}
use Rattle.bridge_port.specs.GateSchedule.{can_fit, GateSchedule, opens}
use Rattle.bridge_port.proofs.Ports.{nil_cons, below_length}

pub head_some : {X : Type 0} (q : List X) (x : X) → slice_get q 0 ≡ Some x → q ≡ x ∷ drop 1 q
head_some [] x h = absurd (cc)
head_some (y ∷ q) x h = let e : y ≡ x = same_Some _ _ h in let d : drop 1 (y ∷ q) ≡ q = grind (arith, common_steps) in rw (e, d) refl

pub head_none : {X : Type 0} (q : List X) → slice_get q 0 ≡ None → q ≡ []
head_none [] h = refl
head_none (x ∷ q) h = absurd (cc)

pub startable_head : {T : Type 0} (list : GateSchedule) (speed : Speed) (c : ℕ) (q : List (Item T)) (x : Item T) → slice_get q 0 ≡ Some x → AreStartable list speed c q → (can_fit list c (transmission_time x.len speed) ≡ true) × (x.len ≤ LONGEST_FRAME)
startable_head list speed c [] x h a = absurd (cc)
startable_head list speed c (y ∷ q) x h a = let e : y ≡ x = same_Some _ _ h in subst (λ (z : Item _). (can_fit list c (transmission_time z.len speed) ≡ true) × (z.len ≤ LONGEST_FRAME)) e a.0

-- Fit of one class.

-- A first fit within 2 s is the fit of the head.
pub fit_is : {T : Type 0} (list : GateSchedule) (speed : Speed) (from c k : ℕ) (q : List (Item T)) (x : Item T) (rest : List (Item T)) → q ≡ x ∷ rest → IsFirstFit (opens list c) (transmission_time x.len speed) from k → k ≤ from + 2 * 10 ^ 9 → IsHeadFit list speed from c q (Some k)
fit_is {T} list speed from c k q x rest e first soon = let P : List (Item T) → Type 0 = λ r. IsHeadFit list speed from c r (Some k) in subst P (sym e) (first, soon)

-- An empty queue has no fit.
pub fit_none : {T : Type 0} (list : GateSchedule) (speed : Speed) (from c : ℕ) (q : List (Item T)) → q ≡ [] → IsHeadFit list speed from c q None
fit_none {T} list speed from c q e = let P : List (Item T) → Type 0 = λ r. IsHeadFit list speed from c r None in subst P (sym e) tt

-- The fit stays the fit from a later time on if nothing fits before that time.
pub fit_later : {T : Type 0} (list : GateSchedule) (speed : Speed) (from later c : ℕ) (q : List (Item T)) (f : Option ℕ) → IsHeadFit list speed from c q f → from ≤ later → ((x : Item T) (rest : List (Item T)) → q ≡ x ∷ rest → (u : ℕ) → from ≤ u → u < later → ¬ Fits (opens list c) (transmission_time x.len speed) u) → IsHeadFit list speed later c q f
fit_later list speed from later c [] None i l calm = tt
fit_later list speed from later c [] (Some k) i l calm = i
fit_later list speed from later c (x ∷ rest) None i l calm = i
fit_later list speed from later c (x ∷ rest) (Some k) i l calm =
    let first = i.0 in
    let soon = i.1 in
    elim (cases_lt k later) [
      | inl b ↦ absurd (calm x rest refl k first.after b first.fits)
      | inr a ↦ (record { after = a; fits = first.fits; least = λ u lo hi. first.least u (omega arith) hi }, omega arith)
    ]

-- A fit that isn't past stays the fit from a later time on.
pub fit_ahead : {T : Type 0} (list : GateSchedule) (speed : Speed) (from later c : ℕ) (q : List (Item T)) (f : Option ℕ) → IsHeadFit list speed from c q f → from ≤ later → is_past f later ≡ false → IsHeadFit list speed later c q f
fit_ahead list speed from later c [] None i l ahead = tt
fit_ahead list speed from later c [] (Some k) i l ahead = i
fit_ahead list speed from later c (x ∷ rest) None i l ahead = i
fit_ahead list speed from later c (x ∷ rest) (Some k) i l ahead =
    let first = i.0 in
    let soon = i.1 in
    let a : later ≤ k = grind (arith, nat_tests) in (record { after = a; fits = first.fits; least = λ u lo hi. first.least u (omega arith) hi }, omega arith)

-- A new item after the head leaves the fit unchanged.
pub fit_behind : {T : Type 0} (list : GateSchedule) (speed : Speed) (from c k : ℕ) (q : List (Item T)) (x : Item T) → IsHeadFit list speed from c q (Some k) → IsHeadFit list speed from c (q ++ x ∷ []) (Some k)
fit_behind list speed from c k [] x i = absurd i
fit_behind list speed from c k (y ∷ q) x i = i

pub nothing_queued : {T : Type 0} (list : GateSchedule) (speed : Speed) (from c : ℕ) (q : List (Item T)) → IsHeadFit list speed from c q None → q ≡ []
nothing_queued list speed from c [] i = refl
nothing_queued list speed from c (x ∷ q) i = absurd i

-- Holds if the queue has a head, and `k` is its fit.
record HeadFits {T : Type 0} (list : GateSchedule) (speed : Speed) (from c : ℕ) (q : List (Item T)) (k : ℕ) : Type 0 where
  pub item : Item T
  pub rest : List (Item T)
  pub is_head : q ≡ item ∷ rest
  pub first : IsFirstFit (opens list c) (transmission_time item.len speed) from k
  pub soon : k ≤ from + 2 * 10 ^ 9

head_fits : {T : Type 0} (list : GateSchedule) (speed : Speed) (from c : ℕ) (q : List (Item T)) (k : ℕ) → IsHeadFit list speed from c q (Some k) → HeadFits list speed from c q k
head_fits list speed from c [] k i = absurd i
head_fits list speed from c (x ∷ rest) k i = record { item = x; rest = rest; is_head = refl; first = i.0; soon = i.1 }

-- Holds if the head has the fit `f`, at time `at`.
pub record FitOfHead {T : Type 0} (list : GateSchedule) (speed : Speed) (from c : ℕ) (x : Item T) (f : Option ℕ) : Type 0 where
  pub at : ℕ
  pub is : f ≡ Some at
  pub first : IsFirstFit (opens list c) (transmission_time x.len speed) from at

pub fit_of_head : {T : Type 0} (list : GateSchedule) (speed : Speed) (from c : ℕ) (q : List (Item T)) (x : Item T) (rest : List (Item T)) (f : Option ℕ) → q ≡ x ∷ rest → IsHeadFit list speed from c q f → FitOfHead list speed from c x f
fit_of_head list speed from c [] x rest f e i = absurd (nil_cons x rest e)
fit_of_head list speed from c (y ∷ q) x rest None e i = absurd i
fit_of_head {T} list speed from c (y ∷ q) x rest (Some k) e i =
    let same : y ≡ x = heads y x q rest e in
    record { at = k; is = refl; first = subst (λ (z : Item T). IsFirstFit (opens list c) (transmission_time z.len speed) from k) same i.0 }

-- After class `n` gets its fit, all classes up to `n` have their fits.
pub fits_set_behind : {T : Type 0} (list : GateSchedule) (speed : Speed) (from : ℕ) (queues : List (List (Item T))) (fits : List (Option ℕ)) (n : ℕ) (f : Option ℕ) → n < length fits → IsHeadFit list speed from n (slice_index_or queues n []) f → ((c : ℕ) → c < n → IsHeadFit list speed from c (slice_index_or queues c []) (slice_index_or fits c None)) → (c : ℕ) → c < n + 1 → IsHeadFit list speed from c (slice_index_or queues c []) (slice_index_or (slice_set fits n f) c None)
fits_set_behind {T} list speed from queues fits n f within new behind c l = elim (cases_lt c n) [
  | inl a ↦ let other : c ≢ n = omega arith in rw get_or-set_other (behind c a)
  | inr a ↦
      let same : n ≡ c = omega arith in
      let P : ℕ → Type 0 = λ d. IsHeadFit list speed from d (slice_index_or queues d []) (slice_index_or (slice_set fits n f) d None) in
      subst P same (rw get_or-set_same new)
]

pub fits_set_ahead : {T : Type 0} (list : GateSchedule) (speed : Speed) (from : ℕ) (queues : List (List (Item T))) (fits : List (Option ℕ)) (n : ℕ) (f : Option ℕ) → ((c : ℕ) → n ≤ c → is_past (slice_index_or fits c None) from ≡ false → IsHeadFit list speed from c (slice_index_or queues c []) (slice_index_or fits c None)) → (c : ℕ) → n + 1 ≤ c → is_past (slice_index_or (slice_set fits n f) c None) from ≡ false → IsHeadFit list speed from c (slice_index_or queues c []) (slice_index_or (slice_set fits n f) c None)
fits_set_ahead list speed from queues fits n f ahead c l not_past =
    let other : c ≢ n = omega arith in
    let before : is_past (slice_index_or fits c None) from ≡ false = rw get_or-set_other at not_past in
    rw get_or-set_other (ahead c (omega arith) before)

-- If the eight classes have their fits, all classes have their fits.
pub fits_all : {T : Type 0} (list : GateSchedule) (speed : Speed) (from : ℕ) (queues : List (List (Item T))) (fits : List (Option ℕ)) → length fits ≡ 8 → ((c : ℕ) → c < 8 → IsHeadFit list speed from c (slice_index_or queues c []) (slice_index_or fits c None)) → ((c : ℕ) → 8 ≤ c → is_past (slice_index_or fits c None) from ≡ false → IsHeadFit list speed from c (slice_index_or queues c []) (slice_index_or fits c None)) → (c : ℕ) → IsHeadFit list speed from c (slice_index_or queues c []) (slice_index_or fits c None)
fits_all list speed from queues fits size behind ahead c = elim (cases_lt c 8) [
  | inl a ↦ behind c a
  | inr a ↦
      let none : slice_index_or fits c None ≡ None = get_or_past fits c None (omega arith) in
      ahead c a (ap (λ (f : Option ℕ). is_past f from) none)
]

-- Best head of several classes.

-- The best head depends only on the fits of its classes.
pub best_same : (fits others : List (Option ℕ)) (n : ℕ) (best : Option (ℕ × ℕ)) → ((d : ℕ) → d < n → slice_index_or others d None ≡ slice_index_or fits d None) → IsBestHead fits n best → IsBestHead others n best
best_same fits others n None same b = λ d l. same d l ∙ b d l
best_same fits others n (Some p) same b = record {
  fit = same p.1 b.below ∙ b.fit;
  below = b.below;
  least = λ d u l e. b.least d u l (sym (same d l) ∙ e);
  highest = λ d l e. b.highest d l (sym (same d l) ∙ e);
}

-- Holds if class `c` gains the fit `k`, and the other fits stay.
record GainsFit (fits others : List (Option ℕ)) (n m k c : ℕ) : Type 0 where
  pub below : c < m
  pub more : n ≤ m
  pub gained : slice_index_or others c None ≡ Some k
  pub kept : (d : ℕ) → d < n → d ≢ c → slice_index_or others d None ≡ slice_index_or fits d None
  pub only : (d : ℕ) → d < m → d ≢ c → d < n
  pub new : c < n → slice_index_or fits c None ≡ None

-- Each fit is the gained fit or an earlier fit.
gained_or_kept : (fits others : List (Option ℕ)) (n m k c : ℕ) → GainsFit fits others n m k c → (d u : ℕ) → d < m → slice_index_or others d None ≡ Some u → ((d ≡ c) × (u ≡ k)) ⊎ ((d < n) × (slice_index_or fits d None ≡ Some u))
gained_or_kept fits others n m k c g d u l e = by_bool (nat_eq d c)
    (λ t.
    let same : d ≡ c = grind (arith, nat_tests) in
    let at_c : slice_index_or others c None ≡ Some u = subst (λ (i : ℕ). slice_index_or others i None ≡ Some u) same e in
    inl (same, same_Some _ _ (sym at_c ∙ g.gained)))
    (λ t.
    let other : d ≢ c = λ z. absurd (let w : nat_eq d c ≡ true = grind (arith, nat_tests) in cc) in
    let before = g.only d l other in
    inr (before, sym (g.kept d before other) ∙ e))

-- A class that gains a fit had none.
not_gained : (fits others : List (Option ℕ)) (n m k c d u : ℕ) → GainsFit fits others n m k c → d < n → slice_index_or fits d None ≡ Some u → d ≢ c
not_gained fits others n m k c d u g l e = λ z.
    let below : c < n = omega arith in
    let none : slice_index_or fits d None ≡ None = subst (λ (i : ℕ). slice_index_or fits i None ≡ None) (sym z) (g.new below) in
    absurd (none-some u (sym none ∙ e))

best_first : (fits others : List (Option ℕ)) (n m k c : ℕ) → GainsFit fits others n m k c → IsBestHead fits n None → IsSoonestHead others m k c
best_first fits others n m k c g b = record {
  fit = g.gained;
  below = g.below;
  least = λ d u l e. elim (gained_or_kept fits others n m k c g d u l e) [ inl q ↦ let same = q.1 in omega arith | inr q ↦ absurd (none-some u (sym (b d q.0) ∙ q.1)) ];
  highest = λ d l e. elim (gained_or_kept fits others n m k c g d k l e) [ inl q ↦ let same = q.0 in omega arith | inr q ↦ absurd (none-some k (sym (b d q.0) ∙ q.1)) ];
}

best_stays : (fits others : List (Option ℕ)) (n m k c : ℕ) (p : ℕ × ℕ) → GainsFit fits others n m k c → IsSoonestHead fits n p.0 p.1 → (p.0 < k) ⊎ ((p.0 ≡ k) × (c < p.1)) → IsSoonestHead others m p.0 p.1
best_stays fits others n m k c p g b sooner_head = record {
  fit = g.kept p.1 b.below (not_gained fits others n m k c p.1 p.0 g b.below b.fit) ∙ b.fit;
  below = let a = b.below in let more = g.more in omega arith;
  least = λ d u l e. elim (gained_or_kept fits others n m k c g d u l e) [
    | inl q ↦ let same = q.1 in elim sooner_head [ inl a ↦ omega arith | inr a ↦ let equal = a.0 in omega arith ]
    | inr q ↦ b.least d u q.0 q.1
  ];
  highest = λ d l e. elim (gained_or_kept fits others n m k c g d p.0 l e) [
    | inl q ↦ let same = q.0 in let moment = q.1 in elim sooner_head [ inl a ↦ omega arith | inr a ↦ let higher = a.1 in omega arith ]
    | inr q ↦ b.highest d q.0 q.1
  ];
}

best_yields : (fits others : List (Option ℕ)) (n m k c : ℕ) (p : ℕ × ℕ) → GainsFit fits others n m k c → IsSoonestHead fits n p.0 p.1 → (k < p.0) ⊎ ((p.0 ≡ k) × (p.1 ≤ c)) → IsSoonestHead others m k c
best_yields fits others n m k c p g b later = record {
  fit = g.gained;
  below = g.below;
  least = λ d u l e. elim (gained_or_kept fits others n m k c g d u l e) [
    | inl q ↦ let same = q.1 in omega arith
    | inr q ↦ let least = b.least d u q.0 q.1 in elim later [ inl a ↦ omega arith | inr a ↦ let equal = a.0 in omega arith ]
  ];
  highest = λ d l e. elim (gained_or_kept fits others n m k c g d k l e) [
    | inl q ↦ let same = q.0 in omega arith
    | inr q ↦ let least = b.least d k q.0 q.1 in elim later [
      | inl a ↦ omega arith
      | inr a ↦
          let equal = a.0 in
          let lower = a.1 in
          let highest = b.highest d q.0 (subst (λ (u : ℕ). slice_index_or fits d None ≡ Some u) (sym equal) q.1) in
          omega arith
    ]
  ];
}

stays_cases : (a k c d : ℕ) → nat_lt a k || (nat_eq a k && nat_lt c d) ≡ true → (a < k) ⊎ ((a ≡ k) × (c < d))
stays_cases a k c d h = by_bool (nat_lt a k)
    (λ e. inl (grind (arith, nat_tests)))
    (λ e.
    let both : nat_eq a k && nat_lt c d ≡ true = rw e at h in
    by_bool (nat_eq a k)
    (λ f.
    let higher : nat_lt c d ≡ true = rw f at both in
    let equal : a ≡ k = grind (arith, nat_tests) in
    let above : c < d = grind (arith, nat_tests) in inr (equal, above))
    (λ f. absurd (let no : false ≡ true = rw f at both in cc)))

yields_cases : (a k c d : ℕ) → nat_lt a k || (nat_eq a k && nat_lt c d) ≡ false → (k < a) ⊎ ((a ≡ k) × (d ≤ c))
yields_cases a k c d h = by_bool (nat_lt a k)
    (λ e. absurd (let no : true ≡ false = rw e at h in cc))
    (λ e.
    let both : nat_eq a k && nat_lt c d ≡ false = rw e at h in
    by_bool (nat_eq a k)
    (λ f.
    let lower : nat_lt c d ≡ false = rw f at both in
    let equal : a ≡ k = grind (arith, nat_tests) in
    let below : d ≤ c = grind (arith, nat_tests) in inr (equal, below))
    (λ f. let after : k < a = grind (arith, nat_tests) in inl after))

best_gained : (fits others : List (Option ℕ)) (n m k c : ℕ) (best : Option (ℕ × ℕ)) → GainsFit fits others n m k c → IsBestHead fits n best → IsBestHead others m (sooner_head best k c)
best_gained fits others n m k c None g b = best_first fits others n m k c g b
best_gained fits others n m k c (Some p) g b = by_bool (nat_lt p.0 k || (nat_eq p.0 k && nat_lt c p.1))
    (λ e. rw e (best_stays fits others n m k c p g b (stays_cases p.0 k c p.1 e)))
    (λ e. rw e (best_yields fits others n m k c p g b (yields_cases p.0 k c p.1 e)))

-- A class with an empty queue leaves the best head unchanged.
best_skip : (fits : List (Option ℕ)) (n : ℕ) (best : Option (ℕ × ℕ)) → slice_index_or fits n None ≡ None → IsBestHead fits n best → IsBestHead fits (n + 1) best
best_skip fits n None none b = λ d l. elim (cases_lt d n) [ inl a ↦ b d a | inr k ↦ let same : n ≡ d = omega arith in subst (λ (m : ℕ). slice_index_or fits m None ≡ None) same none ]
best_skip fits n (Some p) none b =
    let not_last = λ (d u : ℕ) (k : n ≤ d) (l : d < n + 1) (e : slice_index_or fits d None ≡ Some u). let same : d ≡ n = omega arith in none-some u (sym none ∙ subst (λ (m : ℕ). slice_index_or fits m None ≡ Some u) same e) in
    record {
      fit = b.fit;
      below = let z = b.below in omega arith;
      least = λ d u l e. elim (cases_lt d n) [ inl k ↦ b.least d u k e | inr k ↦ absurd (not_last d u k l e) ];
      highest = λ d l e. elim (cases_lt d n) [ inl k ↦ b.highest d k e | inr k ↦ absurd (not_last d p.0 k l e) ];
    }

-- Best head after a class without a head gains one.
pub best_put : (fits : List (Option ℕ)) (n k c : ℕ) (best : Option (ℕ × ℕ)) → c < n → c < length fits → slice_index_or fits c None ≡ None → IsBestHead fits n best → IsBestHead (slice_set fits c (Some k)) n (sooner_head best k c)
best_put fits n k c best l within none b = best_gained fits (slice_set fits c (Some k)) n n k c best (record {
  below = l;
  more = omega arith;
  gained = rw get_or-set_same refl;
  kept = λ d a other. rw get_or-set_other refl;
  only = λ d a other. a;
  new = λ a. none;
}) b

set_other : (fits : List (Option ℕ)) (n d : ℕ) (f : Option ℕ) → d ≢ n → slice_index_or (slice_set fits n f) d None ≡ slice_index_or fits d None
set_other fits n d f other = rw get_or-set_other refl

-- Best head with the next class.
pub best_more : (fits : List (Option ℕ)) (n : ℕ) (f : Option ℕ) (best : Option (ℕ × ℕ)) → n < length fits → IsBestHead fits n best → IsBestHead (slice_set fits n f) (n + 1) (sooner_optional_head best f n)
best_more fits n None best within b =
    let others = slice_set fits n None in
    let same : slice_index_or others n None ≡ None = rw get_or-set_same refl in
    best_skip others n best same (best_same fits others n best (λ d l. let other : d ≢ n = omega arith in set_other fits n d None other) b)
best_more fits n (Some k) best within b = best_gained fits (slice_set fits n (Some k)) n (n + 1) k n best (record {
  below = omega arith;
  more = omega arith;
  gained = rw get_or-set_same refl;
  kept = λ d a other. set_other fits n d (Some k) other;
  only = λ d a other. omega arith;
  new = λ a. absurd (omega arith);
}) b

-- Next start.

-- The best head of all classes is the next start.
pub best_is_next : {T : Type 0} (p : EgressState T) (fits : List (Option ℕ)) (best : Option (ℕ × ℕ)) → length p.queues ≡ 8 → AreHeadFits p fits → IsBestHead fits 8 best → MatchOption best (IsIdle p) (λ b. StartsNext p b.0 b.1)
best_is_next {T} p fits None eight are b = λ c. elim (cases_lt c 8) [
  | inl a ↦
      let P : Option ℕ → Type 0 = λ f. IsHeadFit p.list p.speed (max p.free p.earliest) c (class_queue p c) f in
      nothing_queued p.list p.speed (max p.free p.earliest) c (class_queue p c) (subst P (b c a) (are c))
  | inr k ↦ get_or_past p.queues c [] (omega arith)
]
best_is_next {T} p fits (Some s) eight are b =
    let from = max p.free p.earliest in
    let P : Option ℕ → Type 0 = λ f. IsHeadFit p.list p.speed from s.1 (class_queue p s.1) f in
    let h = head_fits p.list p.speed from s.1 (class_queue p s.1) s.0 (subst P b.fit (are s.1)) in
    let after = h.first.after in
    let below = b.below in
    let other = λ (d : ℕ) (y : Item T) (others : List (Item T)) (e : class_queue p d ≡ y ∷ others). fit_of_head p.list p.speed from d (class_queue p d) y others (slice_index_or fits d None) e (are d) in
    let within = λ (d : ℕ) (y : Item T) (others : List (Item T)) (e : class_queue p d ≡ y ∷ others). let l = below_length p.queues d y others e in let m : d < 8 = omega arith in m in
    record {
      item = h.item;
      next = record {
        rest = h.rest;
        is_head = h.is_head;
        after = omega arith;
        free = omega arith;
        fits = h.first.fits;
        least = λ d y others e u a f l.
            let o = other d y others e in
            let least = b.least d o.at (within d y others e) o.is in
            o.first.least u (omega arith) (omega arith);
        highest = λ d y others e z.
            let o = other d y others e in
            let least = b.least d o.at (within d y others e) o.is in
            elim (cases_lt s.0 o.at) [
              | inl l ↦ absurd (o.first.least s.0 (omega arith) l z)
              | inr l ↦ let same : o.at ≡ s.0 = omega arith in b.highest d (within d y others e) (subst (λ (u : ℕ). slice_index_or fits d None ≡ Some u) same o.is)
            ];
      };
      soon = h.soon;
      below = omega arith;
    }

-- No frame can start before the next start.
pub calm_until : {T : Type 0} (p : EgressState T) (k c h : ℕ) → StartsNext p k c → h ≤ k → HasNoStartEarlier p h
calm_until p k c h s until = λ d y others e u a f l. s.next.least d y others e u a f (omega arith)
