-- A list of events determines a filter's record.
use Rattle.std.proofs.Common.{◌≡◌, ◌≤◌, ℕ, List, [], ◌∷◌, arith, refl, ap, ◌∙◌, sym, subst, inl, inr, Option, Some, None}
use Rattle.bridge_limits.specs.Members.{IsMember}
use Rattle.bridge_filter.specs.declared.FilterPlan.{FilterPlan}
use Rattle.bridge_port.specs.Schedule.{Copy, PortRules, Started}
use Rattle.bridge_port.specs.Solo.{HaveSameOffers, IsSolo, IsSoloFate}
use Rattle.bridge_port.proofs.Alone.{one_outcome}
use Rattle.bridge_config.specs.declared.ports.PortPlan.{PortPlan}
use Rattle.bridge_config.specs.Model.{Plan}
use Rattle.bridge_config.specs.Rules.{find_port}
use Rattle.bridge_semantics.specs.declared.outcome.Departure.{Departure}
use Rattle.bridge_semantics.specs.declared.outcome.Dropped.{Dropped}
use Rattle.bridge_semantics.specs.declared.outcome.View.{View}
use Rattle.bridge_semantics.specs.Events.{Event}
use Rattle.bridge_semantics.specs.Offers.{CarriedFrame, Offer, egress_rules, copy_offers}
use Rattle.bridge_limits.specs.Members.{RelatesToEach, IsOrdered}
use Rattle.bridge_semantics.specs.Runs.{DepartsEarlier, DropsEarlier, IsFilterDeparture, IsFilterDrop, IsFilterDelay, IsGreatestNumber, IsSoloView, AreSameViews}

pub after_all : {X : Type 0} (R : X → X → Type 0) (x z : X) (ys : List X) → RelatesToEach R x ys → IsMember z ys → R x z
after_all R x z [] h i = absurd i
after_all R x z (y ∷ ys) h (inl e) = subst (R x) (sym e) h.0
after_all R x z (y ∷ ys) h (inr i) = after_all R x z ys h.1 i

-- Two ordered lists with the same members are equal.
pub rising_one : {X : Type 0} (R : X → X → Type 0) → ((x y : X) → R x y → R y x → ⊥) → (xs ys : List X) → IsOrdered R xs → IsOrdered R ys → ((z : X) → IsMember z xs → IsMember z ys) → ((z : X) → IsMember z ys → IsMember z xs) → xs ≡ ys
rising_one R asym [] [] a b f g = refl
rising_one R asym [] (y ∷ ys) a b f g = absurd (g y (inl refl))
rising_one R asym (x ∷ xs) [] a b f g = absurd (f x (inl refl))
rising_one {X} R asym (x ∷ xs) (y ∷ ys) a b f g =
    let same : x ≡ y = elim (f x (inl refl)) [
      | inl e ↦ e
      | inr i ↦ elim (g y (inl refl)) [ inl e ↦ sym e | inr j ↦ absurd (asym x y (after_all R x y xs a.0 j) (after_all R y x ys b.0 i)) ]
    ] in
    let to : (z : X) → IsMember z xs → IsMember z ys = λ z i. elim (f z (inr i)) [
      | inl e ↦ absurd (let r : R x z = after_all R x z xs a.0 i in let k : z ≡ x = e ∙ sym same in asym x x (subst (R x) k r) (subst (R x) k r))
      | inr j ↦ j
    ] in
    let from : (z : X) → IsMember z ys → IsMember z xs = λ z i. elim (g z (inr i)) [
      | inl e ↦ absurd (let r : R y z = after_all R y z ys b.0 i in let k : z ≡ y = e ∙ same in asym y y (subst (R y) k r) (subst (R y) k r))
      | inr j ↦ j
    ] in
    let rest : xs ≡ ys = rising_one R asym xs ys a.1 b.1 to from in
    rw (same, rest) refl

departed_once : (a b : Departure) → DepartsEarlier a b → DepartsEarlier b a → ⊥
departed_once a b (inl l) (inl m) = omega (arith, l, m)
departed_once a b (inl l) (inr m) = let e = m.0 in omega (arith, l, e)
departed_once a b (inr l) (inl m) = let e = l.0 in omega (arith, m, e)
departed_once a b (inr l) (inr m) = let x = l.1 in let y = m.1 in omega (arith, x, y)

dropped_once : (a b : Dropped) → DropsEarlier a b → DropsEarlier b a → ⊥
dropped_once a b (inl l) (inl m) = omega (arith, l, m)
dropped_once a b (inl l) (inr m) = let e = m.0 in omega (arith, l, e)
dropped_once a b (inr l) (inl m) = let e = l.0 in omega (arith, m, e)
dropped_once a b (inr l) (inr m) = let x = l.1 in let y = m.1 in omega (arith, x, y)

greatest_one : (P : ℕ → Type 0) (m n : Option ℕ) → IsGreatestNumber P m → IsGreatestNumber P n → m ≡ n
greatest_one P None None a b = refl
greatest_one P None (Some n) a b = absurd (a n b.0)
greatest_one P (Some m) None a b = absurd (b m a.0)
greatest_one P (Some m) (Some n) a b = ap Some (let x = a.1 n b.0 in let y = b.1 m a.0 in omega (arith, x, y))

pub cons_is : {X : Type 0} (a b : X) (xs ys : List X) → a ∷ xs ≡ b ∷ ys → (a ≡ b) × (xs ≡ ys)
cons_is a b xs ys h = (cc, cc)

-- COPIES AT PORTS

pub departs_as : {A : Type 0} (p : Plan A) (s : ℕ) (P Q : ℕ → Copy CarriedFrame → Type 0) → ((q : ℕ) (x : Copy CarriedFrame) → x.item.flow ≡ Some s → P q x → Q q x) → (d : Departure) → IsFilterDeparture p s P d → IsFilterDeparture p s Q d
departs_as p s P Q h d r = record { out = r.out; copy = r.copy; at = r.at; lies = h d.port r.copy r.flow r.lies; flow = r.flow; own = r.own; started = r.started; done = r.done }

pub drops_as : {A : Type 0} (p : Plan A) (s : ℕ) (P Q : ℕ → Copy CarriedFrame → Type 0) → ((q : ℕ) (x : Copy CarriedFrame) → x.item.flow ≡ Some s → P q x → Q q x) → (d : Dropped) → IsFilterDrop p s P d → IsFilterDrop p s Q d
drops_as p s P Q h d r = record { copy = r.copy; lies = h d.port r.copy r.flow r.lies; flow = r.flow; own = r.own; refused = r.refused }

pub delayed_as : {A : Type 0} (p : Plan A) (s : ℕ) (P Q : ℕ → Copy CarriedFrame → Type 0) → ((q : ℕ) (x : Copy CarriedFrame) → x.item.flow ≡ Some s → P q x → Q q x) → (n : ℕ) → IsFilterDelay p s P n → IsFilterDelay p s Q n
delayed_as p s P Q h n r = record { port = r.port; out = r.out; copy = r.copy; start = r.start; at = r.at; lies = h r.port r.copy r.flow r.lies; flow = r.flow; started = r.started; delay = r.delay }

pub greatest_as : (P Q : ℕ → Type 0) → ((n : ℕ) → P n → Q n) → ((n : ℕ) → Q n → P n) → (m : Option ℕ) → IsGreatestNumber P m → IsGreatestNumber Q m
greatest_as P Q f g None h = λ n q. h n (g n q)
greatest_as P Q f g (Some m) h = (f m h.0, λ n q. h.1 n (g n q))

-- ONE RECORD

pub same_offers : (xs ys : List (Copy CarriedFrame)) → copy_offers xs ≡ copy_offers ys → HaveSameOffers xs ys
same_offers [] [] e = tt
same_offers [] (y ∷ ys) e = absurd (cc)
same_offers (x ∷ xs) [] e = absurd (cc)
same_offers (x ∷ xs) (y ∷ ys) e =
    let r = cons_is (record { at = x.at; class = x.class; item = x.item }) (record { at = y.at; class = y.class; item = y.item }) (copy_offers xs) (copy_offers ys) e in
    (ap (λ (o : Offer). o.at) r.0, ap (λ (o : Offer). o.class) r.0, ap (λ (o : Offer). o.item) r.0, same_offers xs ys r.1)

same_lists : {A : Type 0} (p : Plan A) (s : ℕ) (f : FilterPlan) (es : List Event) (u v : View A) (a : IsSoloView p s f es u) (b : IsSoloView p s f es v) (q c : ℕ) (o : Option (PortPlan A)) → find_port p.ports q ≡ o → a.lists q c ≡ b.lists q c
same_lists p s f es u v a b q c None e = a.solo.others q c e ∙ sym (b.solo.others q c e)
same_lists p s f es u v a b q c (Some out) e = one_outcome (egress_rules out) (a.lists q c) (b.lists q c) (same_offers (a.lists q c) (b.lists q c) (a.solo.offers q c out e ∙ sym (b.solo.offers q c out e))) (a.solo.solo q c out e) (b.solo.solo q c out e)

-- Two records of a filter for equal events are equal.
pub told_once : {A : Type 0} (p : Plan A) (s : ℕ) (f : FilterPlan) (es : List Event) (u v : View A) → IsSoloView p s f es u → IsSoloView p s f es v → AreSameViews u v
told_once {A} p s f es u v a b =
    let P : ℕ → Copy CarriedFrame → Type 0 = λ q x. (c : ℕ) × IsMember x (a.lists q c) in
    let Q : ℕ → Copy CarriedFrame → Type 0 = λ q x. (c : ℕ) × IsMember x (b.lists q c) in
    let lists : (q c : ℕ) → a.lists q c ≡ b.lists q c = λ q c. same_lists p s f es u v a b q c (find_port p.ports q) refl in
    let to : (q : ℕ) (x : Copy CarriedFrame) → x.item.flow ≡ Some s → P q x → Q q x = λ q x e i. (i.0, subst (λ (xs : List (Copy CarriedFrame)). IsMember x xs) (lists q i.0) i.1) in
    let from : (q : ℕ) (x : Copy CarriedFrame) → x.item.flow ≡ Some s → Q q x → P q x = λ q x e i. (i.0, subst (λ (xs : List (Copy CarriedFrame)). IsMember x xs) (sym (lists q i.0)) i.1) in
    let m = a.view.told in
    let n = b.view.told in
    record {
      protected = a.view.protected ∙ sym b.view.protected;
      verdicts = a.view.verdicts ∙ sym b.view.verdicts;
      origins = a.view.origins ∙ sym b.view.origins;
      counters = a.view.counters ∙ sym b.view.counters;
      flags = a.view.flags ∙ sym b.view.flags;
      buckets = a.view.buckets ∙ sym b.view.buckets;
      departures = rising_one DepartsEarlier departed_once u.departures.items v.departures.items m.departures_rise n.departures_rise
          (λ d i. (n.departures_are d).1 (departs_as p s P Q to d ((m.departures_are d).0 i)))
          (λ d i. (m.departures_are d).1 (departs_as p s Q P from d ((n.departures_are d).0 i)));
      drops = rising_one DropsEarlier dropped_once u.drops.items v.drops.items m.drops_rise n.drops_rise
          (λ d i. (n.drops_are d).1 (drops_as p s P Q to d ((m.drops_are d).0 i)))
          (λ d i. (m.drops_are d).1 (drops_as p s Q P from d ((n.drops_are d).0 i)));
      delay = greatest_one (IsFilterDelay p s Q) u.delay v.delay (greatest_as (IsFilterDelay p s P) (IsFilterDelay p s Q) (delayed_as p s P Q to) (delayed_as p s Q P from) u.delay m.longest) n.longest;
    }

-- In a queue by itself, a copy starts at its offer or later.
pub solo_after : (r : PortRules CarriedFrame) (s : ℕ) (x : Copy CarriedFrame) (xs : List (Copy CarriedFrame)) → IsSolo r xs → IsMember x xs → x.fate ≡ Started s → x.at ≤ s
solo_after r s x [] h i f = absurd i
solo_after r s x (y ∷ ys) h (inl e) f =
    let is : y.fate ≡ Started s = subst (λ (z : Copy CarriedFrame). z.fate ≡ Started s) e f in
    let fate : IsSoloFate r y ys (Started s) = subst (IsSoloFate r y ys) is h.0 in
    let after = fate.2.after in
    let same : x.at ≡ y.at = ap (λ (z : Copy CarriedFrame). z.at) e in
    omega (arith, after, same)
solo_after r s x (y ∷ ys) h (inr i) f = solo_after r s x ys h.1 i f
