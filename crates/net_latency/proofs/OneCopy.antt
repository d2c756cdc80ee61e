-- If the frames of a filter arrive in periods of their own, a port has at most one copy of the filter for each arrival time.
use Rattle.std.proofs.Common.{◌≡◌, ◌<◌, ℕ, true, List, [], ◌∷◌, ◌++◌, Some, nat_eq, refl, sym, ap, ◌∙◌, subst, inl, inr, arith}
use Rattle.bridge_limits.specs.Members.{IsMember, IsOrdered, RelatesToEach}
use Rattle.bridge_limits.proofs.Cases.{by_bool}
use Rattle.bridge_limits.proofs.Members.{in_either}
use Rattle.bridge_filter.specs.declared.FilterPlan.{FilterPlan}
use Rattle.bridge_port.specs.Schedule.{Copy}
use Rattle.bridge_config.specs.declared.ports.PortPlan.{PortPlan}
use Rattle.bridge_config.specs.Model.{Plan}
use Rattle.bridge_config.specs.Rules.{IsPlan, find_port}
use Rattle.bridge_check.specs.Acceptable.{IsAcceptable}
use Rattle.bridge_semantics.specs.Events.{Arrival, Arrived, Cleared, Event, frame_destination, own_events}
use Rattle.bridge_semantics.specs.Offers.{CarriedFrame, Offer, arrival_offer, class_offers, copy_offers, port_offers}
use Rattle.bridge_semantics.specs.Runs.{AreFinished, IsRun}
use Rattle.bridge_semantics.proofs.Headline.{as_offer, in_class_in, in_offered, own_alone}
use Rattle.bridge_semantics.proofs.Views.{after_all}
use Rattle.bridge_bounds.specs.declared.traffic.Traffic.{Traffic}
use Rattle.bridge_bounds.specs.Traffic.{ComeInPeriods, IsTraffic, KeepsTraffic}
use Rattle.bridge_groups.proofs.OneOffers.{one_by_way}

-- LISTS BY FALLING TIME

-- In a list whose keys fall, two members with equal keys are the same.
one_by_key : {X : Type 0} (key : X → ℕ) (x y : X) (xs : List X) → IsOrdered (λ (a b : X). key b < key a) xs → IsMember x xs → IsMember y xs → key x ≡ key y → x ≡ y
one_by_key key x y [] order i j same = absurd i
one_by_key key x y (z ∷ zs) order (inl a) (inl b) same = a ∙ sym b
one_by_key {X} key x y (z ∷ zs) order (inl a) (inr j) same =
    let less : key y < key z = after_all (λ (v w : X). key w < key v) z y zs order.0 j in
    let here : key x ≡ key z = ap key a in
    absurd (omega (arith, less, here, same))
one_by_key {X} key x y (z ∷ zs) order (inr i) (inl b) same =
    let less : key x < key z = after_all (λ (v w : X). key w < key v) z x zs order.0 i in
    let here : key y ≡ key z = ap key b in
    absurd (omega (arith, less, here, same))
one_by_key key x y (z ∷ zs) order (inr i) (inr j) same = one_by_key key x y zs order.1 i j same

relates : {X : Type 0} (R : X → X → Type 0) (x : X) (xs : List X) → ((y : X) → IsMember y xs → R x y) → RelatesToEach R x xs
relates R x [] each = tt
relates R x (y ∷ ys) each = (each y (inl refl), relates R x ys (λ z i. each z (inr i)))

-- OFFERS

-- Offer `b` is earlier than offer `a`.
abbrev IsEarlier : Offer → Offer → Type 0
IsEarlier a b = b.at < a.at

class_relates : (c : ℕ) (o : Offer) (os : List Offer) → RelatesToEach IsEarlier o os → RelatesToEach IsEarlier o (class_offers c os)
class_relates c o [] all = tt
class_relates c o (x ∷ xs) all = by_bool (nat_eq x.class c) (λ k. rw k (all.0, class_relates c o xs all.1)) (λ k. rw k (class_relates c o xs all.1))

class_ordered : (c : ℕ) (os : List Offer) → IsOrdered IsEarlier os → IsOrdered IsEarlier (class_offers c os)
class_ordered c [] order = tt
class_ordered c (x ∷ xs) order = by_bool (nat_eq x.class c) (λ k. rw k (class_relates c x xs order.0, class_ordered c xs order.1)) (λ k. rw k (class_ordered c xs order.1))

copies_relate : (x : Copy CarriedFrame) (xs : List (Copy CarriedFrame)) → RelatesToEach IsEarlier (as_offer x) (copy_offers xs) → RelatesToEach (λ (a b : Copy CarriedFrame). b.at < a.at) x xs
copies_relate x [] all = tt
copies_relate x (y ∷ ys) all = (all.0, copies_relate x ys all.1)

copies_ordered : (xs : List (Copy CarriedFrame)) → IsOrdered IsEarlier (copy_offers xs) → IsOrdered (λ (a b : Copy CarriedFrame). b.at < a.at) xs
copies_ordered [] order = tt
copies_ordered (x ∷ xs) order = (copies_relate x xs order.0, copies_ordered xs order.1)

module _ {A : Type 0} (p : Plan A) (out : PortPlan A) (t : Traffic) (traffic : IsTraffic t) where
  at_frame : (a : Arrival) (es : List Event) (o : Offer) → IsMember o (arrival_offer p out a es) → o.at ≡ a.at
  at_frame a es o i = elim (one_by_way p out a es (frame_destination p a)) [
    | inl none ↦ let z : ⊥ = subst (IsMember o) none i in absurd z
    | inr one ↦ (let (x, is, at) = one in
        let j : IsMember o (x ∷ []) = subst (IsMember o) is i in
        elim j [ inl same ↦ ap (λ (z : Offer). z.at) same ∙ at | inr z ↦ absurd z ])
  ]

  offers_below : (next : ℕ) (es : List Event) → ComeInPeriods t next es → (o : Offer) → IsMember o (port_offers p out es) → o.at < next
  offers_below next [] come o i = absurd i
  offers_below next (Cleared c m ∷ es) come o i = offers_below next es come o i
  offers_below next (Arrived a ∷ es) come o i =
      let (m, multiple, before, low, high, least, most, rest) = come in
      let within = traffic.within in
      elim (in_either o (arrival_offer p out a es) (port_offers p out es) i) [
        | inl here ↦ let at = at_frame a es o here in omega (arith, at, high, within, before)
        | inr later ↦ let less = offers_below m es rest o later in omega (arith, less, before)
      ]

  offers_ordered : (next : ℕ) (es : List Event) → ComeInPeriods t next es → IsOrdered IsEarlier (port_offers p out es)
  offers_ordered next [] come = tt
  offers_ordered next (Cleared c m ∷ es) come = offers_ordered next es come
  offers_ordered next (Arrived a ∷ es) come =
      let (m, multiple, before, low, high, least, most, rest) = come in
      let more = offers_ordered m es rest in
      elim (one_by_way p out a es (frame_destination p a)) [
        | inl none ↦ subst (λ (os : List Offer). IsOrdered IsEarlier (os ++ port_offers p out es)) (sym none) more
        | inr one ↦ (let (x, is, at) = one in
            subst (λ (os : List Offer). IsOrdered IsEarlier (os ++ port_offers p out es)) (sym is)
            (relates IsEarlier x (port_offers p out es) (λ y i. let less = offers_below m es rest y i in omega (arith, less, low, at)), more))
      ]

-- Two copies of a filter at a port with the same arrival time are the same copy.
pub one_copy : {A : Type 0} (p : Plan A) (n q : ℕ) (f : FilterPlan) (out : PortPlan A) (es : List Event) (moments : ℕ → ℕ) (lists : ℕ → List (Copy CarriedFrame)) (t : Traffic) (x y : Copy CarriedFrame) → IsPlan p → IsAcceptable p → IsMember (n, f) p.filters → f.protected ≡ true → IsRun p es moments lists → AreFinished lists → find_port p.ports q ≡ Some out
    → IsTraffic t → KeepsTraffic t (own_events p n f es) → IsMember x (lists q) → IsMember y (lists q) → x.item.flow ≡ Some n → y.item.flow ≡ Some n → x.at ≡ y.at → x ≡ y
one_copy p n q f out es moments lists t x y plan good listed is run whole at traffic (next, come) ix iy fx fy same =
    let alone = own_alone p n f es moments lists plan good listed is run whole in
    let offers : List Offer = port_offers p out (own_events p n f es) in
    let order : IsOrdered IsEarlier offers = offers_ordered p out t traffic next (own_events p n f es) come in
    let (c, i) = (alone.same q x).0 (ix, fx) in
    let (d, j) = (alone.same q y).0 (iy, fy) in
    let (among, class) = in_class_in c (as_offer x) offers (subst (IsMember (as_offer x)) (alone.solo.offers q c out at) (in_offered x (alone.own q c) i)) in
    let (also, kind) = in_class_in d (as_offer y) offers (subst (IsMember (as_offer y)) (alone.solo.offers q d out at) (in_offered y (alone.own q d) j)) in
    let one : as_offer x ≡ as_offer y = one_by_key (λ (o : Offer). o.at) (as_offer x) (as_offer y) offers order among also same in
    let equal : d ≡ c = sym kind ∙ (sym (ap (λ (o : Offer). o.class) one) ∙ class) in
    let there : IsMember y (alone.own q c) = subst (λ (k : ℕ). IsMember y (alone.own q k)) equal j in
    let falls = copies_ordered (alone.own q c) (subst (IsOrdered IsEarlier) (sym (alone.solo.offers q c out at)) (class_ordered c offers order)) in
    one_by_key (λ (z : Copy CarriedFrame). z.at) x y (alone.own q c) falls i there same
