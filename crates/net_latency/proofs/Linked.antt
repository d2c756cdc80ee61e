-- In an accepted network each port has at most one link, so the two ends of a link name each other.
use Rattle.std.proofs.Common.{◌≡◌, ◌+◌, ℕ, zero, suc, Bool, true, false, ◌||◌, List, [], ◌∷◌, map, Option, Some, None, nat_eq, refl, sym, ap, ap₂, subst, inl, inr, length, take}
use Rattle.std.specs.Prelude.{◌⊎◌, option_map, slice_get}
use Rattle.std.proofs.lemmas.Bool.{and_parts, eqb-true, false≢true}
use Rattle.std.proofs.lemmas.Option.{same_Some, slice_get_within}
use Rattle.bridge_limits.proofs.Cases.{by_bool}
use Rattle.bridge_limits.proofs.Orders.{same_eq}
use Rattle.bridge_check.proofs.Isolated.{both_none, told_none}
use Rattle.net_model.specs.declared.fault.NetworkFault.{NetworkFault}
use Rattle.net_model.specs.declared.fault.NetworkFault.TheVariants as fault
use Rattle.net_model.specs.declared.links.BridgePort.{BridgePort}
use Rattle.net_model.specs.declared.links.Link.{Link}
use Rattle.net_model.specs.Faults.{doubly_linked_end, first_by_index, first_fault, if_some, is_linked, is_same_port}
use Rattle.net_model.specs.NetworkParts.{NetworkParts, end_value, link_value}
use Rattle.net_model.specs.Networks.{End, Sender, is_bridge_port, sender}
use Rattle.net_model.proofs.Firsts.{none_at}

-- No link has a port of an earlier link, or joins a port with itself.
abbrev pub AreSingle : List Link → Type 0
AreSingle links = (i : ℕ) (l : Link) → slice_get links i ≡ Some l → doubly_linked_end (take i links) l ≡ None

pub are_single : {A : Type 0} (n : NetworkParts A) → first_fault n ≡ None → AreSingle n.links
are_single n h i l at =
    let (there, rest) = both_none _ _ h in
    let tell : ℕ → Link → Option NetworkFault = λ j m. option_map (fault.LinkTwice (j + 1)) (doubly_linked_end (take j n.links) m) in
    let twice : first_by_index tell n.links ≡ None = (both_none _ _ rest).0 in
    let none : if_some (tell i) (slice_get n.links i) ≡ None = none_at (length n.links) (λ j. if_some (tell j) (slice_get n.links j)) twice i (slice_get_within n.links i l at) in
    let here : tell i l ≡ None = subst (λ (o : Option Link). if_some (tell i) o ≡ None) at none in
    told_none (fault.LinkTwice (i + 1)) (doubly_linked_end (take i n.links) l) here

-- The ends of a link whose ports have no earlier link.
record AreFree (before : List Link) (l : Link) : Type 0 where
  one : is_linked before l.one ≡ false
  other : is_linked before l.other ≡ false
  differ : is_same_port l.one l.other ≡ false

either_false : (a b : Bool) → (a || b) ≡ false → (a ≡ false) × (b ≡ false)
either_false true b h = absurd (false≢true (sym h))
either_false false b h = (refl, h)

free : (before : List Link) (l : Link) → doubly_linked_end before l ≡ None → AreFree before l
free before l h = by_bool (is_linked before l.one)
    (λ k. let z : Some l.one ≡ None = rw k at h in absurd (cc))
    (λ k. by_bool (is_linked before l.other || is_same_port l.one l.other)
    (λ j. let z : Some l.other ≡ None = rw (k, j) at h in absurd (cc))
    (λ j. let (a, b) = either_false (is_linked before l.other) (is_same_port l.one l.other) j in record { one = k; other = a; differ = b }))

bound_free : (before : List Link) (l : Link) → AreFree before l → doubly_linked_end before l ≡ None
bound_free before l is = rw (is.one, is.other, is.differ) refl

-- If a port has no link in a list, it is no end of the first link, and has none in the rest.
record IsApart (l : Link) (before : List Link) (e : BridgePort) : Type 0 where
  one : is_bridge_port (end_value l.one) e.bridge e.port ≡ false
  other : is_bridge_port (end_value l.other) e.bridge e.port ≡ false
  rest : is_linked before e ≡ false

stands_apart : (l : Link) (before : List Link) (e : BridgePort) → is_linked (l ∷ before) e ≡ false → IsApart l before e
stands_apart l before e h = by_bool (is_bridge_port (end_value l.one) e.bridge e.port)
    (λ k. let z : true ≡ false = rw k at h in absurd (false≢true (sym z)))
    (λ k. by_bool (is_bridge_port (end_value l.other) e.bridge e.port)
    (λ j. let z : true ≡ false = rw (k, j) at h in absurd (false≢true (sym z)))
    (λ j. let z : is_linked before e ≡ false = rw (k, j) at h in record { one = k; other = j; rest = z }))

later_single : (l : Link) (ls : List Link) → AreSingle (l ∷ ls) → AreSingle ls
later_single l ls single i m at =
    let is = free (l ∷ take i ls) m (single (suc i) m at) in
    bound_free (take i ls) m (record { one = (stands_apart l (take i ls) m.one is.one).rest; other = (stands_apart l (take i ls) m.other is.other).rest; differ = is.differ })

-- The other end of a port's link is an end of a link in the list.
record HasFarEnd (ls : List Link) (e : End) : Type 0 where
  place : ℕ
  link : Link
  at : slice_get ls place ≡ Some link
  is : (e ≡ end_value link.one) ⊎ (e ≡ end_value link.other)

later_end : (l : Link) (ls : List Link) (e : End) → HasFarEnd ls e → HasFarEnd (l ∷ ls) e
later_end l ls e h = record { place = suc h.place; link = h.link; at = h.at; is = h.is }

from_of : (e : End) (d : ℕ) (s : Sender) → ◌≡◌ {A = Option Sender} (Some (record { from = e; delay = d })) (Some s) → ◌≡◌ {A = Sender} (record { from = e; delay = d }) s
from_of e d s same = same_Some (record { from = e; delay = d }) s same

far_end_of : (ls : List Link) (b q : ℕ) (s : Sender) → sender (map link_value ls) b q ≡ Some s → HasFarEnd ls s.from
far_end_of [] b q s h = absurd (cc)
far_end_of (l ∷ ls) b q s h = by_bool (is_bridge_port (end_value l.one) b q)
    (λ k.
    let same : Some (record { from = end_value l.other; delay = l.delay }) ≡ Some s = rw k at h in
    record { place = zero; link = l; at = refl; is = inr (sym (ap (λ (z : Sender). z.from) (from_of (end_value l.other) l.delay s same))) })
    (λ k. by_bool (is_bridge_port (end_value l.other) b q)
    (λ j.
    let same : Some (record { from = end_value l.one; delay = l.delay }) ≡ Some s = rw (k, j) at h in
    record { place = zero; link = l; at = refl; is = inl (sym (ap (λ (z : Sender). z.from) (from_of (end_value l.one) l.delay s same))) })
    (λ j. let more : sender (map link_value ls) b q ≡ Some s = rw (k, j) at h in later_end l ls s.from (far_end_of ls b q s more)))

-- No end of the first link is an end of a later link.
far_apart : (l : Link) (ls : List Link) (e : End) → AreSingle (l ∷ ls) → HasFarEnd ls e → (is_bridge_port (end_value l.one) e.bridge e.port ≡ false) × (is_bridge_port (end_value l.other) e.bridge e.port ≡ false)
far_apart l ls e single h =
    let is = free (l ∷ take h.place ls) h.link (single (suc h.place) h.link h.at) in
    let P : End → Type 0 = λ z. (is_bridge_port (end_value l.one) z.bridge z.port ≡ false) × (is_bridge_port (end_value l.other) z.bridge z.port ≡ false) in
    elim h.is [
      | inl same ↦ let apart = stands_apart l (take h.place ls) h.link.one is.one in subst P (sym same) (apart.one, apart.other)
      | inr same ↦ let apart = stands_apart l (take h.place ls) h.link.other is.other in subst P (sym same) (apart.one, apart.other)
    ]

-- An end that is a port, as this port.
named_end : (e : End) (b q : ℕ) → is_bridge_port e b q ≡ true → e ≡ record { bridge = b; port = q }
named_end e b q h =
    let (one, two) = and_parts (nat_eq e.bridge b) (nat_eq e.port q) h in
    ap₂ (λ (x y : ℕ). record { bridge = x; port = y }) (eqb-true e.bridge b one) (eqb-true e.port q two)

own_end : (e : End) → is_bridge_port e e.bridge e.port ≡ true
own_end e = rw (same_eq e.bridge, same_eq e.port) refl

-- The far end of a link names the near end, with the link's delay.
pub both_ways : (links : List Link) (b q : ℕ) (s : Sender) → AreSingle links → sender (map link_value links) b q ≡ Some s → sender (map link_value links) s.from.bridge s.from.port ≡ Some (record { from = record { bridge = b; port = q }; delay = s.delay })
both_ways [] b q s single h = absurd (cc)
both_ways (l ∷ ls) b q s single h =
    let P : Sender → Type 0 = λ z. sender (map link_value (l ∷ ls)) z.from.bridge z.from.port ≡ Some (record { from = record { bridge = b; port = q }; delay = z.delay }) in
    let is = free [] l (single zero l refl) in
    by_bool (is_bridge_port (end_value l.one) b q)
    (λ k.
    let same : Some (record { from = end_value l.other; delay = l.delay }) ≡ Some s = rw k at h in
    let differ : is_bridge_port (end_value l.one) l.other.bridge l.other.port ≡ false = is.differ in
    let here : P (record { from = end_value l.other; delay = l.delay }) = rw (differ, own_end (end_value l.other)) (ap (λ (e : End). Some (record { from = e; delay = l.delay })) (named_end (end_value l.one) b q k)) in
    subst P (from_of (end_value l.other) l.delay s same) here)
    (λ k. by_bool (is_bridge_port (end_value l.other) b q)
    (λ j.
    let same : Some (record { from = end_value l.one; delay = l.delay }) ≡ Some s = rw (k, j) at h in
    let here : P (record { from = end_value l.one; delay = l.delay }) = rw (own_end (end_value l.one)) (ap (λ (e : End). Some (record { from = e; delay = l.delay })) (named_end (end_value l.other) b q j)) in
    subst P (from_of (end_value l.one) l.delay s same) here)
    (λ j.
    let more : sender (map link_value ls) b q ≡ Some s = rw (k, j) at h in
    let (one, other) = far_apart l ls s.from single (far_end_of ls b q s more) in
    rw (one, other) (both_ways ls b q s (later_single l ls single) more)))
