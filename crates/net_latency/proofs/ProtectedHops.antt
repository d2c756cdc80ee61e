-- In an accepted network, each hop of a stream is a protected filter of its bridge.
use Rattle.std.proofs.Common.{◌≡◌, ◌<◌, ◌+◌, ℕ, zero, suc, true, ◌&&◌, List, [], ◌∷◌, Option, Some, None, nat_eq, refl, sym, ap, subst, inl, inr, length, arith, take}
use Rattle.std.specs.Prelude.{Vec, is_some, option_map, slice_get}
use Rattle.std.specs.List.{list_any}
use Rattle.std.specs.Map.{lookup}
use Rattle.std.proofs.lemmas.Bool.{and_parts, eqb-true, false≢true, or_cases}
use Rattle.bridge_limits.specs.Members.{IsMember}
use Rattle.bridge_filter.specs.declared.FilterPlan.{FilterPlan}
use Rattle.bridge_filter.proofs.Members.{member_found}
use Rattle.bridge_config.specs.Model.{Plan}
use Rattle.bridge_check.proofs.Isolated.{both_none}
use Rattle.net_model.specs.declared.fault.NetworkFault.{NetworkFault}
use Rattle.net_model.specs.declared.fault.NetworkFault.TheVariants as fault
use Rattle.net_model.specs.declared.links.Link.{Link}
use Rattle.net_model.specs.declared.links.StreamHop.{StreamHop}
use Rattle.net_model.specs.Faults.{doubly_linked_end, end_port, fault_unless, first_by_index, first_fault, first_hop_fault, if_some, is_one_speed, is_protected_hop}
use Rattle.net_model.specs.NetworkParts.{NetworkParts}
use Rattle.net_model.proofs.Firsts.{none_at}
use Rattle.net_model.proofs.Sound.{no_fault}
use Rattle.net_latency.specs.Delivered.{IsAcceptedNetwork, IsStreamOfNetwork}

record HasPlace {X : Type 0} (xs : List X) (x : X) : Type 0 where
  place : ℕ
  below : place < length xs
  at : slice_get xs place ≡ Some x

in_place : {X : Type 0} (xs : List X) (x : X) → IsMember x xs → HasPlace xs x
in_place [] x i = absurd i
in_place (y ∷ ys) x (inl e) = record { place = zero; below = omega arith; at = ap Some (sym e) }
in_place (y ∷ ys) x (inr i) = let r = in_place ys x i in let lt = r.below in record { place = suc r.place; below = omega (arith, lt); at = r.at }

untold : {X Y : Type 0} (tell : ℕ → X → Option Y) (xs : List X) (x : X) → first_by_index tell xs ≡ None → IsMember x xs → (place : ℕ) × (tell place x ≡ None)
untold tell xs x h i =
    let r = in_place xs x i in
    let none : if_some (tell r.place) (slice_get xs r.place) ≡ None = none_at (length xs) (λ j. if_some (tell j) (slice_get xs j)) h r.place r.below in
    (r.place, subst (λ o. if_some (tell r.place) o ≡ None) r.at none)

-- The protected filter of a hop.
pub record HasFilter {A : Type 0} (plans : List (Plan A)) (h : StreamHop) : Type 0 where
  pub plan : Plan A
  pub filter : FilterPlan
  pub at : slice_get plans h.bridge ≡ Some plan
  pub found : lookup (nat_eq h.filter) plan.filters ≡ Some filter
  pub protected : filter.protected ≡ true

-- A protected filter with a number in a list.
record IsListed (fs : List (ℕ × FilterPlan)) (m : ℕ) : Type 0 where
  filter : FilterPlan
  listed : IsMember (m, filter) fs
  protected : filter.protected ≡ true

numbered : (x : ℕ × FilterPlan) (m : ℕ) → x.0 ≡ m → (m, x.1) ≡ x
numbered x m e = rw (sym e) refl

listed_in : (fs : List (ℕ × FilterPlan)) (m : ℕ) → list_any (λ (f : ℕ × FilterPlan). nat_eq f.0 m && f.1.protected) fs ≡ true → IsListed fs m
listed_in [] m h = absurd (false≢true h)
listed_in (x ∷ xs) m h = elim (or_cases (nat_eq x.0 m && x.1.protected) (list_any (λ (f : ℕ × FilterPlan). nat_eq f.0 m && f.1.protected) xs) h) [
  | inl a ↦ let (one, two) = and_parts (nat_eq x.0 m) x.1.protected a in record { filter = x.1; listed = inl (numbered x m (eqb-true x.0 m one)); protected = two }
  | inr a ↦ let r = listed_in xs m a in record { filter = r.filter; listed = inr r.listed; protected = r.protected }
]

filter_by : {A : Type 0} (n : NetworkParts A) (h : StreamHop) (o : Option (Plan A)) → IsAcceptedNetwork n → slice_get n.plans h.bridge ≡ o → is_protected_hop o h.filter ≡ true → HasFilter n.plans h
filter_by n h None accepted at is = absurd (false≢true is)
filter_by n h (Some p) accepted at is =
    let r = listed_in p.filters h.filter is in
    let plan = accepted.checked.network.plan h.bridge p at in
    record { plan = p; filter = r.filter; at = at; found = member_found p.filters h.filter r.filter plan.filters.own r.listed; protected = r.protected }

-- The test of protected filters, for hop `g` with index `k` in stream `j`.
abbrev protected_fault : {A : Type 0} → NetworkParts A → ℕ → ℕ → StreamHop → Option NetworkFault
protected_fault n j k g = fault_unless (is_protected_hop (slice_get n.plans g.bridge) g.filter) (fault.NotProtected (j + 1) (k + 1))

none_unprotected : {A : Type 0} (n : NetworkParts A) → first_fault n ≡ None → first_by_index (λ j (v : Vec StreamHop A). first_by_index (protected_fault n j) v.items) n.streams ≡ None
none_unprotected {A} n h =
    let unresolved : ℕ → Link → Option NetworkFault = λ i l. fault_unless (is_some (end_port n.plans l.one) && is_some (end_port n.plans l.other)) (fault.Unresolved (i + 1)) in
    let twice : ℕ → Link → Option NetworkFault = λ i l. option_map (fault.LinkTwice (i + 1)) (doubly_linked_end (take i n.links) l) in
    let speeds : ℕ → Link → Option NetworkFault = λ i l. fault_unless (is_one_speed (end_port n.plans l.one) (end_port n.plans l.other)) (fault.SpeedsDiffer (i + 1)) in
    let (there, a) = both_none (first_by_index unresolved n.links) _ h in
    let (once, b) = both_none (first_by_index twice n.links) _ a in
    let (same, c) = both_none (first_by_index speeds n.links) _ b in
    let (hops, d) = both_none (first_hop_fault n) None c in
    (both_none (first_by_index (λ j (v : Vec StreamHop A). first_by_index (protected_fault n j) v.items) n.streams) _ hops).0

pub filter_of : {A : Type 0} (n : NetworkParts A) (hops : List StreamHop) (h : StreamHop) → IsAcceptedNetwork n → IsStreamOfNetwork n hops → IsMember h hops → HasFilter n.plans h
filter_of {A} n hops h accepted (s, i, same) listed =
    let (place, none) = untold (λ j (v : Vec StreamHop A). first_by_index (protected_fault n j) v.items) n.streams s (none_unprotected n accepted.without_fault) i in
    let (k, one) = untold (protected_fault n place) s.items h none (subst (λ (hs : List StreamHop). IsMember h hs) (sym same) listed) in
    filter_by n h (slice_get n.plans h.bridge) accepted refl (no_fault (is_protected_hop (slice_get n.plans h.bridge) h.filter) (fault.NotProtected (place + 1) (k + 1)) one)
