-- The hops of streams have protected filters, in a network that passes all tests.
use Rattle.std.proofs.Common.{◌≡◌, ◌<◌, ◌+◌, ℕ, zero, suc, true, false, ◌&&◌, List, [], ◌∷◌, map, length, Option, Some, None, nat_eq, refl, sym, ap, subst, inl, inr, arith}
use Rattle.std.specs.Prelude.{slice_get, Vec}
use Rattle.std.specs.List.{list_any}
use Rattle.std.proofs.lemmas.Bool.{and_parts, eqb-true, false≢true, or_cases}
use Rattle.bridge_limits.specs.Members.{IsMember}
use Rattle.bridge_limits.proofs.Members.{in_at}
use Rattle.bridge_filter.specs.declared.FilterPlan.{FilterPlan}
use Rattle.bridge_config.specs.Model.{Plan}
use Rattle.bridge_check.specs.Faults.{first_among_numbers}
use Rattle.bridge_check.proofs.Isolated.{both_none}
use Rattle.net_file.specs.Model.{Stream}
use Rattle.net_file.specs.Model as file
use Rattle.net_model.specs.Faults as spec
use Rattle.net_model.specs.NetworkParts.{NetworkParts}
use Rattle.net_model.specs.declared.fault.NetworkFault.TheVariants as fault
use Rattle.net_model.specs.declared.links.StreamHop.{StreamHop}
use Rattle.net_model.proofs.Closed.{numbered}
use Rattle.net_model.proofs.Firsts.{none_at}
use Rattle.net_model.proofs.Members.{in_map, map_in}
use Rattle.net_model.proofs.Sound.{no_fault}
use Rattle.net_latency.specs.Streams.{stream_hop_value}
use Rattle.net_check.specs.Networks.{IsNetworkOfFile}

-- INDICES

pub placed : {X : Type 0} (xs : List X) (x : X) → IsMember x xs → (k : ℕ) × (k < length xs) × (slice_get xs k ≡ Some x)
placed [] x i = absurd i
placed (y ∷ ys) x (inl e) = (zero, omega arith, ap Some (sym e))
placed (y ∷ ys) x (inr i) = let (k, below, there) = placed ys x i in (suc k, omega (arith, below), there)

-- THE TEST OF A HOP

untold : {X Y : Type 0} (tell : ℕ → X → Option Y) (xs : List X) (x : X) → spec.first_by_index tell xs ≡ None → IsMember x xs → (k : ℕ) × (tell k x ≡ None)
untold tell xs x h i =
    let (k, below, there) = placed xs x i in
    let none : spec.if_some (tell k) (slice_get xs k) ≡ None = none_at (length xs) (λ j. spec.if_some (tell j) (slice_get xs j)) h k below in
    (k, subst (λ o. spec.if_some (tell k) o ≡ None) there none)

-- The tests of links precede it.
passes : {A : Type 0} (n : NetworkParts A) (s : Vec StreamHop A) (h : StreamHop) → spec.first_fault n ≡ None → IsMember s n.streams → IsMember h s.items → spec.is_protected_hop (slice_get n.plans h.bridge) h.filter ≡ true
passes n s h none i j =
    let (there, a) = both_none (first_among_numbers _ _) _ none in
    let (twice, b) = both_none (first_among_numbers _ _) _ a in
    let (speeds, c) = both_none (first_among_numbers _ _) _ b in
    let (hops, d) = both_none (spec.first_hop_fault n) _ c in
    let (protected, e) = both_none (first_among_numbers _ _) _ hops in
    let (k, of_stream) = untold _ n.streams s protected i in
    let (m, of_hop) = untold _ s.items h of_stream j in
    no_fault (spec.is_protected_hop (slice_get n.plans h.bridge) h.filter) (fault.NotProtected (k + 1) (m + 1)) of_hop

-- RESULTS OF THE TEST

-- Holds if a bridge's plan has a protected filter with number `m`.
pub record IsOfPlan {A : Type 0} (plans : List (Plan A)) (b m : ℕ) : Type 0 where
  pub plan : Plan A
  pub filter : FilterPlan
  pub there : slice_get plans b ≡ Some plan
  pub listed : IsMember (m, filter) plan.filters
  pub protected : filter.protected ≡ true

protected_in : (fs : List (ℕ × FilterPlan)) (m : ℕ) → list_any (λ (f : ℕ × FilterPlan). nat_eq f.0 m && f.1.protected) fs ≡ true → (f : FilterPlan) × IsMember (m, f) fs × (f.protected ≡ true)
protected_in [] m h = absurd (false≢true h)
protected_in (x ∷ xs) m h = elim (or_cases (nat_eq x.0 m && x.1.protected) (list_any (λ (f : ℕ × FilterPlan). nat_eq f.0 m && f.1.protected) xs) h) [
  | inl here ↦ let (same, is) = and_parts (nat_eq x.0 m) x.1.protected here in (x.1, inl (numbered x m (eqb-true x.0 m same)), is)
  | inr later ↦ let (f, listed, is) = protected_in xs m later in (f, inr listed, is)
]

of_plan : {A : Type 0} (plans : List (Plan A)) (b m : ℕ) (o : Option (Plan A)) → slice_get plans b ≡ o → spec.is_protected_hop o m ≡ true → IsOfPlan plans b m
of_plan plans b m None e h = absurd (false≢true h)
of_plan plans b m (Some p) e h = let (f, listed, is) = protected_in p.filters m h in record { plan = p; filter = f; there = e; listed = listed; protected = is }

-- A stream of the network's file is a stream of the network.
stream_there : {A : Type 0} (f : file.Network) (plans : List (Plan A)) (n : NetworkParts A) (s : Stream) → IsNetworkOfFile f plans n → IsMember s f.streams → (v : Vec StreamHop A) × IsMember v n.streams × (map stream_hop_value s.hops ≡ v.items)
stream_there {A} f plans n s made i =
    let here : IsMember (map stream_hop_value s.hops) (map (λ (s : Stream). map stream_hop_value s.hops) f.streams) = map_in (λ (s : Stream). map stream_hop_value s.hops) s f.streams i in
    in_map (λ (v : Vec StreamHop A). v.items) (map stream_hop_value s.hops) n.streams (subst (IsMember (map stream_hop_value s.hops)) (sym made.streams) here)

pub hop_protected : {A : Type 0} (f : file.Network) (plans : List (Plan A)) (n : NetworkParts A) (s : Stream) (i : ℕ) (x : ℕ × ℕ) → IsNetworkOfFile f plans n → spec.first_fault n ≡ None → IsMember s f.streams → slice_get s.hops i ≡ Some x → IsOfPlan n.plans x.0 x.1
hop_protected f plans n s i x made none is there =
    let (v, listed, same) = stream_there f plans n s made is in
    let hop : IsMember (stream_hop_value x) v.items = subst (IsMember (stream_hop_value x)) same (map_in stream_hop_value x s.hops (in_at s.hops i x there)) in
    of_plan n.plans x.0 x.1 (slice_get n.plans x.0) refl (passes n v (stream_hop_value x) none listed hop)
