-- A stream that passes the test is closed.
use Rattle.std.proofs.Common.{◌≡◌, ℕ, true, ◌&&◌, List, [], ◌∷◌, refl, sym, subst, inl, inr, Option, Some, nat_eq}
use Rattle.std.specs.Prelude.{slice_get}
use Rattle.std.specs.List.{list_any, list_all}
use Rattle.std.proofs.lemmas.Bool.{and_parts, or_cases, eqb-true, false≢true}
use Rattle.bridge_limits.specs.Members.{IsMember}
use Rattle.bridge_limits.proofs.Members.{each_passes}
use Rattle.bridge_filter.specs.declared.FilterPlan.{FilterPlan}
use Rattle.bridge_filter.proofs.Members.{one_number}
use Rattle.bridge_config.specs.declared.ports.PortPlan.{PortPlan}
use Rattle.bridge_config.specs.Model.{Plan}
use Rattle.bridge_config.proofs.PlanPorts.{at_port}
use Rattle.net_model.specs.Networks.{Network, Sender, sender, IsNetwork, IsClosed}
use Rattle.net_model.specs.LinkFrames.{takes_only}
use Rattle.net_model.specs.ClosedTest.{has_hop, is_protected, takes_only_from_sender, takes_only_on_port, hop_passes, stream_passes}
use Rattle.net_model.proofs.Feeding.{only_stream}

pair_of : (x : ℕ × ℕ) (b m : ℕ) → x.0 ≡ b → x.1 ≡ m → (b, m) ≡ x
pair_of x b m e f = rw (sym e, sym f) refl

listed_in : (stream : List (ℕ × ℕ)) (b m : ℕ) → has_hop stream b m ≡ true → IsMember (b, m) stream
listed_in [] b m h = absurd (false≢true h)
listed_in (x ∷ xs) b m h = elim (or_cases (nat_eq x.0 b && nat_eq x.1 m) (has_hop xs b m) h) [
  | inl a ↦ let (one, two) = and_parts (nat_eq x.0 b) (nat_eq x.1 m) a in inl (pair_of x b m (eqb-true x.0 b one) (eqb-true x.1 m two))
  | inr a ↦ inr (listed_in xs b m a)
]

record HasProtected (fs : List (ℕ × FilterPlan)) (m : ℕ) : Type 0 where
  filter : FilterPlan
  listed : IsMember (m, filter) fs
  protected : filter.protected ≡ true

pub numbered : (x : ℕ × FilterPlan) (m : ℕ) → x.0 ≡ m → (m, x.1) ≡ x
numbered x m e = rw (sym e) refl

protected_in : (fs : List (ℕ × FilterPlan)) (m : ℕ) → list_any (λ (f : ℕ × FilterPlan). nat_eq f.0 m && f.1.protected) fs ≡ true → HasProtected fs m
protected_in [] m h = absurd (false≢true h)
protected_in (x ∷ xs) m h = elim (or_cases (nat_eq x.0 m && x.1.protected) (list_any (λ (f : ℕ × FilterPlan). nat_eq f.0 m && f.1.protected) xs) h) [
  | inl a ↦ let (one, two) = and_parts (nat_eq x.0 m) x.1.protected a in record { filter = x.1; listed = inl (numbered x m (eqb-true x.0 m one)); protected = two }
  | inr a ↦ let r = protected_in xs m a in record { filter = r.filter; listed = inr r.listed; protected = r.protected }
]

record HasPassed {A : Type 0} (n : Network A) (stream : List (ℕ × ℕ)) (b m : ℕ) (p : Plan A) : Type 0 where
  protected : is_protected p m ≡ true
  takes : list_all (λ (on : PortPlan A). takes_only_on_port n stream (sender n.links b on.number) p on m) p.ports ≡ true

passed : {A : Type 0} (n : Network A) (stream : List (ℕ × ℕ)) (b m : ℕ) (p : Plan A) → stream_passes n stream ≡ true → IsMember (b, m) stream → slice_get n.bridges b ≡ Some p → HasPassed n stream b m p
passed {A} n stream b m p test listed at =
    let one : hop_passes n stream b m (slice_get n.bridges b) ≡ true = each_passes (λ (x : ℕ × ℕ). hop_passes n stream x.0 x.1 (slice_get n.bridges x.0)) stream (b, m) test listed in
    let two : hop_passes n stream b m (Some p) ≡ true = subst (λ (o : Option (Plan A)). hop_passes n stream b m o ≡ true) at one in
    let (x, y) = and_parts (is_protected p m) (list_all (λ (on : PortPlan A). takes_only_on_port n stream (sender n.links b on.number) p on m) p.ports) two in
    record { protected = x; takes = y }

pub closed_by_test : {A : Type 0} (n : Network A) (stream : List (ℕ × ℕ)) → IsNetwork n → stream_passes n stream ≡ true → IsClosed n stream
closed_by_test {A} n stream net test h q t s p out es o is linked at there i k =
    let (on, own) = net.own h.bridge q s h.plan linked is.plan in
    let place = at_port h.plan.ports q on own in
    let tested = (passed n stream h.bridge h.number h.plan test is.listed is.plan).takes in
    let one : takes_only_on_port n stream (sender n.links h.bridge on.number) h.plan on h.number ≡ true = each_passes (λ (v : PortPlan A). takes_only_on_port n stream (sender n.links h.bridge v.number) h.plan v h.number) h.plan.ports on tested place.listed in
    let two : takes_only_on_port n stream (sender n.links h.bridge q) h.plan on h.number ≡ true = subst (λ (z : ℕ). takes_only_on_port n stream (sender n.links h.bridge z) h.plan on h.number ≡ true) place.number one in
    let three : takes_only_from_sender (slice_get n.bridges s.from.bridge) stream s h.plan on h.number ≡ true = subst (λ (z : Option Sender). takes_only_on_port n stream z h.plan on h.number ≡ true) linked two in
    let four : takes_only p (has_hop stream s.from.bridge) s.from.port h.plan on h.number ≡ true = subst (λ (z : Option (Plan A)). takes_only_from_sender z stream s h.plan on h.number ≡ true) at three in
    let (m, listed, of_stream, flow) = only_stream p h.plan (has_hop stream s.from.bridge) s.from.port q h.number t h.filter out on es o (net.plan s.from.bridge p at) (net.plan h.bridge h.plan is.plan) (net.acceptable h.bridge h.plan is.plan) is.filter is.protected there own four i k in
    let member = listed_in stream s.from.bridge m.0 of_stream in
    let safe = protected_in p.filters m.0 (passed n stream s.from.bridge m.0 p test member at).protected in
    let same : safe.filter ≡ m.1 = one_number p.filters m.0 safe.filter m.1 (net.plan s.from.bridge p at).filters.own safe.listed listed in
    record {
      number = m.0;
      filter = m.1;
      is = record { listed = member; plan = at; filter = listed; protected = subst (λ (f : FilterPlan). f.protected ≡ true) same safe.protected };
      flow = flow;
    }
