-- A network without a fault consists of accepted plans, and each of its streams is closed.
use Rattle.std.proofs.Common.{◌≡◌, ◌<◌, ◌+◌, ℕ, zero, suc, Bool, true, false, ◌&&◌, List, [], ◌∷◌, map, Option, Some, None, nat_eq, refl, sym, ap, ◌∙◌, subst, arith, inl, inr, length, All}
use Rattle.std.specs.Prelude.{slice_get, option_map, is_some, Vec}
use Rattle.std.specs.List.{list_all}
use Rattle.std.proofs.lemmas.Bool.{and_parts, eqb-true, false≢true}
use Rattle.std.proofs.lemmas.Option.{same_Some, slice_get_within, get_or_from_slice_get}
use Rattle.bridge_limits.specs.Members.{IsMember}
use Rattle.bridge_limits.proofs.Cases.{by_bool}
use Rattle.bridge_config.specs.declared.ports.PortPlan.{PortPlan}
use Rattle.bridge_config.specs.Model.{Plan}
use Rattle.bridge_config.specs.Rules.{IsPlan, find_port}
use Rattle.net_model.specs.declared.fault.NetworkFault.{NetworkFault}
use Rattle.net_model.specs.declared.fault.NetworkFault.TheVariants as fault
use Rattle.net_model.specs.declared.links.Link.{Link}
use Rattle.net_model.specs.declared.links.StreamHop.{StreamHop}
use Rattle.net_model.specs.declared.sending_port.FoundFrames.{FoundFrames}
use Rattle.net_model.specs.declared.sending_port.FrameQuery.TheVariants.{Strays}
use Rattle.net_model.specs.declared.network_tests.LinkTest.TheVariants as link_test
use Rattle.net_model.specs.declared.network_tests.HopTest.{HopTest}
use Rattle.net_model.specs.declared.network_tests.HopTest.TheVariants as hop_test
use Rattle.net_model.specs.Networks.{End, Sender, is_bridge_port, sender, IsNetwork, IsClosed}
use Rattle.net_model.specs.ClosedTest.{has_hop, takes_only_from_sender, takes_only_on_port, hop_passes}
use Rattle.net_model.specs.NetworkParts.{NetworkParts, end_value, link_value, hop_value, stream_value, network_value}
use Rattle.net_model.specs.FrameSearch.{first_taken, first_taken_of_sender_port, first_taken_of_sender, first_taken_over_link}
use Rattle.net_model.specs.Checked.{IsAccepted, IsChecked}
use Rattle.net_model.specs.Faults as spec
use Rattle.net_model.proofs.Members.{in_map}
use Rattle.net_model.proofs.Firsts.{none_at}
use Rattle.net_model.proofs.Handles.{protected_names}
use Rattle.net_model.proofs.Straying.{all_pass, port_found, none_strays}
use Rattle.net_model.proofs.Closed.{closed_by_test}
use Rattle.bridge_check.proofs.Isolated.{both_none, told_none}

-- TESTS WITHOUT A FAULT

record HasPlace {X : Type 0} (xs : List X) (x : X) : Type 0 where
  place : ℕ
  below : place < length xs
  at : slice_get xs place ≡ Some x

in_place : {X : Type 0} (xs : List X) (x : X) → IsMember x xs → HasPlace xs x
in_place [] x i = absurd i
in_place (y ∷ ys) x (inl e) = record { place = zero; below = omega arith; at = ap Some (sym e) }
in_place (y ∷ ys) x (inr i) = let r = in_place ys x i in let lt = r.below in record { place = suc r.place; below = omega (arith, lt); at = r.at }

record IsUntold {X Y : Type 0} (tell : ℕ → X → Option Y) (x : X) : Type 0 where
  place : ℕ
  none : tell place x ≡ None

untold : {X Y : Type 0} (tell : ℕ → X → Option Y) (xs : List X) (x : X) → spec.first_by_index tell xs ≡ None → IsMember x xs → IsUntold tell x
untold tell xs x h i =
    let r = in_place xs x i in
    let none : spec.if_some (tell r.place) (slice_get xs r.place) ≡ None = none_at (length xs) (λ i. spec.if_some (tell i) (slice_get xs i)) h r.place r.below in
    record { place = r.place; none = subst (λ o. spec.if_some (tell r.place) o ≡ None) r.at none }

pub no_fault : (b : Bool) (e : NetworkFault) → spec.fault_unless b e ≡ None → b ≡ true
no_fault true e h = refl
no_fault false e h = absurd (cc)

-- EXISTING PORTS

record IsThere {A : Type 0} (plans : List (Plan A)) (b q : ℕ) : Type 0 where
  plan : Plan A
  on : PortPlan A
  at : slice_get plans b ≡ Some plan
  port : find_port plan.ports q ≡ Some on

there_on : {A : Type 0} (plans : List (Plan A)) (b q : ℕ) (p : Plan A) (o : Option (PortPlan A)) → slice_get plans b ≡ Some p → find_port p.ports q ≡ o → is_some o ≡ true → IsThere plans b q
there_on plans b q p None at e h = absurd (false≢true h)
there_on plans b q p (Some on) at e h = record { plan = p; on = on; at = at; port = e }

there_in : {A : Type 0} (plans : List (Plan A)) (b q : ℕ) (o : Option (Plan A)) → slice_get plans b ≡ o → is_some (spec.plan_port o q) ≡ true → IsThere plans b q
there_in plans b q None e h = absurd (false≢true h)
there_in plans b q (Some p) e h = there_on plans b q p (find_port p.ports q) e refl h

record HasEnds {A : Type 0} (plans : List (Plan A)) (l : Link) : Type 0 where
  one : IsThere plans l.one.bridge l.one.port
  other : IsThere plans l.other.bridge l.other.port

ends_of : {A : Type 0} (n : NetworkParts A) → spec.link_fault n link_test.PortsExist ≡ None → (l : Link) → IsMember l n.links → HasEnds n.plans l
ends_of n h l i =
    let u = untold (spec.link_test_fault n link_test.PortsExist) n.links l h i in
    let both = no_fault (is_some (spec.end_port n.plans l.one) && is_some (spec.end_port n.plans l.other)) (fault.Unresolved (u.place + 1)) u.none in
    let (one, other) = and_parts (is_some (spec.end_port n.plans l.one)) (is_some (spec.end_port n.plans l.other)) both in
    record {
      one = there_in n.plans l.one.bridge l.one.port (slice_get n.plans l.one.bridge) refl one;
      other = there_in n.plans l.other.bridge l.other.port (slice_get n.plans l.other.bridge) refl other;
    }

-- Both ends of a port's link exist.
record AreEnds {A : Type 0} (plans : List (Plan A)) (b q : ℕ) (s : Sender) : Type 0 where
  here : IsThere plans b q
  there : IsThere plans s.from.bridge s.from.port

at_end : {A : Type 0} (plans : List (Plan A)) (e : End) (b q : ℕ) → is_bridge_port e b q ≡ true → IsThere plans e.bridge e.port → IsThere plans b q
at_end plans e b q h there =
    let (one, two) = and_parts (nat_eq e.bridge b) (nat_eq e.port q) h in
    subst (λ (z : ℕ). IsThere plans b z) (eqb-true e.port q two) (subst (λ (z : ℕ). IsThere plans z e.port) (eqb-true e.bridge b one) there)

from_end : {A : Type 0} (plans : List (Plan A)) (e : End) (d : ℕ) (s : Sender) → ◌≡◌ {A = Option Sender} (Some (record { from = e; delay = d })) (Some s) → IsThere plans e.bridge e.port → IsThere plans s.from.bridge s.from.port
from_end plans e d s same there = subst (λ (z : End). IsThere plans z.bridge z.port) (ap (λ (z : Sender). z.from) (same_Some (record { from = e; delay = d }) s same)) there

ends_there : {A : Type 0} (plans : List (Plan A)) (links : List Link) (b q : ℕ) (s : Sender) → ((l : Link) → IsMember l links → HasEnds plans l) → sender (map link_value links) b q ≡ Some s → AreEnds plans b q s
ends_there plans [] b q s have h = absurd (cc)
ends_there plans (l ∷ ls) b q s have h =
    let ends = have l (inl refl) in
    by_bool (is_bridge_port (end_value l.one) b q)
    (λ k.
    let same : Some (record { from = end_value l.other; delay = l.delay }) ≡ Some s = rw k at h in
    record { here = at_end plans (end_value l.one) b q k ends.one; there = from_end plans (end_value l.other) l.delay s same ends.other })
    (λ k. by_bool (is_bridge_port (end_value l.other) b q)
    (λ j.
    let same : Some (record { from = end_value l.one; delay = l.delay }) ≡ Some s = rw (k, j) at h in
    record { here = at_end plans (end_value l.other) b q j ends.other; there = from_end plans (end_value l.one) l.delay s same ends.one })
    (λ j.
    let more : sender (map link_value ls) b q ≡ Some s = rw (k, j) at h in
    ends_there plans ls b q s (λ l i. have l (inr i)) more))

port_there : {A : Type 0} (plans : List (Plan A)) (b q : ℕ) (p : Plan A) → IsThere plans b q → slice_get plans b ≡ Some p → (on : PortPlan A) × (find_port p.ports q ≡ Some on)
port_there plans b q p there at = (there.on, subst (λ z. find_port z.ports q ≡ Some there.on) (same_Some there.plan p (sym there.at ∙ at)) there.port)

-- Each plan in a list of accepted plans is accepted.
rules_at : {A : Type 0} (plans : List (Plan A)) → All IsAccepted plans → (b : ℕ) (p : Plan A) → slice_get plans b ≡ Some p → IsAccepted p
rules_at plans all b p h = subst IsAccepted (get_or_from_slice_get plans b p p h) (all b p (slice_get_within plans b p h))

network_from : {A : Type 0} (n : NetworkParts A) → All IsAccepted n.plans → ((l : Link) → IsMember l n.links → HasEnds n.plans l) → IsNetwork (network_value n)
network_from n all have = record {
  plan = λ b p h. (rules_at n.plans all b p h).rules;
  acceptable = λ b p h. (rules_at n.plans all b p h).acceptable;
  own = λ b q s p linked at. port_there n.plans b q p (ends_there n.plans n.links b q s have linked).here at;
  bridge = λ b q s linked. let t = (ends_there n.plans n.links b q s have linked).there in (t.plan, t.at);
  port = λ b q s p linked at. port_there n.plans s.from.bridge s.from.port p (ends_there n.plans n.links b q s have linked).there at;
}

-- CLOSED STREAMS

closed_from : {A : Type 0} (n : NetworkParts A) (stream : List (ℕ × ℕ)) (s : Sender) (next : Plan A) (on : PortPlan A) (m b q : ℕ) → IsNetwork (network_value n) → sender (map link_value n.links) b q ≡ Some s → first_taken_of_sender Strays (slice_get n.plans s.from.bridge) stream s.from next on m ≡ None → takes_only_from_sender (slice_get n.plans s.from.bridge) stream s next on m ≡ true
closed_from n stream s next on m b q net linked h =
    let (p, at) = net.bridge b q s linked in
    let (out, port) = net.port b q s p linked at in
    let one : first_taken_of_sender Strays (Some p) stream s.from next on m ≡ None = subst (λ o. first_taken_of_sender Strays o stream s.from next on m ≡ None) at h in
    let two : first_taken Strays p (has_hop stream s.from.bridge) s.from.port next on m ≡ None = subst (λ o. first_taken_of_sender_port Strays p (has_hop stream s.from.bridge) s.from.port o next on m ≡ None) port one in
    let only : takes_only_from_sender (Some p) stream s next on m ≡ true = none_strays p (has_hop stream s.from.bridge) s.from.port next on m (net.plan s.from.bridge p at) two in
    subst (λ o. takes_only_from_sender o stream s next on m ≡ true) (sym at) only

closed_at : {A : Type 0} (n : NetworkParts A) (stream : List (ℕ × ℕ)) (next : Plan A) (on : PortPlan A) (m b : ℕ) (o : Option Sender) → IsNetwork (network_value n) → sender (map link_value n.links) b on.number ≡ o → first_taken_over_link Strays n.plans stream (option_map (λ (s : Sender). s.from) o) next on m ≡ None → takes_only_on_port (network_value n) stream o next on m ≡ true
closed_at n stream next on m b None net e h = refl
closed_at n stream next on m b (Some s) net e h = closed_from n stream s next on m b on.number net e h

hop_closed : {A : Type 0} (n : NetworkParts A) (hops : List StreamHop) (h : StreamHop) (next : Plan A) → IsNetwork (network_value n) → IsPlan next → spec.first_taken_by_port Strays n hops h next ≡ None → list_all (λ (on : PortPlan A). takes_only_on_port (network_value n) (stream_value hops) (sender (map link_value n.links) h.bridge on.number) next on h.filter) next.ports ≡ true
hop_closed {A} n hops h next net plan none =
    all_pass (λ (on : PortPlan A). takes_only_on_port (network_value n) (stream_value hops) (sender (map link_value n.links) h.bridge on.number) next on h.filter) next.ports (λ on i.
    let own = port_found next.ports on plan.ports i in
    let here : spec.first_taken_at_port_number Strays n hops h next (own.place + 1) ≡ None = none_at 16 (λ j. spec.first_taken_at_port_number Strays n hops h next (j + 1)) none own.place own.below in
    let one : spec.first_taken_at_port Strays n hops h next (find_port next.ports (own.place + 1)) ≡ None = told_none (λ (f : FoundFrames). (own.place + 1, f)) (spec.first_taken_at_port Strays n hops h next (find_port next.ports (own.place + 1))) here in
    let two : spec.first_taken_at_port Strays n hops h next (Some on) ≡ None = subst (λ o. spec.first_taken_at_port Strays n hops h next o ≡ None) own.at one in
    closed_at n (stream_value hops) next on h.filter h.bridge (sender (map link_value n.links) h.bridge on.number) net refl two)

passes_by : {A : Type 0} (n : NetworkParts A) (hops : List StreamHop) (h : StreamHop) (i k : ℕ) (o : Option (Plan A)) → All IsAccepted n.plans → IsNetwork (network_value n) → slice_get n.plans h.bridge ≡ o → spec.is_protected_hop o h.filter ≡ true → spec.hop_test_fault_by_handle n hop_test.Closed i hops k h o ≡ None → hop_passes (network_value n) (stream_value hops) h.bridge h.filter o ≡ true
passes_by n hops h i k None all net e protected none = absurd (false≢true protected)
passes_by {A} n hops h i k (Some next) all net e protected none =
    let accepted = rules_at n.plans all h.bridge next e in
    let (m, named) = protected_names next h.filter accepted.rules accepted.acceptable protected in
    let told : spec.frames_test_fault n hop_test.Closed i hops k h next m ≡ None = subst (λ o. spec.if_some (spec.frames_test_fault n hop_test.Closed i hops k h next) o ≡ None) named none in
    let first_taken : spec.first_taken_by_port Strays n hops h next ≡ None = told_none (spec.not_closed i k h) (spec.first_taken_by_port Strays n hops h next) told in
    rw (protected, hop_closed n hops h next net accepted.rules first_taken) refl

hop_untold : {A : Type 0} (n : NetworkParts A) (test : HopTest) (s : Vec StreamHop A) (h : StreamHop) → spec.hop_fault n test ≡ None → IsMember s n.streams → IsMember h s.items → (i : ℕ) × (k : ℕ) × (spec.hop_test_fault n test i s.items k h ≡ None)
hop_untold {A} n test s h none i j =
    let u = untold (λ i (s : Vec StreamHop A). spec.stream_test_fault n test i s.items) n.streams s none i in
    let v = untold (spec.hop_test_fault n test u.place s.items) s.items h u.none j in
    (u.place, v.place, v.none)

passes_at : {A : Type 0} (n : NetworkParts A) (s : Vec StreamHop A) (h : StreamHop) → All IsAccepted n.plans → IsNetwork (network_value n) → spec.hop_fault n hop_test.Protected ≡ None → spec.hop_fault n hop_test.Closed ≡ None → IsMember s n.streams → IsMember h s.items → hop_passes (network_value n) (stream_value s.items) h.bridge h.filter (slice_get n.plans h.bridge) ≡ true
passes_at n s h all net protected closed i j =
    let (a, b, one) = hop_untold n hop_test.Protected s h protected i j in
    let (c, d, two) = hop_untold n hop_test.Closed s h closed i j in
    passes_by n s.items h c d (slice_get n.plans h.bridge) all net refl
    (no_fault (spec.is_protected_hop (slice_get n.plans h.bridge) h.filter) (fault.NotProtected (a + 1) (b + 1)) one) two

stream_closed : {A : Type 0} (n : NetworkParts A) (s : Vec StreamHop A) → All IsAccepted n.plans → IsNetwork (network_value n) → spec.hop_fault n hop_test.Protected ≡ None → spec.hop_fault n hop_test.Closed ≡ None → IsMember s n.streams → IsClosed (network_value n) (stream_value s.items)
stream_closed {A} n s all net protected closed i =
    closed_by_test (network_value n) (stream_value s.items) net (all_pass (λ (x : ℕ × ℕ). hop_passes (network_value n) (stream_value s.items) x.0 x.1 (slice_get n.plans x.0)) (stream_value s.items) (λ x j.
    let (h, listed, same) = in_map hop_value x s.items j in
    subst (λ (z : ℕ × ℕ). hop_passes (network_value n) (stream_value s.items) z.0 z.1 (slice_get n.plans z.0) ≡ true) (sym same) (passes_at n s h all net protected closed i listed)))

record HasNoFault {A : Type 0} (n : NetworkParts A) : Type 0 where
  there : spec.link_fault n link_test.PortsExist ≡ None
  protected : spec.hop_fault n hop_test.Protected ≡ None
  closed : spec.hop_fault n hop_test.Closed ≡ None

without_fault : {A : Type 0} (n : NetworkParts A) → spec.first_fault n ≡ None → HasNoFault n
without_fault n h =
    let (there, a) = both_none (spec.link_fault n link_test.PortsExist) _ h in
    let (twice, b) = both_none (spec.link_fault n link_test.SingleLink) _ a in
    let (speeds, c) = both_none (spec.link_fault n link_test.SameSpeed) _ b in
    let (hops, d) = both_none (spec.first_hop_fault n) _ c in
    let (protected, e) = both_none (spec.hop_fault n hop_test.Protected) _ hops in
    let (again, f) = both_none (spec.hop_fault n hop_test.Unique) _ e in
    let (closed, g) = both_none (spec.hop_fault n hop_test.Closed) _ f in
    record { there = there; protected = protected; closed = closed }

-- A network of accepted plans without a fault is checked.
pub checked : {A : Type 0} (n : NetworkParts A) → All IsAccepted n.plans → spec.first_fault n ≡ None → IsChecked n
checked n all h =
    let w = without_fault n h in
    let net = network_from n all (ends_of n w.there) in
    record { network = net; closed = record { each = λ s i. stream_closed n s all net w.protected w.closed i } }

same_parts : {A : Type 0} (n : NetworkParts A) (p : List (Plan A)) (l : List Link) (s : List (Vec StreamHop A)) → p ≡ n.plans → l ≡ n.links → s ≡ n.streams → ◌≡◌ {A = NetworkParts A} (record { plans = p; links = l; streams = s }) n
same_parts n p l s e f g = rw (e, f, g) refl

-- The fault of these plans, links and streams is the fault of the network of them.
pub told_of : {A : Type 0} (n : NetworkParts A) (p : List (Plan A)) (l : List Link) (s : List (Vec StreamHop A)) (o : Option NetworkFault) → p ≡ n.plans → l ≡ n.links → s ≡ n.streams → o ≡ spec.first_fault {A = A} (record { plans = p; links = l; streams = s }) → spec.first_fault n ≡ o
told_of n p l s o e f g h = sym (h ∙ ap spec.first_fault (same_parts n p l s e f g))
