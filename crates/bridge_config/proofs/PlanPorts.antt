-- Ports of a plan: look-up by number, and egress ports, which are ports of the plan.
use Rattle.std.proofs.Common.{◌≡◌, ◌≢◌, ℕ, suc, zero, Bool, true, false, ◌&&◌, ◌-◌, ◌^◌, ◌<◌, ◌≤◌, ◌⊎◌, List, [], ◌∷◌, All, Some, length, map, max, nat_eq, nat_le, cond, bit_and, bit_or, arith, refl, sym, subst, ap, ◌∙◌, inl, inr}
use Rattle.std.specs.Prelude.{slice_index, slice_index_or}
use Rattle.std.specs.Int.{bit_at}
use Rattle.std.proofs.lemmas.Bool.{and_parts, cases_Bool, eqb-true, eq-eqb, false≢true}
use Rattle.std.proofs.lemmas.Bool.Decides.{nat_tests}
use Rattle.std.proofs.lemmas.List.Sums.{AllPass-from_list_all}
use Rattle.std.proofs.lemmas.Nat.Bits.{bit_at_or, bit_at-lt, bit_at-pow_other}
use Rattle.std.proofs.lemmas.Option.{same_Some}
use Rattle.bridge_limits.specs.Members.{IsMember}
use Rattle.bridge_limits.proofs.Members.{each_in}
use Rattle.bridge_forward.specs.declared.Vlan.{Vlan}
use Rattle.bridge_forward.specs.Database.{vlan_members, static_ports}
use Rattle.bridge_forward.specs.Forward.{forward, is_reserved}
use Rattle.bridge_forward.specs.PortRule.{has_port_or}
use Rattle.bridge_forward.specs.Ports.{has_port, IsEmpty}
use Rattle.bridge_forward.proofs.Memberships.{has_both, has_none, members_only}
use Rattle.bridge_schema.specs.Readers.{are_numbers_in_range, is_subset, add_to_set}
use Rattle.bridge_config.specs.declared.ports.PortPlan.{PortPlan}
use Rattle.bridge_config.specs.Model.{Plan}
use Rattle.bridge_config.specs.Rules.{ArePorts, IsPlan, IsPort, IsVlan, find_port, port_set}

-- Look-up by number.

-- Holds if the port is in the list and has the number `n`.
pub record IsAt {A : Type 0} (ports : List (PortPlan A)) (n : ℕ) (p : PortPlan A) : Type 0 where
  pub listed : IsMember p ports
  pub number : p.number ≡ n

at_by : {A : Type 0} (b : Bool) (x : PortPlan A) (xs : List (PortPlan A)) (n : ℕ) (p : PortPlan A) → nat_eq x.number n ≡ b → cond b (Some x) (find_port xs n) ≡ Some p → (find_port xs n ≡ Some p → IsAt xs n p) → IsAt (x ∷ xs) n p
at_by true x xs n p e h more = let same : p ≡ x = sym (same_Some x p h) in record { listed = inl same; number = ap (λ z. z.number) same ∙ eqb-true x.number n e }
at_by false x xs n p e h more = let m = more h in record { listed = inr m.listed; number = m.number }

-- The port that a look-up finds is in the list and has the number.
pub at_port : {A : Type 0} (ports : List (PortPlan A)) (n : ℕ) (p : PortPlan A) → find_port ports n ≡ Some p → IsAt ports n p
at_port [] n p h = absurd (cc)
at_port (x ∷ xs) n p h = at_by (nat_eq x.number n) x xs n p refl h (at_port xs n p)

-- The port that a look-up finds follows the rules of ports.
pub port_is : {A : Type 0} (ports : List (PortPlan A)) (n : ℕ) (p : PortPlan A) → ArePorts ports → find_port ports n ≡ Some p → IsPort p × (p.number ≡ n)
port_is ports n p are h = let at = at_port ports n p h in (each_in IsPort ports p are.each at.listed, at.number)

-- A look-up by the port's own number finds the port.
pub at_own : {A : Type 0} (ports : List (PortPlan A)) (n : ℕ) (p : PortPlan A) → find_port ports n ≡ Some p → find_port ports p.number ≡ Some p
at_own ports n p h = subst (λ (m : ℕ). find_port ports m ≡ Some p) (sym (at_port ports n p h).number) h

-- The number of an existing port is 1 to 16.
pub number_is : {A : Type 0} (ports : List (PortPlan A)) (n : ℕ) (p : PortPlan A) → ArePorts ports → find_port ports n ≡ Some p → (1 ≤ n) × (n ≤ 16)
number_is ports n p are h = let (is, same) = port_is ports n p are h in let from = is.number_from in let to = is.number_to in (omega (arith, same, from), omega (arith, same, to))

-- If a port has the number, the look-up finds a port.
pub there_is : {A : Type 0} (ports : List (PortPlan A)) (n : ℕ) → IsMember n (map (λ p. p.number) ports) → (p : PortPlan A) × (find_port ports n ≡ Some p)
there_is [] n i = absurd i
there_is (x ∷ xs) n (inl e) = (x, rw (eq-eqb x.number n (sym e)) refl)
there_is {A} (x ∷ xs) n (inr i) = elim (cases_Bool (nat_eq x.number n)) [
  | inl e ↦ (x, rw e refl)
  | inr e ↦ let (p, at) = there_is xs n i in (p, rw e at)
]

-- Classes and queue capacities.

within_at : (low high : ℕ) (ns : List ℕ) (k : ℕ) → are_numbers_in_range low high ns ≡ true → k < length ns → (low ≤ slice_index ns k) × (slice_index ns k ≤ high)
within_at low high ns k within lt =
    let all = AllPass-from_list_all (λ n. nat_le low n && nat_le n high) ns within in
    let (above, below) = and_parts (nat_le low (slice_index ns k)) (nat_le (slice_index ns k) high) (all k 0 lt) in
    (least low (slice_index ns k) above, least (slice_index ns k) high below)
  where
    least : (a b : ℕ) → nat_le a b ≡ true → a ≤ b
    least a b h = grind (arith, nat_tests)

-- The class of each priority is below 8.
pub class_below : {A : Type 0} (p : PortPlan A) (k : ℕ) → IsPort p → k ≤ 7 → slice_index p.classes k < 8
class_below p k is le = let eight = is.eight_classes in let (above, below) = within_at 0 7 p.classes k is.classes (omega (arith, eight, le)) in omega (arith, below)

-- The queue capacity of each class is 1 to 4,096.
pub room_within : {A : Type 0} (p : PortPlan A) (c : ℕ) → IsPort p → c ≤ 7 → (1 ≤ slice_index p.rooms c) × (slice_index p.rooms c ≤ 4096)
room_within p c is le = let eight = is.eight_rooms in within_at 1 4096 p.rooms c is.rooms (omega (arith, eight, le))

-- Egress ports.

one_of : (x y : ℕ) → x < 2 → y < 2 → nat_eq (max x y) 1 ≡ true → (nat_eq x 1 ≡ true) ⊎ (nat_eq y 1 ≡ true)
one_of zero zero a b h = absurd (false≢true h)
one_of (suc zero) y a b h = inl refl
one_of zero (suc zero) a b h = inr refl
one_of (suc (suc x)) y a b h = absurd (omega arith)
one_of zero (suc (suc y)) a b h = absurd (omega arith)

-- A port of a union is in one of the two sets.
has_either : (a b q : ℕ) → has_port (bit_or a b) q ≡ true → (has_port a q ≡ true) ⊎ (has_port b q ≡ true)
has_either a b q h =
    let i = q - 1 in
    one_of (bit_at a i) (bit_at b i) (bit_at-lt a i) (bit_at-lt b i) (sym (ap (λ n. nat_eq n 1) (bit_at_or a b i)) ∙ h)

-- A set of one port contains only this port.
has_one : (n q : ℕ) → 1 ≤ n → 1 ≤ q → has_port (2 ^ (n - 1)) q ≡ true → q ≡ n
has_one n q from low h = elim (cases_Bool (nat_eq (q - 1) (n - 1))) [
  | inl e ↦ let same : q - 1 ≡ n - 1 = eqb-true (q - 1) (n - 1) e in omega arith
  | inr e ↦
      let apart : q - 1 ≢ n - 1 = λ z. false≢true (sym e ∙ eq-eqb (q - 1) (n - 1) z) in
      let off : bit_at (2 ^ (n - 1)) (q - 1) ≡ 0 = bit_at-pow_other (n - 1) (q - 1) apart in
      absurd (false≢true (sym (ap (λ b. nat_eq b 1) off) ∙ h))
]

-- A port of an extended set was in the set or is one of the added numbers.
has_with : (bits : ℕ) (ns : List ℕ) (q : ℕ) → All (λ n. 1 ≤ n) ns → 1 ≤ q → has_port (add_to_set 1 bits ns) q ≡ true → (has_port bits q ≡ true) ⊎ IsMember q ns
has_with bits [] q all low h = inl h
has_with bits (n ∷ ns) q all low h = elim (has_with (bit_or bits (2 ^ (n - 1))) ns q (λ k d lt. all (suc k) d (omega (arith, lt))) low h) [
  | inr i ↦ inr (inr i)
  | inl o ↦ elim (has_either bits (2 ^ (n - 1)) q o) [
    | inl a ↦ inl a
    | inr b ↦ inr (inl (has_one n q (all 0 n (omega arith)) low b))
  ]
]

numbers_from : {A : Type 0} (ports : List (PortPlan A)) → All IsPort ports → All (λ n. 1 ≤ n) (map (λ p. p.number) ports)
numbers_from [] all = λ k d lt. absurd (omega arith)
numbers_from (p ∷ ps) all = λ k d lt. from_by k d lt (all 0 p (omega arith)) (numbers_from ps (λ j e l. all (suc j) e (omega (arith, l))))
  where
    from_by : (k d : ℕ) → k < length (map (λ p. p.number) (p ∷ ps)) → IsPort p → All (λ n. 1 ≤ n) (map (λ p. p.number) ps) → 1 ≤ slice_index_or (map (λ p. p.number) (p ∷ ps)) k d
    from_by zero d lt is rest = is.number_from
    from_by (suc k) d lt is rest = rest k d (omega (arith, lt))

-- The set of all ports contains only ports of the plan.
pub in_set : {A : Type 0} (ports : List (PortPlan A)) (q : ℕ) → ArePorts ports → 1 ≤ q → has_port (port_set ports) q ≡ true → (p : PortPlan A) × (find_port ports q ≡ Some p)
in_set ports q are low h = elim (has_with 0 (map (λ p. p.number) ports) q (numbers_from ports are.each) low h) [
  | inl z ↦ absurd (false≢true (sym (has_none q) ∙ z))
  | inr i ↦ there_is ports q i
]

-- A port of a subset is in the larger set.
has_all : (set all q : ℕ) → is_subset set all ≡ true → has_port set q ≡ true → has_port all q ≡ true
has_all set all q sub h =
    let same : bit_and set all ≡ set = eqb-true (bit_and set all) set sub in
    let both : (has_port set q && has_port all q) ≡ true = sym (has_both set all q) ∙ (ap (λ s. has_port s q) same ∙ h) in
    let (here, there) = and_parts (has_port set q) (has_port all q) both in
    there

-- The members of a VLAN are ports of the plan.
vlan_has : (all : ℕ) (vlans : List Vlan) (vid q : ℕ) → All (IsVlan all) vlans → has_port_or false (vlan_members vlans vid) q ≡ true → has_port all q ≡ true
vlan_has all [] vid q each h = absurd (false≢true h)
vlan_has all (v ∷ vs) vid q each h = elim (cases_Bool (nat_eq v.vid vid)) [
  | inl e ↦ has_all v.members all q (each 0 v (omega arith)).members (rw e at h)
  | inr e ↦ vlan_has all vs vid q (λ k d lt. each (suc k) d (omega (arith, lt))) (rw e at h)
]

-- Each egress port of a frame is a port of the plan.
pub goes_to_a_port : {A : Type 0} (p : Plan A) (port vid : ℕ) (da : List ℕ) (q : ℕ) → IsPlan p → 1 ≤ q → has_port (forward p.database port vid da) q ≡ true → (out : PortPlan A) × (find_port p.ports q ≡ Some out)
goes_to_a_port p port vid da q plan low h =
    let member = members_only (is_reserved da) (vlan_members p.database.vlans vid) (static_ports p.database.statics vid da) port q h in
    in_set p.ports q plan.ports low (vlan_has (port_set p.ports) p.database.vlans vid q plan.vlans.each member)

-- A frame without an egress port among the plan's ports has no egress port.
pub goes_nowhere : {A : Type 0} (p : Plan A) (port vid : ℕ) (da : List ℕ) → IsPlan p → ((q : ℕ) (out : PortPlan A) → find_port p.ports q ≡ Some out → has_port (forward p.database port vid da) q ≡ false) → IsEmpty (forward p.database port vid da)
goes_nowhere p port vid da plan none q low high = elim (cases_Bool (has_port (forward p.database port vid da) q)) [
  | inl e ↦ let (out, at) = goes_to_a_port p port vid da q plan low e in absurd (false≢true (sym (none q out at) ∙ e))
  | inr e ↦ e
]
