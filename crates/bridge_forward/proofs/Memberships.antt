-- Membership in sets of ports, port by port.
use Rattle.std.proofs.Common.{◌≡◌, ◌≢◌, ℕ, zero, suc, ◌+◌, ◌-◌, ◌^◌, ◌<◌, ◌≤◌, Bool, true, false, not, ◌&&◌, nat_eq, min, Option, Some, None, cond, bit_and, inl, inr, refl, sym, ap, ◌∙◌, arith}
use Rattle.std.specs.Int.{bit_at, w16}
use Rattle.std.proofs.lemmas.Bool.{cases_Bool, cases_eq, and_parts, and_left, and_right, eq-eqb, ne_eqb, false≢true}
use Rattle.std.proofs.lemmas.Bool.Decides.{nat_tests}
use Rattle.std.proofs.lemmas.Nat.{and_le_r, pow_below}
use Rattle.std.proofs.lemmas.Nat.Bits.{same_from_bits_below, bit_at-lt, bit_at_and, bit_at_not, bit_at-zero, bit_at-pow_same, bit_at-pow_other}
use Rattle.bridge_forward.specs.Ports.{has_port, without_port, IsEmpty}
use Rattle.bridge_forward.specs.Forward.{allowed_members, output_ports}
use Rattle.bridge_forward.specs.PortRule.{has_port_or}

one_of_both : (x y : ℕ) → x < 2 → y < 2 → nat_eq (min x y) 1 ≡ (nat_eq x 1 && nat_eq y 1)
one_of_both zero zero a b = refl
one_of_both zero (suc zero) a b = refl
one_of_both (suc zero) zero a b = refl
one_of_both (suc zero) (suc zero) a b = refl
one_of_both (suc (suc x)) y a b = absurd (omega arith)
one_of_both x (suc (suc y)) a b = absurd (omega arith)

-- A port is in the intersection of two sets exactly if it is in both.
pub has_both : (a b q : ℕ) → has_port (bit_and a b) q ≡ (has_port a q && has_port b q)
has_both a b q =
    let i = q - 1 in
    ap (λ n. nat_eq n 1) (bit_at_and a b i) ∙ one_of_both (bit_at a i) (bit_at b i) (bit_at-lt a i) (bit_at-lt b i)

pub has_none : (q : ℕ) → has_port 0 q ≡ false
has_none q = ap (λ n. nat_eq n 1) (bit_at-zero (q - 1))

-- The set of all ports without `port` contains each other port.
others : (port q : ℕ) → 1 ≤ port → port ≤ 16 → 1 ≤ q → q ≤ 16 → has_port (65535 - 2 ^ (port - 1)) q ≡ not (nat_eq q port)
others port q p p' r r' =
    let k = port - 1 in
    let i = q - 1 in
    let turned : bit_at (65535 - 2 ^ k) i ≡ 1 - bit_at (2 ^ k) i = bit_at_not w16 (2 ^ k) i (pow_below k 16 (omega arith)) (omega arith) in
    elim (cases_eq q port) [
      | inl e ↦
          let same : bit_at (2 ^ k) i ≡ 1 = rw e (bit_at-pow_same k) in
          let none : bit_at (65535 - 2 ^ k) i ≡ 0 = omega arith in
          rw (none, eq-eqb q port e) refl
      | inr n ↦
          let apart : i ≢ k = λ e. n (omega arith) in
          let off : bit_at (2 ^ k) i ≡ 0 = bit_at-pow_other k i apart in
          let one : bit_at (65535 - 2 ^ k) i ≡ 1 = omega arith in
          rw (one, ne_eqb q port n) refl
    ]

-- A port is in a set without `port` exactly if it is in the set and isn't `port`.
pub has_without : (set port q : ℕ) → 1 ≤ port → port ≤ 16 → 1 ≤ q → q ≤ 16 → has_port (without_port set port) q ≡ (has_port set q && not (nat_eq q port))
has_without set port q p p' r r' = has_both set (65535 - 2 ^ (port - 1)) q ∙ ap (λ b. has_port set q && b) (others port q p p' r r')

and_true : (b : Bool) → b ≡ (b && true)
and_true true = refl
and_true false = refl

and_swapped : (a b : Bool) → (a && b) ≡ (b && a)
and_swapped true true = refl
and_swapped true false = refl
and_swapped false true = refl
and_swapped false false = refl

and_last : (a b c : Bool) → (a && b && c) ≡ (a && c && b)
and_last true b c = and_swapped b c
and_last false b c = refl

-- An allowed egress port is a member and, if a static entry exists, a port of that entry.
has_allowed : (members : ℕ) (entry : Option ℕ) (q : ℕ) → has_port (allowed_members members entry) q ≡ (has_port members q && has_port_or true entry q)
has_allowed members None q = and_true (has_port members q)
has_allowed members (Some ports) q = has_both ports members q ∙ and_swapped (has_port ports q) (has_port members q)

-- Decides for each port whether it is an egress port of a frame.
pub has_goes_to : (reserved : Bool) (members entry : Option ℕ) (port q : ℕ) → 1 ≤ port → port ≤ 16 → 1 ≤ q → q ≤ 16 →
    has_port (cond reserved 0 (output_ports members entry port)) q ≡ (not reserved && has_port_or false members port && has_port_or false members q && not (nat_eq q port) && has_port_or true entry q)
has_goes_to true members entry port q p p' r r' = has_none q
has_goes_to false None entry port q p p' r r' = has_none q
has_goes_to false (Some m) entry port q p p' r r' = elim (cases_Bool (has_port m port)) [
  | inl e ↦ rw e (has_without (allowed_members m entry) port q p p' r r' ∙ (ap (λ b. b && not (nat_eq q port)) (has_allowed m entry q) ∙ and_last (has_port m q) (has_port_or true entry q) (not (nat_eq q port))))
  | inr e ↦ rw e (has_none q)
]

-- A frame goes only to members of its VLAN.
pub members_only : (reserved : Bool) (members entry : Option ℕ) (port q : ℕ) → has_port (cond reserved 0 (output_ports members entry port)) q ≡ true → has_port_or false members q ≡ true
members_only true members entry port q h = absurd (false≢true (sym (has_none q) ∙ h))
members_only false None entry port q h = sym (has_none q) ∙ h
members_only false (Some m) entry port q h =
    let kept : ℕ = without_port (allowed_members m entry) port in
    elim (cases_Bool (has_port m port)) [
      | inl e ↦
          let here : has_port kept q ≡ true = rw e at h in
          let there = and_parts (has_port (allowed_members m entry) q) (has_port (65535 - 2 ^ (port - 1)) q) (sym (has_both (allowed_members m entry) (65535 - 2 ^ (port - 1)) q) ∙ here) in
          (and_parts (has_port m q) (has_port_or true entry q) (sym (has_allowed m entry q) ∙ there.0)).0
      | inr e ↦
          let none : has_port 0 q ≡ true = rw e at h in
          absurd (false≢true (sym (has_none q) ∙ none))
    ]

-- A frame doesn't return to its ingress port.
pub not_back : (reserved : Bool) (members entry : Option ℕ) (port : ℕ) → 1 ≤ port → port ≤ 16 → has_port (cond reserved 0 (output_ports members entry port)) port ≡ false
not_back reserved members entry port p p' =
    let before = not reserved && has_port_or false members port && has_port_or false members port in
    let same : not (nat_eq port port) ≡ false = ap not (eq-eqb port port refl) in
    has_goes_to reserved members entry port port p p' p p' ∙ and_left (before && not (nat_eq port port)) (has_port_or true entry port) (and_right before (not (nat_eq port port)) same)

-- The egress ports are a set of the ports 1 to 16.
pub goes_to_fits : (reserved : Bool) (members entry : Option ℕ) (port : ℕ) → cond reserved 0 (output_ports members entry port) < 65536
goes_to_fits true members entry port = omega arith
goes_to_fits false None entry port = omega arith
goes_to_fits false (Some m) entry port = elim (cases_Bool (has_port m port)) [
  | inl e ↦ rw e (omega (arith, and_le_r (allowed_members m entry) (65535 - 2 ^ (port - 1))))
  | inr e ↦ rw e (omega arith)
]

-- A set without ports is the number 0.
pub empty_is_zero : (set : ℕ) → set < 65536 → IsEmpty set → set ≡ 0
empty_is_zero set small none = same_from_bits_below 16 set 0 small (omega arith) (λ i l. bit_zero i l ∙ sym (bit_at-zero i))
  where
    bit_zero : (i : ℕ) → i < 16 → bit_at set i ≡ 0
    bit_zero i l =
        let back : (i + 1) - 1 ≡ i = omega arith in
        let off : nat_eq (bit_at set i) 1 ≡ false = rw back at (none (i + 1) (omega arith) (omega arith)) in
        let two = bit_at-lt set i in
        grind (arith, nat_tests)

pub zero_is_empty : IsEmpty 0
zero_is_empty q from to = has_none q
