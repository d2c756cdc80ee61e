-- The set of the ports that exist.
use Rattle.std.proofs.Common.{◌≡◌, ℕ, Bool, true, false, ◌+◌, ◌-◌, ◌*◌, ◌%◌, ◌^◌, ◌<◌, ◌≤◌, List, Option, Some, None, length, suc, arith, refl, ap, ◌∙◌, sym, subst, inl, inr, slice_set, slice_index_or}
use Rattle.std.specs.Prelude.{if◌then◌else◌, nat_eq, bit_or}
use Rattle.std.specs.Option.{is_some}
use Rattle.std.proofs.lemmas.Nat.{shl_whole, or_shifted}
use Rattle.std.specs.Int.{bit_at}
use Rattle.std.proofs.Math.Nat.{two-pow-succ}
use Rattle.std.proofs.lemmas.Bool.{cases_lt}
use Rattle.std.proofs.lemmas.Bool.Decides.{nat_tests}
use Rattle.std.proofs.lemmas.List.{get_or_default}
use Rattle.std.proofs.lemmas.Nat.Bits.{bit_at_cat_low, bit_at_cat_high}
use Rattle.bridge_limits.proofs.Cases.{by_bool}
use Rattle.bridge_forward.specs.Ports.{has_port}
use Rattle.bridge_relay.specs.declared.port_state.PortState.{PortState}
use Rattle.bridge_relay.specs.Ports.{nth_port, is_present, IsPresentSet}
use Rattle.bridge_relay.proofs.Porting.{set_here, set_there}

-- Holds if `present` is the set of the existing ports among the last `n`, moved to the front.
pub record ArePresent {A : Type 0} (slots : List (Option (PortState A))) (n present : ℕ) : Type 0 where
  pub few : present < 2 ^ n
  pub each : (q : ℕ) → 1 ≤ q → q ≤ n → has_port present q ≡ is_present (nth_port slots (q + (16 - n)))

pub present_start : {A : Type 0} (slots : List (Option (PortState A))) → ArePresent slots 0 0
present_start slots = record { few = omega arith; each = λ q low few. absurd (omega (arith, low, few)) }

bit_is : {A : Type 0} (o : Option (PortState A)) (own : ℕ) → own ≡ (if is_present o then 1 else 0) → (own < 2) × (nat_eq (bit_at own 0) 1 ≡ is_present o)
bit_is None own is = rw is (omega arith, refl)
bit_is (Some s) own is = rw is (omega arith, refl)

some_is : {A : Type 0} (o : Option (PortState A)) → is_some o ≡ is_present o
some_is None = refl
some_is (Some s) = refl

pub flag_yes : {A : Type 0} (o : Option (PortState A)) (b : Bool) (own : ℕ) → b ≡ is_some o → b ≡ true → own ≡ 1 → own ≡ (if is_present o then 1 else 0)
flag_yes o b own is there one = one ∙ ap (λ (x : Bool). if x then 1 else 0) (sym there ∙ (is ∙ some_is o))

pub flag_no : {A : Type 0} (o : Option (PortState A)) (b : Bool) (own : ℕ) → b ≡ is_some o → b ≡ false → own ≡ 0 → own ≡ (if is_present o then 1 else 0)
flag_no o b own is absent none = none ∙ ap (λ (x : Bool). if x then 1 else 0) (sym absent ∙ (is ∙ some_is o))

-- One more port in front.
pub present_next : {A : Type 0} (slots : List (Option (PortState A))) (n present own : ℕ) (o : Option (PortState A)) → length slots ≡ 16 → n < 16 → ArePresent slots n present → o ≡ slice_index_or slots (15 - n) o → own ≡ (if is_present o then 1 else 0) → ArePresent slots (n + 1) (bit_or (present * 2 ^ 1 % 2 ^ 16) own)
present_next {A} slots n present own o size here was at is =
    let next = bit_or (present * 2 ^ 1 % 2 ^ 16) own in
    let bit = bit_is o own is in
    let low_own = bit.0 in
    let before = was.few in
    let grown : next ≡ present * 2 ^ 1 + own = ap (λ (x : ℕ). bit_or x own) (shl_whole present n 1 16 before (omega (arith, here))) ∙ or_shifted present 1 own low_own in
    let twice = two-pow-succ n in
    let up : n + 1 ≡ suc n = omega arith in
    let wide : 2 ^ (n + 1) ≡ 2 ^ suc n = ap (λ (m : ℕ). 2 ^ m) up in
    let there : nth_port slots (1 + (16 - (n + 1))) ≡ o =
    (let place : 1 + (16 - (n + 1)) - 1 ≡ 15 - n = omega (arith, here) in
    ap (λ (k : ℕ). slice_index_or slots k None) place ∙ (get_or_default slots (15 - n) None o (omega (arith, size, here)) ∙ sym at)) in
    record {
      few = omega (arith, grown, low_own, before, twice, wide);
      each = λ q low high. elim (cases_lt 1 q) [
        | inl more ↦
            (let moved : q - 1 + (16 - n) ≡ q + (16 - (n + 1)) = omega (arith, here, low) in
            ap (λ (x : ℕ). nat_eq (bit_at x (q - 1)) 1) grown
            ∙ (ap (λ (x : ℕ). nat_eq x 1) (bit_at_cat_high present 1 own (q - 1) low_own (omega (arith, more)))
            ∙ (was.each (q - 1) (omega (arith, more)) (omega (arith, high))
            ∙ ap (λ (k : ℕ). is_present (nth_port slots k)) moved)))
        | inr first ↦
            (let one : q ≡ 1 = omega (arith, low, first) in
            subst (λ (k : ℕ). has_port next k ≡ is_present (nth_port slots (k + (16 - (n + 1))))) (sym one)
            (ap (λ (x : ℕ). nat_eq (bit_at x 0) 1) grown
            ∙ (ap (λ (x : ℕ). nat_eq x 1) (bit_at_cat_low present 1 own 0 (omega arith))
            ∙ (bit.1 ∙ ap is_present (sym there)))))
      ];
    }

pub present_end : {A : Type 0} (slots : List (Option (PortState A))) (present : ℕ) → ArePresent slots 16 present → IsPresentSet slots present
present_end slots present all q low few = let same : q + (16 - 16) ≡ q = omega arith in all.each q low few ∙ ap (λ (k : ℕ). is_present (nth_port slots k)) same

-- A port that changes still exists.
pub present_kept : {A : Type 0} (slots : List (Option (PortState A))) (present p : ℕ) (s new : PortState A) → IsPresentSet slots present → 1 ≤ p → p - 1 < length slots → nth_port slots p ≡ Some s → IsPresentSet (slice_set slots (p - 1) (Some new)) present
present_kept slots present p s new was from within there q low few = by_bool (nat_eq q p)
    (λ y.
    let same : p ≡ q = grind (arith, nat_tests) in
    subst (λ (k : ℕ). has_port present k ≡ is_present (nth_port (slice_set slots (p - 1) (Some new)) k)) same
    (was p from (let e : p ≡ q = same in omega (arith, e, few)) ∙ (ap is_present there ∙ sym (ap is_present (set_here slots p (Some new) within)))))
    (λ y. was q low few ∙ sym (ap is_present (set_there slots q p (Some new) low from y)))
